-- Lists in which one element is changed.
use Rattle.std.proofs.Common.{◌≡◌, ℕ, zero, suc, ◌+◌, ◌<◌, Bool, true, false, ◌==◌, if◌then◌else◌, Option, Some, None, unwrap_or, List, [], ◌∷◌, length, map, slice_get, slice_set, slice_index_or, refl, ap, sym, ◌∙◌, arith}
use Rattle.std.specs.Option.{option_map}
use Rattle.std.proofs.lemmas.Bool.{ne_eqb, eq-eqb}
use Rattle.hr_base.specs.Lists.{numbered}
use Rattle.hr_base.proofs.Tests.{if_false}
use Rattle.hr_moves.specs.Changes.{map_from, change_at}

if_true : {X : Type 0} (b : Bool) (x y : X) → b ≡ true → (if b then x else y) ≡ x
if_true true x y e = refl
if_true false x y e = cc

module _ {X : Type 0} where
  pub changed_here : (m n : ℕ) (g : X → X) (x : X) → n ≡ m → change_at m g n x ≡ g x
  changed_here m n g x e = if_true (n == m) (g x) x (eq-eqb n m e)

  pub unchanged_else : (m n : ℕ) (g : X → X) (x : X) → (n ≡ m → ⊥) → change_at m g n x ≡ x
  unchanged_else m n g x differ = if_false (n == m) (g x) x (ne_eqb n m differ)

  -- what comes after the changed one stays
  pub past : (g : X → X) (m n : ℕ) (xs : List X) → m < n → map_from (change_at m g) n xs ≡ xs
  past g m n [] h = refl
  past g m n (x ∷ xs) h = λ i. unchanged_else m n g x (λ e. omega (arith, h, e)) i ∷ past g m (n + 1) xs (omega (arith, h)) i

  pub length_from : (h : ℕ → X → X) (n : ℕ) (xs : List X) → length (map_from h n xs) ≡ length xs
  length_from h n [] = refl
  length_from h n (x ∷ xs) = ap (λ k. suc k) (length_from h (n + 1) xs)

  pub got_from : (h : ℕ → X → X) (n i j : ℕ) (xs : List X) → j ≡ n + i → slice_get (map_from h n xs) i ≡ option_map (h j) (slice_get xs i)
  got_from h n i j [] e = refl
  got_from h n zero j (x ∷ xs) e = let same : n ≡ j = omega (arith, e) in ap (λ k. Some (h k x)) same
  got_from h n (suc i) j (x ∷ xs) e = got_from h (n + 1) i j xs (omega (arith, e))

  pub numbered_from : (h : ℕ → X → X) (t : ℕ) (xs : List X) → numbered (map_from h 1 xs) t ≡ option_map (h t) (numbered xs t)
  numbered_from h zero xs = refl
  numbered_from h (suc i) xs = got_from h 1 i (suc i) xs (omega arith)

  pub got_else : (g : X → X) (t u : ℕ) (o : Option X) (d : X) → (u ≡ t → ⊥) → unwrap_or (option_map (change_at t g u) o) d ≡ unwrap_or o d
  got_else g t u None d differ = refl
  got_else g t u (Some x) d differ = unchanged_else t u g x differ

  pub got_here : (g : X → X) (t : ℕ) (o : Option X) (d x : X) → o ≡ Some x → unwrap_or (option_map (change_at t g t) o) d ≡ g (unwrap_or o d)
  got_here g t o d x e = ap (λ p. unwrap_or (option_map (change_at t g t) p) d) e ∙ changed_here t t g x refl ∙ ap (λ p. g (unwrap_or p d)) (sym e)

  -- what the change keeps is kept of each
  pub got_kept : {Y : Type 0} (h : X → Y) (g : X → X) (t u : ℕ) (o : Option X) (d : X) → ((x : X) → h (g x) ≡ h x) → h (unwrap_or (option_map (change_at t g u) o) d) ≡ h (unwrap_or o d)
  got_kept h g t u None d keeps = refl
  got_kept h g t u (Some x) d keeps = by (u == t)
    where
      by : (b : Bool) → h (if b then g x else x) ≡ h x
      by true = keeps x
      by false = refl

module _ {X Y : Type 0} (view : X → Y) where
  -- a change of one is seen as a change of what is seen of it
  pub map_changed : (g : X → X) (k : Y → Y) (t n : ℕ) (xs : List X) → ((x : X) → view (g x) ≡ k (view x)) → map view (map_from (change_at t g) n xs) ≡ map_from (change_at t k) n (map view xs)
  map_changed g k t n [] e = refl
  map_changed g k t n (x ∷ xs) e = λ i. by (n == t) i ∷ map_changed g k t (n + 1) xs e i
    where
      by : (b : Bool) → view (if b then g x else x) ≡ (if b then k (view x) else view x)
      by true = e x
      by false = refl

  -- a list with one set anew
  pub set_changed : (k : Y → Y) (xs : List X) (i n m : ℕ) (x y : X) → m ≡ n + i → i < length xs → x ≡ slice_index_or xs i x → view y ≡ k (view x)
      → map view (slice_set xs i y) ≡ map_from (change_at m k) n (map view xs)
  set_changed k [] i n m x y e h at same = absurd (omega (arith, h))
  set_changed k (z ∷ xs) zero n m x y e h at same = λ j. (same ∙ ap (λ w. k (view w)) at ∙ sym (changed_here m n k (view z) (omega (arith, e)))) j ∷ sym (past k m (n + 1) (map view xs) (omega (arith, e))) j
  set_changed k (z ∷ xs) (suc i) n m x y e h at same = λ j. sym (unchanged_else m n k (view z) (λ q. omega (arith, e, q))) j ∷ set_changed k xs i (n + 1) m x y (omega (arith, e)) (omega (arith, h)) at same j
