-- The first so many of a list.
use Rattle.std.proofs.Common.{◌≡◌, ℕ, zero, suc, ◌+◌, ◌<◌, ◌≤◌, Bool, true, false, cond, Some, slice_get, List, [], ◌∷◌, ◌++◌, take, drop, map, length, refl, ap, sym, ◌∙◌, arith}
use Rattle.std.specs.List.{prefix_len}
use Rattle.hr_records.specs.AtReplica.{Begins}
use Rattle.hr_records.proofs.Options.{some_none, same_some}

-- who is of the first so many stands there in the list
pub of_first : {X : Type 0} (m : ℕ) (xs : List X) (i : ℕ) (x : X) → slice_get (take m xs) i ≡ Some x → (i < m) × (slice_get xs i ≡ Some x)
of_first zero xs i x e = absurd (some_none x (sym e))
of_first (suc m) [] i x e = absurd (some_none x (sym e))
of_first (suc m) (y ∷ xs) zero x e = (omega arith, e)
of_first (suc m) (y ∷ xs) (suc i) x e = let rest = of_first m xs i x e in (omega (arith, rest.0), rest.1)

module _ {X : Type 0} where
  abbrev tail_of : List X → List X
  tail_of [] = []
  tail_of (w ∷ ws) = ws

  abbrev head_of : X → List X → X
  head_of d [] = d
  head_of d (w ∷ ws) = w

  filled : (x : X) (xs : List X) → x ∷ xs ≡ [] → ⊥
  filled x xs e = cc

  -- a beginning that is no longer begins the first so many
  pub begins_first : (m : ℕ) (front all : List X) → length front ≤ m → Begins front all → Begins front (take m all)
  begins_first m [] all le b = (take m all, refl)
  begins_first zero (x ∷ front) all le b = absurd (omega (arith, le))
  begins_first (suc m) (x ∷ front) [] le b = absurd (filled x (front ++ b.0) b.1)
  begins_first (suc m) (x ∷ front) (y ∷ all) le b =
      let rest = begins_first m front all (omega (arith, le)) (b.0, ap tail_of b.1) in
      (rest.0, λ i. ap (head_of x) b.1 i ∷ rest.1 i)

  pub first_short : (n : ℕ) (xs : List X) → length (take n xs) ≤ n
  first_short zero xs = omega arith
  first_short (suc n) [] = omega arith
  first_short (suc n) (x ∷ xs) = omega (arith, first_short n xs)

  -- who comes after the first so many stands there in the list
  pub got_later : (n : ℕ) (xs : List X) (i : ℕ) (x : X) → slice_get (drop n xs) i ≡ Some x → slice_get xs (n + i) ≡ Some x
  got_later zero xs i x e = let place : i ≡ 0 + i = omega arith in ap (slice_get xs) (sym place) ∙ e
  got_later (suc n) [] i x e = absurd (some_none x (sym e))
  got_later (suc n) (y ∷ xs) i x e =
      let place : suc (n + i) ≡ suc n + i = omega arith in
      ap (slice_get (y ∷ xs)) (sym place) ∙ got_later n xs i x e

pub map_first : {X Y : Type 0} (g : X → Y) (m : ℕ) (xs : List X) → map g (take m xs) ≡ take m (map g xs)
map_first g zero xs = refl
map_first g (suc m) [] = refl
map_first g (suc m) (x ∷ xs) = ap (λ l. g x ∷ l) (map_first g m xs)

pass_by : (p : ℕ → Bool) (x : ℕ) (xs : List ℕ) (m : ℕ) (b : Bool) → p x ≡ b → suc m ≤ cond b (1 + prefix_len p xs) 0 → (i t : ℕ) → i < suc m → slice_get (x ∷ xs) i ≡ Some t
    → (m ≤ prefix_len p xs → (n : ℕ) → n < m → slice_get xs n ≡ Some t → p t ≡ true) → p t ≡ true
pass_by p x xs m true passes le zero t lt e rest = ap p (sym (same_some x t e)) ∙ passes
pass_by p x xs m true passes le (suc n) t lt e rest = rest (omega (arith, le)) n (omega (arith, lt)) e
pass_by p x xs m false fails le i t lt e rest = absurd (omega (arith, le))

-- those within a front that passes pass
pub first_pass : (p : ℕ → Bool) (xs : List ℕ) (m : ℕ) → m ≤ prefix_len p xs → (i t : ℕ) → i < m → slice_get xs i ≡ Some t → p t ≡ true
first_pass p xs zero le i t lt e = absurd (omega (arith, lt))
first_pass p [] (suc m) le i t lt e = absurd (some_none t (sym e))
first_pass p (x ∷ xs) (suc m) le i t lt e = pass_by p x xs m (p x) refl le i t lt e (λ more n lt_n d. first_pass p xs m more n t lt_n d)
