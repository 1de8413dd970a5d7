-- Small laws on tests, and on the list words.
use Rattle.std.proofs.Common.{◌≡◌, ℕ, Bool, true, false, not, ◌&&◌, ◌||◌, ◌==◌, if◌then◌else◌, cond, List, [], ◌∷◌, ◌++◌, filter, refl, ap, sym, ◌∙◌, ◌⊎◌, inl, inr, ⊎_elim}
use Rattle.std.specs.Bool.{one_answer}
use Rattle.std.proofs.lemmas.Bool.Decides.{Decides-eqb}
use Rattle.hr_base.specs.Lists.{has, once}

pub eq_turn : (a b : ℕ) → (a == b) ≡ (b == a)
eq_turn a b = one_answer (a == b) (b == a) (Decides-eqb a b) (λ h. sym ((Decides-eqb b a).0 h), λ e. (Decides-eqb b a).1 (sym e))

pub if_false : {X : Type 0} (b : Bool) (x y : X) → b ≡ false → (if b then x else y) ≡ y
if_false true x y e = cc
if_false false x y e = refl

pub if_same : {X : Type 0} (b : Bool) (x y : X) → y ≡ x → (if b then x else y) ≡ x
if_same true x y e = refl
if_same false x y e = e

pub or_false : (a b : Bool) → (a || b) ≡ false → (a ≡ false) × (b ≡ false)
or_false true b h = cc
or_false false b h = (refl, h)

pub and_false : (a b : Bool) → b ≡ false → (a && b) ≡ false
and_false true b e = e
and_false false b e = refl

pub has_end : (ts : List ℕ) (u t : ℕ) → has (ts ++ u ∷ []) t ≡ (has ts t || (u == t))
has_end [] u t = or_nothing (u == t)
  where
    or_nothing : (b : Bool) → (b || false) ≡ b
    or_nothing true = refl
    or_nothing false = refl
has_end (x ∷ ts) u t = ap (λ b. (x == t) || b) (has_end ts u t) ∙ sym (or_assoc (x == t) (has ts t) (u == t))
  where
    or_assoc : (a b c : Bool) → ((a || b) || c) ≡ (a || (b || c))
    or_assoc true b c = refl
    or_assoc false b c = refl

module _ {X : Type 0} (p : X → Bool) where
  filter_head : (x : X) (xs : List X) → p x ≡ true → filter p (x ∷ xs) ≡ x ∷ filter p xs
  filter_head x xs e = ap (λ b. cond b (x ∷ filter p xs) (filter p xs)) e

  filter_drop : (x : X) (xs : List X) → p x ≡ false → filter p (x ∷ xs) ≡ filter p xs
  filter_drop x xs e = ap (λ b. cond b (x ∷ filter p xs) (filter p xs)) e

  by_head : (b : Bool) (x : X) (xs : List X) → p x ≡ b → filter p (filter p xs) ≡ filter p xs → filter p (cond b (x ∷ filter p xs) (filter p xs)) ≡ cond b (x ∷ filter p xs) (filter p xs)
  by_head true x xs e ih = filter_head x (filter p xs) e ∙ ap (λ ys. x ∷ ys) ih
  by_head false x xs e ih = ih

  pub filter_again : (xs : List X) → filter p (filter p xs) ≡ filter p xs
  filter_again [] = refl
  filter_again (x ∷ xs) = by_head (p x) x xs refl (filter_again xs)

  module _ (q : X → Bool) where
    turn_heads : (a b : Bool) (x : X) (xs : List X) → p x ≡ a → q x ≡ b → filter p (filter q xs) ≡ filter q (filter p xs)
        → filter p (cond b (x ∷ filter q xs) (filter q xs)) ≡ filter q (cond a (x ∷ filter p xs) (filter p xs))
    turn_heads true true x xs e d ih = filter_head x (filter q xs) e ∙ ap (λ ys. x ∷ ys) ih ∙ ap (λ b. cond b (x ∷ filter q (filter p xs)) (filter q (filter p xs))) (sym d)
    turn_heads true false x xs e d ih = ih ∙ ap (λ b. cond b (x ∷ filter q (filter p xs)) (filter q (filter p xs))) (sym d)
    turn_heads false true x xs e d ih = filter_drop x (filter q xs) e ∙ ih
    turn_heads false false x xs e d ih = ih

    pub filters_turn : (xs : List X) → filter p (filter q xs) ≡ filter q (filter p xs)
    filters_turn [] = refl
    filters_turn (x ∷ xs) = turn_heads (p x) (q x) x xs refl refl (filters_turn xs)

-- a test that x fails may drop x first
module _ (p : ℕ → Bool) (x : ℕ) (fails : p x ≡ false) where
  drop_by : (b : Bool) (y : ℕ) (ys : List ℕ) → (y == x) ≡ b → filter p (filter (λ u. not (u == x)) ys) ≡ filter p ys
      → filter p (cond (not (y == x)) (y ∷ filter (λ u. not (u == x)) ys) (filter (λ u. not (u == x)) ys)) ≡ filter p (y ∷ ys)
  drop_by true y ys e ih =
      let same : y ≡ x = (Decides-eqb y x).0 e in
      ap (λ b. filter p (cond (not b) (y ∷ filter (λ u. not (u == x)) ys) (filter (λ u. not (u == x)) ys))) e
      ∙ ih ∙ sym (filter_drop p y ys (ap p same ∙ fails))
  drop_by false y ys e ih =
      ap (λ b. filter p (cond (not b) (y ∷ filter (λ u. not (u == x)) ys) (filter (λ u. not (u == x)) ys))) e
      ∙ ap (λ zs. cond (p y) (y ∷ zs) zs) ih

  pub drop_first : (ys : List ℕ) → filter p (filter (λ u. not (u == x)) ys) ≡ filter p ys
  drop_first [] = refl
  drop_first (y ∷ ys) = drop_by (y == x) y ys refl (drop_first ys)

module _ (p : ℕ → Bool) where
  once_heads : (b : Bool) (x : ℕ) (xs : List ℕ) → p x ≡ b → once (filter p xs) ≡ filter p (once xs)
      → once (cond b (x ∷ filter p xs) (filter p xs)) ≡ filter p (x ∷ filter (λ u. not (u == x)) (once xs))
  once_heads true x xs e ih =
      ap (λ ys. x ∷ filter (λ u. not (u == x)) ys) ih ∙ ap (λ ys. x ∷ ys) (filters_turn (λ u. not (u == x)) p (once xs))
      ∙ sym (filter_head p x (filter (λ u. not (u == x)) (once xs)) e)
  once_heads false x xs e ih = ih ∙ sym (drop_first p x e (once xs)) ∙ sym (filter_drop p x (filter (λ u. not (u == x)) (once xs)) e)

  pub once_filter : (xs : List ℕ) → once (filter p xs) ≡ filter p (once xs)
  once_filter [] = refl
  once_filter (x ∷ xs) = once_heads (p x) x xs refl (once_filter xs)

pub once_again : (xs : List ℕ) → once (once xs) ≡ once xs
once_again [] = refl
once_again (x ∷ xs) =
    let q = λ (u : ℕ). not (u == x) in
    ap (λ ys. x ∷ filter q ys) (once_filter q (once xs)) ∙ ap (λ ys. x ∷ ys) (filter_again q (once (once xs))) ∙ ap (λ ys. x ∷ filter q ys) (once_again xs)

pub or_split : (a b : Bool) → (a || b) ≡ true → (a ≡ true) ⊎ (b ≡ true)
or_split true b h = inl refl
or_split false b h = inr h

pub or_second : (a b : Bool) → b ≡ true → (a || b) ≡ true
or_second true b h = refl
or_second false b h = h

pub or_first : (a b : Bool) → a ≡ true → (a || b) ≡ true
or_first true b h = refl
or_first false b h = cc

-- a part of a list has what the list has
part_of_head : (b : Bool) (x u : ℕ) (xs ys : List ℕ) → (has ys u ≡ true → has xs u ≡ true) → has (cond b (x ∷ ys) ys) u ≡ true → ((x == u) || has xs u) ≡ true
part_of_head true x u xs ys more h =
    ⊎_elim (λ (e : (x == u) ≡ true). or_first (x == u) (has xs u) e) (λ (e : has ys u ≡ true). or_second (x == u) (has xs u) (more e)) (or_split (x == u) (has ys u) h)
part_of_head false x u xs ys more h = or_second (x == u) (has xs u) (more h)

pub in_filter : (p : ℕ → Bool) (xs : List ℕ) (u : ℕ) → has (filter p xs) u ≡ true → has xs u ≡ true
in_filter p [] u h = h
in_filter p (x ∷ xs) u h = part_of_head (p x) x u xs (filter p xs) (λ e. in_filter p xs u e) h

pub in_once : (xs : List ℕ) (u : ℕ) → has (once xs) u ≡ true → has xs u ≡ true
in_once [] u h = h
in_once (x ∷ xs) u h = part_of_head true x u xs (filter (λ v. not (v == x)) (once xs)) (λ e. in_once xs u (in_filter (λ v. not (v == x)) (once xs) u e)) h

-- what is in a list stays in it once, and where it passes the test
kept_head : (b : Bool) (p : ℕ → Bool) (x u : ℕ) (xs : List ℕ) → p x ≡ b → p u ≡ true → (has xs u ≡ true → has (filter p xs) u ≡ true) → ((x == u) || has xs u) ≡ true → has (cond b (x ∷ filter p xs) (filter p xs)) u ≡ true
kept_head true p x u xs e passes more h =
    ⊎_elim (λ (d : (x == u) ≡ true). or_first (x == u) (has (filter p xs) u) d) (λ (d : has xs u ≡ true). or_second (x == u) (has (filter p xs) u) (more d)) (or_split (x == u) (has xs u) h)
kept_head false p x u xs e passes more h =
    ⊎_elim (λ (d : (x == u) ≡ true). absurd (no_both (sym (ap p ((Decides-eqb x u).0 d) ∙ passes) ∙ e))) (λ (d : has xs u ≡ true). more d) (or_split (x == u) (has xs u) h)
  where
    no_both : true ≡ false → ⊥
    no_both q = cc q

pub kept : (p : ℕ → Bool) (u : ℕ) (xs : List ℕ) → p u ≡ true → has xs u ≡ true → has (filter p xs) u ≡ true
kept p u [] passes h = h
kept p u (x ∷ xs) passes h = kept_head (p x) p x u xs refl passes (λ d. kept p u xs passes d) h

once_head : (b : Bool) (x u : ℕ) (xs : List ℕ) → (x == u) ≡ b → (has xs u ≡ true → has (once xs) u ≡ true) → (b || has xs u) ≡ true → (b || has (filter (λ v. not (v == x)) (once xs)) u) ≡ true
once_head true x u xs e more h = refl
once_head false x u xs e more h = kept (λ v. not (v == x)) u (once xs) (turned (u == x) refl) (more h)
  where
    turned : (c : Bool) → (u == x) ≡ c → not (u == x) ≡ true
    turned true d = cc (sym ((Decides-eqb x u).1 (sym ((Decides-eqb u x).0 d))) ∙ e)
    turned false d = ap not d

pub kept_once : (xs : List ℕ) (u : ℕ) → has xs u ≡ true → has (once xs) u ≡ true
kept_once [] u h = h
kept_once (x ∷ xs) u h = once_head (x == u) x u xs refl (λ d. kept_once xs u d) h
