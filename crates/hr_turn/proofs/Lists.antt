-- Beginnings of lists, the entries of one caller, and views counted.
use Rattle.std.proofs.Common.{◌≡◌, ◌≢◌, ℕ, zero, suc, ◌+◌, ◌<◌, ◌≤◌, ◌⊎◌, Bool, true, false, cond, eqb, nat_le, if◌then◌else◌, List, [], ◌∷◌, ◌++◌, length, set, count_by, zero-add, refl, sym, ap, ◌∙◌, inl, inr, eq-eqb, ne_eqb, arith, append_assoc, append-nil, length-append}
use Rattle.std.proofs.lemmas.List.Elements.{filter-append}
use Rattle.std.proofs.lemmas.List.Sums.{sum_by-append}
use Rattle.std.proofs.lemmas.Bool.Decides.{nat_tests}
use mathlib.Core.Option.{some-injective, some-ne-none}
use Rattle.hr_turn.specs.Entries.{Begins, Each, calls_by}
use Rattle.hr_turn.specs.Views.{longer, shorter}
use Rattle.hr_turn.specs.Turns.{IsAt}

module _ {A : Type 0} where
  pub begins_all : (xs : List A) → Begins xs xs
  begins_all xs = ([], sym (append-nil xs))

  pub begins_then : (xs ys zs : List A) → Begins xs ys → Begins ys zs → Begins xs zs
  begins_then xs ys zs a b = (a.0 ++ b.0, b.1 ∙ ap (λ (l : List A). l ++ b.0) a.1 ∙ append_assoc xs a.0 b.0)

  -- of two beginnings of one list, that with no more elements begins the other
  pub begins_longer : (xs ys zs : List A) → Begins xs zs → Begins ys zs → length xs ≤ length ys → Begins xs ys
  begins_longer [] ys zs a b few = (ys, refl)
  begins_longer (x ∷ xs) [] zs a b few = absurd (omega arith)
  begins_longer (x ∷ xs) (y ∷ ys) [] a b few = let e : [] ≡ x ∷ (xs ++ a.0) = a.1 in absurd (cc)
  begins_longer (x ∷ xs) (y ∷ ys) (z ∷ zs) a b few =
      let e : z ∷ zs ≡ x ∷ (xs ++ a.0) = a.1 in
      let f : z ∷ zs ≡ y ∷ (ys ++ b.0) = b.1 in
      let first : y ≡ x = cc in
      let r = begins_longer xs ys zs (a.0, cc) (b.0, cc) (omega arith) in
      (r.0, λ i. first i ∷ r.1 i)

  -- a beginning with as many elements is the whole list
  pub begins_whole : (xs zs : List A) → Begins xs zs → length zs ≤ length xs → xs ≡ zs
  begins_whole xs zs a many = sym (a.1 ∙ ap (λ (l : List A). xs ++ l) (none a.0 (omega (arith, ap length a.1, length-append xs a.0))) ∙ append-nil xs)
    where
      none : (l : List A) → length l ≤ 0 → l ≡ []
      none [] few = refl
      none (x ∷ l) few = absurd (omega arith)

  -- which of two lists is the longer
  pub longer_cases : (P : List A → List A → Type 0) (xs ys : List A) → (length xs ≤ length ys → P ys xs) → (length ys ≤ length xs → P xs ys) → P (longer xs ys) (shorter xs ys)
  longer_cases P xs ys up down = which (nat_le (length xs) (length ys)) refl
    where
      which : (b : Bool) → nat_le (length xs) (length ys) ≡ b → P (if b then ys else xs) (if b then xs else ys)
      which true e = up (grind (arith, nat_tests))
      which false e = down (grind (arith, nat_tests))

  pub at_below : (l : List A) (j : ℕ) (a : A) → IsAt l j a → j < length l
  at_below [] j a e = absurd (some-ne-none a (sym e))
  at_below (x ∷ xs) zero a e = omega arith
  at_below (x ∷ xs) (suc j) a e = let h = at_below xs j a e in omega arith

  pub at_same : (l : List A) (j : ℕ) (a b : A) → IsAt l j a → IsAt l j b → a ≡ b
  at_same l j a b e f = some-injective a b (sym e ∙ f)

  -- what stands in a list with one more is in the list, or is the last
  pub at_end : (l : List A) (a b : A) (j : ℕ) → IsAt (l ++ a ∷ []) j b → IsAt l j b ⊎ ((j ≡ length l) × (a ≡ b))
  at_end [] a b zero e = inr (refl, some-injective a b e)
  at_end [] a b (suc j) e = absurd (some-ne-none b (sym e))
  at_end (x ∷ xs) a b zero e = inl e
  at_end (x ∷ xs) a b (suc j) e = elim (at_end xs a b j e) [ inl t ↦ inl t | inr t ↦ inr (omega (arith, t.0), t.1) ]

  pub each_map : (P Q : A → Type 0) → ((a : A) → P a → Q a) → (l : List A) → Each P l → Each Q l
  each_map P Q f [] h = tt
  each_map P Q f (x ∷ xs) h = (f x h.0, each_map P Q f xs h.1)

module _ {V : Type 0} (p : V → Bool) where
  abbrev pub weight : V → ℕ
  weight v = cond (p v) 1 0

  count-cons : (x : V) (xs : List V) → count_by p (x ∷ xs) ≡ weight x + count_by p xs
  count-cons x xs = sum_by-append weight (x ∷ []) xs ∙ ap (λ (n : ℕ). n + count_by p xs) (zero-add (weight x))

  one_of : (v : V) → p v ≡ true → weight v ≡ 1
  one_of v t = ap (λ (b : Bool). let n : ℕ = cond b 1 0 in n) t

  pub count_set : (l : List V) (i : ℕ) (v w : V) → IsAt l i v → count_by p (set l i w) + weight v ≡ count_by p l + weight w
  count_set [] i v w e = absurd (some-ne-none v (sym e))
  count_set (x ∷ xs) zero v w e = omega (arith, ap weight (some-injective x v e), count-cons x xs, count-cons w xs)
  count_set (x ∷ xs) (suc i) v w e = omega (arith, count_set xs i v w e, count-cons x xs, count-cons x (set xs i w))

  pub count_last : (l : List V) (v : V) → count_by p (l ++ v ∷ []) ≡ count_by p l + weight v
  count_last [] v = omega (arith, count-cons v [])
  count_last (x ∷ xs) v = omega (arith, count_last xs v, count-cons x xs, count-cons x (xs ++ v ∷ []))

  weight_few : (v : V) → weight v ≤ 1
  weight_few v = at_most (p v)
    where
      at_most : (b : Bool) → cond b 1 0 ≤ 1
      at_most true = omega arith
      at_most false = omega arith

  pub count_few : (l : List V) → count_by p l ≤ length l
  count_few [] = omega arith
  count_few (x ∷ xs) = omega (arith, count_few xs, weight_few x, count-cons x xs)

  pub count_some : (l : List V) (i : ℕ) (v : V) → IsAt l i v → p v ≡ true → 0 < count_by p l
  count_some [] i v e t = absurd (some-ne-none v (sym e))
  count_some (x ∷ xs) zero v e t = omega (arith, one_of x (ap p (some-injective x v e) ∙ t), count-cons x xs)
  count_some (x ∷ xs) (suc i) v e t = omega (arith, count_some xs i v e t, count-cons x xs)

  -- where one passes the test, there is no second
  pub count_alone : (l : List V) (i j : ℕ) (v w : V) → count_by p l ≤ 1 → IsAt l i v → p v ≡ true → IsAt l j w → p w ≡ true → i ≡ j
  count_alone [] i j v w few e t f u = absurd (some-ne-none v (sym e))
  count_alone (x ∷ xs) zero zero v w few e t f u = refl
  count_alone (x ∷ xs) zero (suc j) v w few e t f u = absurd (omega (arith, count_some xs j w f u, one_of x (ap p (some-injective x v e) ∙ t), count-cons x xs))
  count_alone (x ∷ xs) (suc i) zero v w few e t f u = absurd (omega (arith, count_some xs i v e t, one_of x (ap p (some-injective x w f) ∙ u), count-cons x xs))
  count_alone (x ∷ xs) (suc i) (suc j) v w few e t f u = ap suc (count_alone xs i j v w (omega (arith, count-cons x xs)) e t f u)

module _ {E : Type 0} (caller : E → ℕ) where
  pub calls-append : (j : ℕ) (xs ys : List E) → calls_by caller j (xs ++ ys) ≡ calls_by caller j xs ++ calls_by caller j ys
  calls-append j xs ys = filter-append (λ (e : E). eqb (caller e) j) xs ys

  -- entries that are all of one caller
  pub calls_own : (j : ℕ) (xs : List E) → Each (λ e. caller e ≡ j) xs → calls_by caller j xs ≡ xs
  calls_own j [] h = refl
  calls_own j (x ∷ xs) h = rw (eq-eqb (caller x) j h.0) (ap (λ (l : List E). x ∷ l) (calls_own j xs h.1))

  pub calls_other : (j k : ℕ) (xs : List E) → Each (λ e. caller e ≡ j) xs → k ≢ j → calls_by caller k xs ≡ []
  calls_other j k [] h n = refl
  calls_other j k (x ∷ xs) h n = rw (ne_eqb (caller x) k (λ e. n (sym e ∙ h.0))) (calls_other j k xs h.1 n)

  none_left : (xs ys zs : List E) → (xs ++ ys) ++ zs ≡ xs → ys ≡ []
  none_left xs [] zs e = refl
  none_left xs (y ∷ ys) zs e = absurd (omega (arith, ap length e, length-append (xs ++ y ∷ ys) zs, length-append xs (y ∷ ys)))

  -- a list between two with the same calls has them too
  pub calls_between : (j : ℕ) (xs ys zs : List E) → Begins xs ys → Begins ys zs → calls_by caller j zs ≡ calls_by caller j xs → calls_by caller j ys ≡ calls_by caller j xs
  calls_between j xs ys zs a b same =
      let C : List E → List E = calls_by caller j in
      let mid : C ys ≡ C xs ++ C a.0 = ap C a.1 ∙ calls-append j xs a.0 in
      let last : C zs ≡ C ys ++ C b.0 = ap C b.1 ∙ calls-append j ys b.0 in
      let none : C a.0 ≡ [] = none_left (C xs) (C a.0) (C b.0) (ap (λ (l : List E). l ++ C b.0) (sym mid) ∙ sym last ∙ same) in
      mid ∙ ap (λ (l : List E). C xs ++ l) none ∙ append-nil (C xs)

  -- where a list has no call, a beginning of it has none
  pub calls_none : (j : ℕ) (xs ys : List E) → Begins xs ys → calls_by caller j ys ≡ [] → calls_by caller j xs ≡ []
  calls_none j xs ys a none = calls_between j [] xs ys (xs, refl) a none
