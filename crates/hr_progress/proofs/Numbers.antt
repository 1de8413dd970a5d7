-- Lists of the numbers that pass a test.
use Rattle.std.proofs.Common.{◌≡◌, ℕ, zero, suc, Bool, true, false, ◌&&◌, ◌||◌, ◌==◌, cond, Some, List, [], ◌∷◌, filter, refl, ap, sym, ◌∙◌}
use Rattle.std.specs.Prelude.{take_while}
use Rattle.std.proofs.lemmas.Bool.{eq-eqb, eqb-true}
use Rattle.std.proofs.lemmas.List.Sums.{take_while-cons}
use Rattle.hr_base.specs.Lists.{numbered, has}
use Rattle.hr_base.proofs.Tests.{or_first, or_second}

pub filter_same_test : {X : Type 0} (p q : X → Bool) (xs : List X) → ((x : X) → p x ≡ q x) → filter p xs ≡ filter q xs
filter_same_test p q [] same = refl
filter_same_test p q (x ∷ xs) same = λ i. cond (same x i) (x ∷ filter_same_test p q xs same i) (filter_same_test p q xs same i)

-- a filter of a filter
module _ {X : Type 0} (p q : X → Bool) where
  both_head : (b c : Bool) (x : X) (xs : List X) → p x ≡ c → filter p (filter q xs) ≡ filter (λ y. p y && q y) xs
      → filter p (cond b (x ∷ filter q xs) (filter q xs)) ≡ cond (c && b) (x ∷ filter (λ y. p y && q y) xs) (filter (λ y. p y && q y) xs)
  both_head true true x xs e ih = (λ i. cond (e i) (x ∷ filter p (filter q xs)) (filter p (filter q xs))) ∙ ap (λ ys. x ∷ ys) ih
  both_head true false x xs e ih = (λ i. cond (e i) (x ∷ filter p (filter q xs)) (filter p (filter q xs))) ∙ ih
  both_head false true x xs e ih = ih
  both_head false false x xs e ih = ih

  pub filter_both : (xs : List X) → filter p (filter q xs) ≡ filter (λ x. p x && q x) xs
  filter_both [] = refl
  filter_both (x ∷ xs) = both_head (q x) (p x) x xs refl (filter_both xs)

-- what the list has stands at a place
deeper : (x t : ℕ) (xs : List ℕ) → (place : ℕ) × (numbered xs place ≡ Some t) → (place : ℕ) × (numbered (x ∷ xs) place ≡ Some t)
deeper x t xs (zero, e) = cc
deeper x t xs (suc n, e) = (suc (suc n), e)

place_by : (b : Bool) (x t : ℕ) (xs : List ℕ) → (x == t) ≡ b → (has xs t ≡ true → (place : ℕ) × (numbered xs place ≡ Some t)) → (b || has xs t) ≡ true → (place : ℕ) × (numbered (x ∷ xs) place ≡ Some t)
place_by true x t xs e more h = (1, ap (λ y. Some y) (eqb-true x t e))
place_by false x t xs e more h = deeper x t xs (more h)

pub has_place : (xs : List ℕ) (t : ℕ) → has xs t ≡ true → (place : ℕ) × (numbered xs place ≡ Some t)
has_place [] t h = absurd (wrong h)
  where
    wrong : false ≡ true → ⊥
    wrong e = cc
has_place (x ∷ xs) t h = place_by (x == t) x t xs refl (λ d. has_place xs t d) h

-- tests that agree on all of a list take the same front
pub take_while_agree : (p q : ℕ → Bool) (xs : List ℕ) → ((t : ℕ) → has xs t ≡ true → p t ≡ q t) → take_while p xs ≡ take_while q xs
take_while_agree p q [] same = refl
take_while_agree p q (x ∷ xs) same =
    take_while-cons p x xs
    ∙ (λ i. cond (same x (or_first (x == x) (has xs x) (eq-eqb x x refl)) i) (x ∷ take_while_agree p q xs (λ t h. same t (or_second (x == t) (has xs t) h)) i) [])
    ∙ sym (take_while-cons q x xs)
