-- The least problem of a list is in it, and none of the list is before it.
use Rattle.std.proofs.Common.{◌≡◌, ℕ, suc, Bool, true, false, nat_lt, if◌then◌else◌, Option, Some, None, List, [], ◌∷◌, refl, sym, subst, ◌∙◌, arith, All, Contains, slice_index_or}
use Rattle.std.proofs.lemmas.List.Elements.{All-cons}
use Rattle.hr_base.specs.Lists.{earlier}
use Rattle.hr_problem.specs.declared.problem.Problem.{Problem}
use Rattle.hr_problem.specs.Problems.{is_before, least, IsLeast}
use Rattle.hr_problem.proofs.Least.{key, by_key, above}

not_itself : (p : Problem) → is_before p p ≡ false
not_itself p = by_key p p ∙ (grind arith)

asymmetric : (p q : Problem) → is_before p q ≡ true → is_before q p ≡ false
asymmetric p q e = by_key q p ∙ other (key p) (key q) (sym (by_key p q) ∙ e)
  where
    other : (k l : ℕ) → nat_lt k l ≡ true → nat_lt l k ≡ false
    other k l e = grind arith

-- what isn't before one that isn't before a third, isn't before that
through : (p q r : Problem) → is_before q p ≡ false → is_before r q ≡ false → is_before r p ≡ false
through p q r x y = by_key r p ∙ above (key p) (key q) (key r) (sym (by_key q p) ∙ x) (sym (by_key r q) ∙ y)

here : (x : Problem) (xs : List Problem) → Contains (x ∷ xs) x
here x xs = (0, omega arith, refl)

there : (x y : Problem) (xs : List Problem) → Contains xs y → Contains (x ∷ xs) y
there x y xs c = let lt = c.1 in (suc c.0, omega arith, c.2)

-- none of the list is before the second, so none is before the first
all_through : (p q : Problem) (xs : List Problem) → is_before q p ≡ false → All (λ r. is_before r q ≡ false) xs → All (λ r. is_before r p ≡ false) xs
all_through p q xs x h k d lt = through p q (slice_index_or xs k d) x (h k d lt)

chosen : (x y p : Problem) (xs : List Problem) (b : Bool) → is_before y x ≡ b → IsLeast xs y → (if b then y else x) ≡ p → IsLeast (x ∷ xs) p
chosen x y p xs true e h is = subst (IsLeast (x ∷ xs)) is (there x y xs h.0, All-cons (λ q. is_before q y ≡ false) x xs (asymmetric y x e) h.1)
chosen x y p xs false e h is = subst (IsLeast (x ∷ xs)) is (here x xs, All-cons (λ q. is_before q x ≡ false) x xs (not_itself x) (all_through x y xs e h.1))

step : (x p : Problem) (xs : List Problem) (m : Option Problem) → least xs ≡ m → ((y : Problem) → least xs ≡ Some y → IsLeast xs y) → (least xs ≡ None → xs ≡ []) → earlier is_before x m ≡ Some p → IsLeast (x ∷ xs) p
step x p xs None e some none is =
    let same : x ≡ p = cc in
    subst (IsLeast (x ∷ xs)) same (subst (λ ys. IsLeast (x ∷ ys) x) (sym (none e)) (here x [], All-cons (λ q. is_before q x ≡ false) x [] (not_itself x) (λ k d lt. absurd (omega (arith, lt)))))
step x p xs (Some y) e some none is =
    let same : (if is_before y x then y else x) ≡ p = cc in
    chosen x y p xs (is_before y x) refl (some y e) same

pub empty_of : (xs : List Problem) → least xs ≡ None → xs ≡ []
empty_of [] e = refl
empty_of (x ∷ xs) e = absurd (is_there (least xs) e)
  where
    is_there : (m : Option Problem) → earlier is_before x m ≡ None → ⊥
    is_there None f = cc
    is_there (Some y) f = cc

pub first_of_all : (xs : List Problem) (p : Problem) → least xs ≡ Some p → IsLeast xs p
first_of_all [] p e = cc
first_of_all (x ∷ xs) p e = step x p xs (least xs) refl (first_of_all xs) (empty_of xs) e
