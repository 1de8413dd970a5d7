-- The least problem of parts that are put together.
use Rattle.std.proofs.Common.{◌≡◌, ◌≤◌, Option, Some, None, List, [], ◌∷◌, ◌++◌, length, get_or, take, drop, ◌-◌, flat_map, refl, sym, ap, ◌∙◌, arith}
use Rattle.std.proofs.lemmas.List.{take_rest}
use Rattle.hr_problem.specs.declared.problem.Problem.{Problem}
use Rattle.hr_problem.specs.Problems.{least}
use Rattle.hr_problem.specs.Sooner.{sooner}
use Rattle.hr_problem.proofs.Least.{least_append}

pub both : (a b r : Option Problem) (xs ys : List Problem) → r ≡ sooner a b → a ≡ least xs → b ≡ least ys → r ≡ least (xs ++ ys)
both a b r xs ys s x y = s ∙ ap (λ (z : Option Problem). sooner z b) x ∙ ap (sooner (least xs)) y ∙ sym (least_append xs ys)

-- what stands behind the first
abbrev pub rest_of : {X : Type 0} → List X → List X
rest_of xs = take (length xs - 1) (drop 1 xs)

pub split : {X : Type 0} (xs : List X) (x : X) → 1 ≤ length xs → x ≡ get_or xs 0 x → x ∷ rest_of xs ≡ xs
split [] x n e = absurd (omega (arith, n))
split (y ∷ ys) x n e = ap (λ zs. x ∷ zs) (take_rest (y ∷ ys) 1) ∙ ap (λ z. z ∷ ys) e

-- the first of a list, and the rest
pub listed : {X : Type 0} (f : X → List Problem) (xs : List X) (x : X) (a b r : Option Problem) → 1 ≤ length xs → x ≡ get_or xs 0 x → r ≡ sooner a b → a ≡ least (f x) → b ≡ least (flat_map f (rest_of xs)) → r ≡ least (flat_map f xs)
listed f xs x a b r n e s p q = both a b r (f x) (flat_map f (rest_of xs)) s p q ∙ ap (λ ys. least (flat_map f ys)) (split xs x n e)

pub sooner_none : (a : Option Problem) → sooner a None ≡ a
sooner_none None = refl
sooner_none (Some p) = refl
