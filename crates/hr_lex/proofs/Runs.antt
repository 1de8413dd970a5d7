-- The longest run of a class at the front is of that class.
use Rattle.std.proofs.Common.{◌≡◌, ℕ, suc, ◌+◌, Bool, true, List, [], ◌∷◌, take, inl, inr, arith}
use Rattle.std.specs.List.{prefix_len, AllByRecursion}
use Rattle.std.proofs.lemmas.Bool.{cases_Bool}

pub run_passes : (p : ℕ → Bool) (xs : List ℕ) → AllByRecursion (λ x. p x ≡ true) (take (prefix_len p xs) xs)
run_passes p [] = tt
run_passes p (x ∷ xs) =
    let more : 1 + prefix_len p xs ≡ suc (prefix_len p xs) = omega arith in
    elim (cases_Bool (p x)) [ inl e ↦ rw (e, more) (e, run_passes p xs) | inr e ↦ rw e tt ]
