use Rattle.std.proofs.Common.{ℕ, ◌≡◌, [], ◌∷◌, refl, lit<, arith}
use Rattle.std.proofs.lemmas.List.Sorted.{IsPermutation-swap, length_permutation}
use Rattle.hr_meaning.specs.Worked.{one}
use Rattle.hr_meaning.proofs.worked.same_rows.Goals as goal

pub returns-clause-swapped : goal.returns-clause-swapped
returns-clause-swapped c = IsPermutation-swap (one 1 ∷ one 2 ∷ []) (one 2 ∷ one 1 ∷ []) 0 1 (lit< tt) (lit< tt) refl

pub returns-clause-twice : goal.returns-clause-twice
returns-clause-twice c same =
    let size : ◌≡◌ {A = ℕ} 1 2 = length_permutation (one 1 ∷ one 1 ∷ []) (one 1 ∷ []) same in
    absurd (omega arith)
