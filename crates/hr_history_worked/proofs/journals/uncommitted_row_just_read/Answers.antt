use Rattle.std.proofs.Common.{◌≡◌, ℕ, [], ◌∷◌, refl, subst, arith}
use Rattle.std.proofs.lemmas.List.Sorted.{length_permutation}
use Rattle.hr_rel.specs.declared.answer.Answer.{Answer}
use Rattle.hr_rel.specs.declared.answer.Answer.TheVariants.{Rows}
use Rattle.hr_meaning.specs.SameAnswer.{SameAnswer}
use Rattle.hr_meaning.specs.Exec.{exec}
use Rattle.hr_meaning.specs.Worked.{holding, one, select_v}
use Rattle.hr_meaning.proofs.Folds.{folds}
use Rattle.hr_history_worked.proofs.journals.uncommitted_row_just_read.Goals as goal

-- the reader alone finds no row
pub returns : goal.returns
returns c rigorous =
    let alone = rigorous.2 (2 ∷ []) refl refl in
    let none : (exec (holding []) (select_v 5)).answer ≡ Rows [] = simp folds refl in
    let same = subst (λ (a : Answer). SameAnswer a (Rows (one 50 ∷ []))) none alone.0.0 in
    let size : ◌≡◌ {A = ℕ} 1 0 = length_permutation [] (one 50 ∷ []) same in
    absurd (omega arith)
