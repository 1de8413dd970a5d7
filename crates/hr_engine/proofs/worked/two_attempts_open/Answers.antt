use Rattle.std.proofs.Common.{[], ◌∷◌, refl}
use Rattle.hr_rel.specs.declared.answer.Answer.TheVariants.{Rows}
use Rattle.hr_meaning.specs.Worked.{holding, row, one}
use Rattle.hr_meaning.proofs.Folds.{folds}
use Rattle.hr_engine.specs.Worked.{inserts, two_open}
use Rattle.hr_engine.proofs.SameAnswers.{same_itself}
use Rattle.hr_engine.proofs.Orders.{one_runs, two_run}
use Rattle.hr_engine.proofs.WorkedLemmas.{only_first, only_two}
use Rattle.hr_engine.proofs.worked.two_attempts_open.Goals as goal

pub returns-clause-rigorous : goal.returns-clause-rigorous
returns-clause-rigorous c =
    let db = holding (row 1 10 ∷ []) in
    let first = one_runs db (inserts 1 5 50 ∷ []) 1 (only_first 1 _ _) ((refl, tt), tt) in
    let both = two_run db two_open 1 2 (only_two 1 _ _ 2 _ _) (simp folds ((refl, tt), ((same_itself (Rows (one 10 ∷ [])), tt), tt))) (simp folds ((same_itself (Rows (one 10 ∷ [])), tt), ((refl, tt), tt))) in
    ((tt, tt, first), tt, both)
