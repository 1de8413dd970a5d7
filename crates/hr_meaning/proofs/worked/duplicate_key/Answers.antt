use Rattle.std.proofs.Common.{refl}
use Rattle.hr_meaning.proofs.Folds.{folds}
use Rattle.hr_meaning.proofs.worked.duplicate_key.Goals as goal

pub returns-clause-answers : goal.returns-clause-answers
returns-clause-answers c = simp folds refl
