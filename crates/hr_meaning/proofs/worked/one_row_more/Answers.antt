use Rattle.std.proofs.Common.{refl}
use Rattle.hr_meaning.proofs.Folds.{folds}
use Rattle.hr_meaning.proofs.worked.one_row_more.Goals as goal

pub returns-clause-none_found : goal.returns-clause-none_found
returns-clause-none_found c = simp folds refl
