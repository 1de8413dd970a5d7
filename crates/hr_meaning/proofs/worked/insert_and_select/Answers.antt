use Rattle.std.proofs.Common.{refl}
use Rattle.hr_meaning.proofs.Folds.{folds}
use Rattle.hr_meaning.proofs.worked.insert_and_select.Goals as goal

pub returns-clause-reads : goal.returns-clause-reads
returns-clause-reads c = simp folds refl

pub returns-clause-played : goal.returns-clause-played
returns-clause-played c = simp folds refl

pub returns-clause-left : goal.returns-clause-left
returns-clause-left c = simp folds refl
