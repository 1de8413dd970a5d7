use Rattle.hr_statement_laws.proofs.StillHolds.{keeps_fitting, fitting_is_ordered}
use Rattle.hr_statement_laws.proofs.laws.keeps_fitting.Goals as goal

pub returns-clause-ordered : goal.returns-clause-ordered
returns-clause-ordered c = fitting_is_ordered

pub returns-clause-keeps : goal.returns-clause-keeps
returns-clause-keeps c = keeps_fitting
