use Rattle.hr_statement_laws.proofs.Shape.{unfit_fails}
use Rattle.hr_statement_laws.proofs.laws.unfit_fails.Goals as goal

pub returns : goal.returns
returns c = unfit_fails
