use Rattle.hr_statement_laws.proofs.Shape.{failure_changes_nothing}
use Rattle.hr_statement_laws.proofs.laws.failure_changes_nothing.Goals as goal

pub returns : goal.returns
returns c = failure_changes_nothing
