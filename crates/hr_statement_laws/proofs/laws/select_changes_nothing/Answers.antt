use Rattle.hr_statement_laws.proofs.Shape.{select_changes_nothing}
use Rattle.hr_statement_laws.proofs.laws.select_changes_nothing.Goals as goal

pub returns : goal.returns
returns c = select_changes_nothing
