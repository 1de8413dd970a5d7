use Rattle.hr_worked_statements.specs.Updates.{updates}
use Rattle.hr_worked_statements.proofs.Reckoned.{defined_is}
use Rattle.hr_worked_statements.proofs.table.updates.Goals as goal

pub returns : goal.returns
returns c = defined_is updates
