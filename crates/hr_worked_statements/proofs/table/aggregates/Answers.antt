use Rattle.hr_worked_statements.specs.Aggregates.{aggregates}
use Rattle.hr_worked_statements.proofs.Reckoned.{defined_is}
use Rattle.hr_worked_statements.proofs.table.aggregates.Goals as goal

pub returns : goal.returns
returns c = defined_is aggregates
