use Rattle.hr_worked_statements.specs.Deletes.{deletes}
use Rattle.hr_worked_statements.proofs.Reckoned.{defined_is}
use Rattle.hr_worked_statements.proofs.table.deletes.Goals as goal

pub returns : goal.returns
returns c = defined_is deletes
