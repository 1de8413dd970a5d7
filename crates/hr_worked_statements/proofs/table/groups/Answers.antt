use Rattle.hr_worked_statements.specs.Groups.{groups}
use Rattle.hr_worked_statements.proofs.Reckoned.{defined_is}
use Rattle.hr_worked_statements.proofs.table.groups.Goals as goal

pub returns : goal.returns
returns c = defined_is groups
