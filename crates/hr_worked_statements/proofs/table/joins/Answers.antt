use Rattle.hr_worked_statements.specs.Joins.{joins}
use Rattle.hr_worked_statements.proofs.Reckoned.{defined_is}
use Rattle.hr_worked_statements.proofs.table.joins.Goals as goal

pub returns : goal.returns
returns c = defined_is joins
