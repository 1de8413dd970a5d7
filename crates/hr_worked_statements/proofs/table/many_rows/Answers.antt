use Rattle.hr_worked_statements.specs.ManyRows.{many_rows}
use Rattle.hr_worked_statements.proofs.Reckoned.{defined_is}
use Rattle.hr_worked_statements.proofs.table.many_rows.Goals as goal

pub returns : goal.returns
returns c = defined_is many_rows
