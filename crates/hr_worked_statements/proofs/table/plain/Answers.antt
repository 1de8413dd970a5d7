use Rattle.hr_worked_statements.specs.Plain.{plain}
use Rattle.hr_worked_statements.proofs.Reckoned.{defined_is}
use Rattle.hr_worked_statements.proofs.table.plain.Goals as goal

pub returns : goal.returns
returns c = defined_is plain
