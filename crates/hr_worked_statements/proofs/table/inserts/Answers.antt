use Rattle.hr_worked_statements.specs.Inserts.{inserts}
use Rattle.hr_worked_statements.proofs.Reckoned.{defined_is}
use Rattle.hr_worked_statements.proofs.table.inserts.Goals as goal

pub returns : goal.returns
returns c = defined_is inserts
