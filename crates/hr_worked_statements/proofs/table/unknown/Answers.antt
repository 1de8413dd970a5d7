use Rattle.hr_worked_statements.specs.Unknown.{unknown}
use Rattle.hr_worked_statements.proofs.Reckoned.{defined_is}
use Rattle.hr_worked_statements.proofs.table.unknown.Goals as goal

pub returns : goal.returns
returns c = defined_is unknown
