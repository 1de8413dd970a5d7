use Rattle.hr_worked_statements.specs.FurtherJoins.{further_joins}
use Rattle.hr_worked_statements.proofs.Reckoned.{defined_is}
use Rattle.hr_worked_statements.proofs.table.further_joins.Goals as goal

pub returns : goal.returns
returns c = defined_is further_joins
