use Rattle.hr_worked_statements.specs.Expressions.{expressions}
use Rattle.hr_worked_statements.proofs.Reckoned.{defined_is}
use Rattle.hr_worked_statements.proofs.table.expressions.Goals as goal

pub returns : goal.returns
returns c = defined_is expressions
