use Rattle.hr_worked_statements.specs.UnfitChanges.{unfit_change}
use Rattle.hr_worked_statements.proofs.Reckoned.{defined_is}
use Rattle.hr_worked_statements.proofs.table.unfit_change.Goals as goal

pub returns : goal.returns
returns c = defined_is unfit_change
