use Rattle.hr_worked_statements.specs.UnfitSelects.{unfit_select}
use Rattle.hr_worked_statements.proofs.Reckoned.{defined_is}
use Rattle.hr_worked_statements.proofs.table.unfit_select.Goals as goal

pub returns : goal.returns
returns c = defined_is unfit_select
