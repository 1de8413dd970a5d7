use Rattle.hr_worked_statements.specs.UnfitTrees.{unfit_tree}
use Rattle.hr_worked_statements.proofs.Reckoned.{defined_is}
use Rattle.hr_worked_statements.proofs.table.unfit_tree.Goals as goal

pub returns : goal.returns
returns c = defined_is unfit_tree
