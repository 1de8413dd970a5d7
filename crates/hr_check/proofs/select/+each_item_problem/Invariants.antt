use Rattle.std.proofs.Common.{length}
use Rattle.hr_check.proofs.select.+each_item_problem.Given as goal

abbrev pub decreases-each_item_problem : goal.decreases-each_item_problem
decreases-each_item_problem l = length l.items.now
