use Rattle.std.proofs.Common.{length}
use Rattle.hr_check.proofs.select.+groups_problem.Given as goal

abbrev pub decreases-groups_problem : goal.decreases-groups_problem
decreases-groups_problem l = length l.groups.now
