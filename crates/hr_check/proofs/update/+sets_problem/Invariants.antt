use Rattle.std.proofs.Common.{length}
use Rattle.hr_check.proofs.update.+sets_problem.Given as goal

abbrev pub decreases-sets_problem : goal.decreases-sets_problem
decreases-sets_problem l = length l.sets.now
