use Rattle.std.proofs.Common.{length}
use Rattle.hr_check.proofs.insert.+tuples_problem.Given as goal

abbrev pub decreases-tuples_problem : goal.decreases-tuples_problem
decreases-tuples_problem l = length l.tuples.now
