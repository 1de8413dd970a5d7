use Rattle.std.proofs.Common.{length}
use Rattle.hr_names.proofs.names.+names_problem.Given as goal

abbrev pub decreases-names_problem : goal.decreases-names_problem
decreases-names_problem l = length l.names.now
