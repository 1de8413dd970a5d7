use Rattle.std.proofs.Common.{length}
use Rattle.hr_run_report.proofs.commits.+block_of.Given as goal

abbrev pub decreases-block_of : goal.decreases-block_of
decreases-block_of l = length l.tries.now
