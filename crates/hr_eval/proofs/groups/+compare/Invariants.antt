use Rattle.std.proofs.Common.{length}
use Rattle.hr_eval.proofs.groups.+compare.Given as goal

abbrev pub decreases-compare : goal.decreases-compare
decreases-compare l = length l.columns.now
