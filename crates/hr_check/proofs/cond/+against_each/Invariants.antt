use Rattle.std.proofs.Common.{length}
use Rattle.hr_check.proofs.cond.+against_each.Given as goal

abbrev pub decreases-against_each : goal.decreases-against_each
decreases-against_each l = length l.list.now
