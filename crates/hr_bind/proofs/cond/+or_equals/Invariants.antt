use Rattle.std.proofs.Common.{length}
use Rattle.hr_bind.proofs.cond.+or_equals.Given as goal

abbrev pub decreases-or_equals : goal.decreases-or_equals
decreases-or_equals l = length l.list.now
