use Rattle.std.proofs.Common.{length}
use Rattle.hr_check.proofs.update.+assigned_twice.Given as goal

abbrev pub decreases-assigned_twice : goal.decreases-assigned_twice
decreases-assigned_twice l = length l.later.now
