use Rattle.std.proofs.Common.{length}
use Rattle.hr_said.proofs.faults.+falls.Given as goal

abbrev pub decreases-falls : goal.decreases-falls
decreases-falls l = length l.before.now
