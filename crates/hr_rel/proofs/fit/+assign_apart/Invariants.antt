use Rattle.std.proofs.Common.{length}
use Rattle.hr_rel.proofs.fit.+assign_apart.Given as goal

abbrev pub decreases-assign_apart : goal.decreases-assign_apart
decreases-assign_apart l = length l.sets.now
