use Rattle.std.proofs.Common.{length}
use Rattle.hr_print.proofs.parts.+more.Given as goal

abbrev pub decreases-more : goal.decreases-more
decreases-more g l = length l.parts.now
