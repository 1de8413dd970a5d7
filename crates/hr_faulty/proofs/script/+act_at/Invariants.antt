use Rattle.std.proofs.Common.{length}
use Rattle.hr_faulty.proofs.script.+act_at.Given as goal

abbrev pub decreases-act_at : goal.decreases-act_at
decreases-act_at l = length l.script.now
