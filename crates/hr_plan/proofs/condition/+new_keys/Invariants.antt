use Rattle.std.proofs.Common.{length}
use Rattle.hr_plan.proofs.condition.+new_keys.Given as goal

abbrev pub decreases-new_keys : goal.decreases-new_keys
decreases-new_keys l = length l.rows.now
