use Rattle.std.proofs.Common.{length}
use Rattle.hr_plan.proofs.path.+index_path.Given as goal

abbrev pub decreases-index_path : goal.decreases-index_path
decreases-index_path l = length l.columns.now
