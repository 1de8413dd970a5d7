use Rattle.hr_decisions.proofs.OrderLemmas.{later}
use Rattle.hr_decisions.proofs.laws.later_in_the_log.Goals as goal

pub returns : goal.returns
returns c f sessions t u place more before begun decided unborn = later f sessions t u place more before begun decided unborn
