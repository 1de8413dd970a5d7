use Rattle.hr_precedence.proofs.WaitsKept.{waits_kept}
use Rattle.hr_precedence.proofs.laws.waits_are_kept.Goals as goal

pub returns : goal.returns
returns c f r t i h lt is = waits_kept f r t i h lt is
