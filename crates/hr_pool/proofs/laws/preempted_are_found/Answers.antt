use Rattle.hr_pool.proofs.GiveWay.{preempts_found}
use Rattle.hr_pool.proofs.laws.preempted_are_found.Goals as goal

pub returns : goal.returns
returns c v r sane = preempts_found v r sane
