use Rattle.hr_precedence.proofs.JobOrder.{rolls_back}
use Rattle.hr_precedence.proofs.laws.rollbacks_first.Goals as goal

pub returns : goal.returns
returns c f r t h lt free born touched ends = rolls_back f r t h lt free born touched ends
