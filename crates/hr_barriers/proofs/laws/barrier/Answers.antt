use Rattle.hr_barriers.proofs.EqualLemmas.{the_same}
use Rattle.hr_barriers.proofs.laws.barrier.Goals as goal

pub returns : goal.returns
returns c f sessions caller r t i told given db more before begun out served correct at = the_same f sessions caller r t i told given db more before begun out served correct at
