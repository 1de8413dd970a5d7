use Rattle.hr_barriers.proofs.StampLemmas.{stamped}
use Rattle.hr_barriers.proofs.laws.stamps.Goals as goal

pub returns : goal.returns
returns c f sessions t h begun = stamped f sessions t h begun
