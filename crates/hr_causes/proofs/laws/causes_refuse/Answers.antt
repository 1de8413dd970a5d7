use Rattle.hr_causes.proofs.RefusedLemmas.{refused_by}
use Rattle.hr_causes.proofs.laws.causes_refuse.Goals as goal

pub returns : goal.returns
returns c f sessions t x h faithful has born = refused_by f sessions t x h faithful has born
