use Rattle.hr_causes.proofs.EndLemmas.{once}
use Rattle.hr_causes.proofs.laws.ends_once.Goals as goal

pub returns : goal.returns
returns c f sessions t last first more before begun is = once f sessions t last first more before begun is
