use Rattle.hr_causes.proofs.DifferenceLemmas.{difference_shown}
use Rattle.hr_causes.proofs.laws.difference.Goals as goal

pub returns : goal.returns
returns c f sessions caller t index by at before begun = difference_shown f sessions caller t index by at before begun
