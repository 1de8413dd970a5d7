use Rattle.hr_made.proofs.Whole.{made_is}
use Rattle.hr_made.proofs.laws.made_is_read.Goals as goal

pub returns : goal.returns
returns c = made_is
