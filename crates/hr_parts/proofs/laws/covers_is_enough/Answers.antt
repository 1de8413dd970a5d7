use Rattle.hr_parts.proofs.Lists.{covered_within}
use Rattle.hr_parts.proofs.laws.covers_is_enough.Goals as goal

pub returns : goal.returns
returns c = covered_within
