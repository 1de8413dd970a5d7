use Rattle.std.proofs.Common.{refl}
use Rattle.hr_barriers_worked.proofs.Honest.{rigorous}
use Rattle.hr_barriers_worked.proofs.Others.{but_the_primary}
use Rattle.hr_barriers_worked.proofs.without.two_contradict.Goals as goal

pub returns : goal.returns
returns c = record { begun = refl; correct = rigorous; liars = but_the_primary }
