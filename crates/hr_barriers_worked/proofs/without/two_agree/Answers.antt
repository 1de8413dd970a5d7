use Rattle.std.proofs.Common.{refl}
use Rattle.hr_barriers_worked.proofs.Honest.{rigorous}
use Rattle.hr_barriers_worked.proofs.Others.{undecided, but_the_last}
use Rattle.hr_barriers_worked.proofs.without.two_agree.Goals as goal

pub returns : goal.returns
returns c = record {
  begun = refl;
  correct = rigorous;
  liars = ((((((((((tt, undecided), undecided), undecided), undecided), undecided), undecided), undecided), undecided), undecided), λ e. but_the_last);
}
