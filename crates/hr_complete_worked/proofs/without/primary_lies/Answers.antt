use Rattle.std.proofs.Common.{refl}
use Rattle.hr_barriers_worked.proofs.Honest.{rigorous, not_rigorous}
use Rattle.hr_complete_worked.proofs.Replies.{no_difference}
use Rattle.hr_complete_worked.proofs.without.primary_lies.Goals as goal

pub returns : goal.returns
returns c = record {
  begun = refl;
  not_lost = λ r. (((((((((tt, refl), refl), refl), refl), refl), refl), refl), refl), refl);
  unsuspected = (((((((((tt, refl), refl), refl), refl), refl), refl), refl), refl), refl);
  asked = refl;
  no_reply = no_difference 1 1 5;
  liar = not_rigorous;
  others = (rigorous, rigorous);
}
