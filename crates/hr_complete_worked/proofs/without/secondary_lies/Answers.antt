use Rattle.std.proofs.Common.{refl, arith}
use Rattle.hr_barriers_worked.proofs.Honest.{rigorous, not_rigorous}
use Rattle.hr_complete_worked.proofs.without.secondary_lies.Goals as goal

pub returns : goal.returns
returns c = record {
  faithful = refl;
  not_lost = λ r. (((((((tt, refl), refl), refl), refl), refl), refl), refl);
  unsuspected = (((((((tt, refl), refl), refl), refl), refl), refl), refl);
  ready = omega arith;
  asked = refl;
  liar = not_rigorous;
  others = (rigorous, tt);
}
