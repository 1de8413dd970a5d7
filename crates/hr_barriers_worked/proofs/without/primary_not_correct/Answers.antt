use Rattle.std.proofs.Common.{refl, arith, sym}
use Rattle.hr_barriers_worked.proofs.Honest.{differ, rigorous, not_rigorous}
use Rattle.hr_barriers_worked.proofs.without.primary_not_correct.Goals as goal

pub returns : goal.returns
returns c = record {
  begun = refl;
  out = refl;
  correct = rigorous;
  given = refl;
  other = λ same. differ (sym same);
  not_served = λ served. not_rigorous (served.1 refl (omega arith) 0 refl);
}
