use Rattle.std.proofs.Common.{◌≡◌, true, false, refl}
use Rattle.hr_complete_worked.proofs.Replies.{no_change}
use Rattle.hr_complete_worked.proofs.Correct.{all_but_suspected}
use Rattle.hr_history.specs.declared.cause.Why.TheVariants as why
use Rattle.hr_complete_worked.proofs.without.primary_is_suspected.Goals as goal

pub returns : goal.returns
returns c = record {
  begun = refl;
  correct = all_but_suspected;
  not_lost = λ r. ((((((tt, refl), refl), refl), refl), refl), refl);
  asked = refl;
  no_reply = no_change 0 why.Suspected 5;
  suspected = λ none. never none.1;
}
  where
    never : true ≡ false → ⊥
    never e = cc e
