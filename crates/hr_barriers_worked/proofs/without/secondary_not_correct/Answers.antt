use Rattle.std.proofs.Common.{◌≡◌, ◌<◌, ℕ, Some, refl, subst, arith}
use Rattle.hr_history.specs.History.{History}
use Rattle.hr_history.specs.Primary.{primary_of}
use Rattle.hr_history.specs.Faithful.{Correct}
use Rattle.hr_barriers_worked.specs.OneRow.{empty_table}
use Rattle.hr_barriers_worked.specs.WrongSecondary.{answered_first, asked_liar, answered_by_liar}
use Rattle.hr_barriers_worked.proofs.Honest.{differ, rigorous, not_rigorous}
use Rattle.hr_barriers_worked.proofs.without.secondary_not_correct.Goals as goal

-- nothing is given yet
none_given : {P : Type 0} → 0 < 0 → P
none_given l = absurd (omega (arith, l))

-- replica 0 is the primary, and correct
by_primary : (h : History) → primary_of h ≡ Some 0 → Correct empty_table h 0 → (r : ℕ) → primary_of h ≡ Some r → Correct empty_table h r
by_primary h first right r p = let q : 0 ≡ r = cc in subst (λ k. Correct empty_table h k) q right

pub returns : goal.returns
returns c = record {
  begun = refl;
  out = refl;
  served = ((((((tt, λ o l. none_given l), λ o l. none_given l), λ o l. none_given l), λ o l. by_primary answered_first refl rigorous), λ o l. by_primary asked_liar refl rigorous), λ o l. by_primary answered_by_liar refl rigorous);
  given = refl;
  other = differ;
  liar = not_rigorous;
}
