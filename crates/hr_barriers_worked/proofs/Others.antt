-- Who isn't among the two liars is correct.
use Rattle.std.proofs.Common.{◌≡◌, ℕ, zero, suc, ◌<◌, true, false, [], ◌∷◌, arith}
use Rattle.hr_base.specs.Lists.{has}
use Rattle.hr_history.specs.Faithful.{Correct}
use Rattle.hr_serial.specs.Serial.{LiarsAreAtMost}
use Rattle.hr_barriers_worked.specs.OneRow.{empty_table}
use Rattle.hr_barriers_worked.specs.HonestConvicted.{others_contradict, others_agree}
use Rattle.hr_barriers_worked.proofs.Honest.{rigorous}

-- this entry decides nothing
pub undecided : {P : Type 0} → false ≡ true → P
undecided e = cc

primary : (r : ℕ) → r < 3 → has (1 ∷ 2 ∷ []) r ≡ false → Correct empty_table others_contradict r
primary zero lt e = rigorous
primary (suc zero) lt e = cc
primary (suc (suc zero)) lt e = cc
primary (suc (suc (suc r))) lt e = absurd (omega (arith, lt))

secondary : (r : ℕ) → r < 3 → has (0 ∷ 1 ∷ []) r ≡ false → Correct empty_table others_agree r
secondary zero lt e = cc
secondary (suc zero) lt e = cc
secondary (suc (suc zero)) lt e = rigorous
secondary (suc (suc (suc r))) lt e = absurd (omega (arith, lt))

pub but_the_primary : LiarsAreAtMost 2 1 empty_table others_contradict
but_the_primary = (1 ∷ 2 ∷ [], omega arith, primary)

pub but_the_last : LiarsAreAtMost 2 1 empty_table others_agree
but_the_last = (0 ∷ 1 ∷ [], omega arith, secondary)
