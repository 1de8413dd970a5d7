-- Who isn't among the first is correct: it has done nothing.
use Rattle.std.proofs.Common.{◌≡◌, ℕ, zero, suc, ◌<◌, true, false, [], ◌∷◌, arith}
use Rattle.hr_base.specs.Lists.{has}
use Rattle.hr_history.specs.History.{history_of}
use Rattle.hr_history.specs.Faithful.{Correct}
use Rattle.hr_serial.specs.Serial.{LiarsAreAtMost}
use Rattle.hr_serial_worked.specs.WrongAnswers.{empty_table, agreed_by, decided_by_one}

-- one row isn't two
pub differ : ◌≡◌ {A = ℕ} 1 2 → ⊥
differ e = cc

-- this entry decides nothing
pub undecided : {P : Type 0} → false ≡ true → P
undecided e = cc

one : (r : ℕ) → r < 1 → has (0 ∷ []) r ≡ false → Correct empty_table (history_of (agreed_by 0)) r
one zero lt e = cc
one (suc r) lt e = absurd (omega (arith, lt))

three : (r : ℕ) → r < 3 → has (0 ∷ 1 ∷ []) r ≡ false → Correct empty_table (history_of (agreed_by 1)) r
three zero lt e = cc
three (suc zero) lt e = cc
three (suc (suc zero)) lt e = tt
three (suc (suc (suc r))) lt e = absurd (omega (arith, lt))

five : (r : ℕ) → r < 5 → has (0 ∷ 1 ∷ 2 ∷ []) r ≡ false → Correct empty_table (history_of (agreed_by 2)) r
five zero lt e = cc
five (suc zero) lt e = cc
five (suc (suc zero)) lt e = cc
five (suc (suc (suc zero))) lt e = tt
five (suc (suc (suc (suc zero)))) lt e = tt
five (suc (suc (suc (suc (suc r))))) lt e = absurd (omega (arith, lt))

alone : (r : ℕ) → r < 3 → has (0 ∷ []) r ≡ false → Correct empty_table (history_of decided_by_one) r
alone zero lt e = cc
alone (suc zero) lt e = tt
alone (suc (suc zero)) lt e = tt
alone (suc (suc (suc r))) lt e = absurd (omega (arith, lt))

pub of_one : LiarsAreAtMost 1 0 empty_table (history_of (agreed_by 0))
of_one = (0 ∷ [], omega arith, one)

pub of_three : LiarsAreAtMost 2 1 empty_table (history_of (agreed_by 1))
of_three = (0 ∷ 1 ∷ [], omega arith, three)

pub of_five : LiarsAreAtMost 3 2 empty_table (history_of (agreed_by 2))
of_five = (0 ∷ 1 ∷ 2 ∷ [], omega arith, five)

pub by_one : LiarsAreAtMost 1 1 empty_table (history_of decided_by_one)
by_one = (0 ∷ [], omega arith, alone)
