-- Serial answers, and how many replicas lie.
use Rattle.std.specs.Prelude.{◌≡◌, ℕ, ◌+◌, ◌*◌, ◌<◌, ◌≤◌, Bool, true, false, List, [], ◌∷◌, length, map}
use Rattle.std.specs.List.{AllZip}
use Rattle.hr_base.specs.Lists.{has}
use Rattle.hr_rel.specs.declared.answer.Answer.{Answer}
use Rattle.hr_rel.specs.Database.{Database}
use Rattle.hr_meaning.specs.Serial.{serial_answers}
use Rattle.hr_meaning.specs.SameAnswer.{SameAnswer}
use Rattle.hr_history.specs.declared.entry.Event.{Event}
use Rattle.hr_history.specs.declared.entry.Event.TheVariants as event
use Rattle.hr_history.specs.History.{History}
use Rattle.hr_history.specs.Transactions.{log}
use Rattle.hr_history.specs.Given.{given_to, answers_given}
use Rattle.hr_history.specs.Faithful.{Correct}
use Rattle.hr_serial.specs.Prefix.{log_statements}

-- the accepted answers: those given to the decided transactions, in the order of the log
abbrev pub accepted : History → List (List Answer)
accepted h = map (λ t. answers_given (given_to t h)) (log h)

-- the accepted answers are those of the log's transactions run alone, one after another, from this database
abbrev pub AreSerial : Database → History → Type 0
AreSerial db h = AllZip (AllZip SameAnswer) (serial_answers db (log_statements h)) (accepted h)

-- a list of at most n replicas holds all of the 2f + 1 that aren't correct, from this database
abbrev pub LiarsAreAtMost : ℕ → ℕ → Database → History → Type 0
LiarsAreAtMost n f db h = (liars : List ℕ) × (length liars ≤ n) × ((r : ℕ) → r < 2 * f + 1 → has liars r ≡ false → Correct db h r)

abbrev pub is_decide : Event → Bool
is_decide (event.Decide txn) = true
is_decide _ = false

-- this holds of each beginning of the history that ends with a decision
abbrev pub AtEachDecide : (History → Type 0) → History → Type 0
AtEachDecide Holds [] = Unit {0}
AtEachDecide Holds (e ∷ before) = AtEachDecide Holds before × (is_decide e.event ≡ true → Holds (e ∷ before))
