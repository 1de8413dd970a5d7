-- A history in which the primary is correct, and a secondary that isn't answers otherwise.
use Rattle.std.specs.Prelude.{◌≡◌, true, Some, ◌∷◌, ◌++◌, []}
use Rattle.hr_base.specs.Lists.{numbered}
use Rattle.hr_rel.specs.declared.answer.Answer.TheVariants.{Count}
use Rattle.hr_meaning.specs.SameAnswer.{SameAnswer}
use Rattle.hr_history.specs.declared.job.Job.TheVariants.{Run}
use Rattle.hr_history.specs.History.{History, history_of}
use Rattle.hr_history.specs.Replicas.{out_at}
use Rattle.hr_history.specs.Given.{given_to}
use Rattle.hr_history.specs.Faithful.{is_begun, Correct}
use Rattle.hr_history_worked.specs.Entries.{take, done}
use Rattle.hr_barriers.specs.Served.{IsServed}
use Rattle.hr_barriers_worked.specs.OneRow.{empty_table, submitted, honest}

-- the primary has answered
abbrev pub answered_first : History
answered_first = history_of (submitted ++ honest 0)

-- and replica 1 has taken the statement
abbrev pub asked_liar : History
asked_liar = take 1 (Run 1 1) ∷ answered_first

-- it lies
abbrev pub answered_by_liar : History
answered_by_liar = done 1 (Count 2) ∷ asked_liar

-- The history follows the rules, the transaction was served by a correct primary, and replica 1 was out to run the statement;
-- the given answer is another one than its, and replica 1 isn't correct.
pub record LiarAnswersOtherwise : Type 0 where
  pub begun : is_begun 1 1 answered_by_liar ≡ true
  pub out : out_at 1 asked_liar ≡ Some (Run 1 1)
  pub served : IsServed empty_table 1 answered_by_liar
  pub given : numbered (given_to 1 answered_by_liar) 1 ≡ Some record { answer = Count 1; stamp = 0 }
  pub other : SameAnswer (Count 1) (Count 2) → ⊥
  pub liar : Correct empty_table answered_by_liar 1 → ⊥
