-- A history in which the primary lies, and a correct secondary answers otherwise.
use Rattle.std.specs.Prelude.{◌≡◌, true, Some, ◌∷◌, ◌++◌, []}
use Rattle.hr_base.specs.Lists.{numbered}
use Rattle.hr_rel.specs.declared.answer.Answer.TheVariants.{Count}
use Rattle.hr_meaning.specs.SameAnswer.{SameAnswer}
use Rattle.hr_history.specs.declared.job.Job.TheVariants.{Run}
use Rattle.hr_history.specs.History.{History, history_of}
use Rattle.hr_history.specs.Replicas.{out_at}
use Rattle.hr_history.specs.Given.{given_to}
use Rattle.hr_history.specs.Faithful.{is_begun, Correct}
use Rattle.hr_history_worked.specs.Entries.{take, done}
use Rattle.hr_barriers.specs.Served.{IsServed}
use Rattle.hr_barriers_worked.specs.OneRow.{empty_table, submitted, lies}

-- the primary has lied, and replica 1 has taken the statement
abbrev pub asked_second : History
asked_second = history_of (submitted ++ lies 0 ++ take 1 (Run 1 1) ∷ [])

-- it answers
abbrev pub answered_second : History
answered_second = done 1 (Count 1) ∷ asked_second

-- The history follows the rules, and replica 1 is correct and was out to run the statement; the given answer is another one
-- than its, and the primary wasn't correct.
pub record AnswersOtherwise : Type 0 where
  pub begun : is_begun 1 1 answered_second ≡ true
  pub out : out_at 1 asked_second ≡ Some (Run 1 1)
  pub correct : Correct empty_table answered_second 1
  pub given : numbered (given_to 1 answered_second) 1 ≡ Some record { answer = Count 2; stamp = 0 }
  pub other : SameAnswer (Count 2) (Count 1) → ⊥
  pub not_served : IsServed empty_table 1 answered_second → ⊥
