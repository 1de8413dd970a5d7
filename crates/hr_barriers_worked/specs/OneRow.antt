-- An INSERT of one row, of three replicas: who is correct answers that it put in one row, and who lies, two.
use Rattle.std.specs.Prelude.{ℕ, List, [], ◌∷◌}
use Rattle.hr_rel.specs.declared.answer.Answer.{Answer}
use Rattle.hr_rel.specs.declared.answer.Answer.TheVariants.{Count}
use Rattle.hr_rel.specs.Database.{Database}
use Rattle.hr_meaning.specs.Worked.{holding, insert}
use Rattle.hr_history.specs.declared.entry.Entry.{Entry}
use Rattle.hr_history.specs.declared.job.Job.TheVariants.{Run}
use Rattle.hr_history_worked.specs.Entries.{begin, submit, take, done}

-- the table `t`, without a row
abbrev pub empty_table : Database
empty_table = holding []

-- session 1 begins the transaction, and submits its statement
abbrev pub submitted : List Entry
submitted = begin 1 1 ∷ submit 1 1 1 (insert 5 50) ∷ []

-- replica r takes the statement, and answers this
abbrev pub answers : ℕ → Answer → List Entry
answers r answer = take r (Run 1 1) ∷ done r answer ∷ []

abbrev pub honest : ℕ → List Entry
honest r = answers r (Count 1)

abbrev pub lies : ℕ → List Entry
lies r = answers r (Count 2)
