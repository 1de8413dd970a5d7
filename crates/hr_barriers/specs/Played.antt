-- Answers on a database of the log.
use Rattle.std.specs.Prelude.{◌≡◌, ℕ, ◌<◌, ◌≤◌, Some, slice_get}
use Rattle.std.specs.List.{AllZip}
use Rattle.hr_base.specs.Lists.{numbered}
use Rattle.hr_rel.specs.declared.answer.Answer.{Answer}
use Rattle.hr_rel.specs.Database.{Database}
use Rattle.hr_meaning.specs.Serial.{play, database_at}
use Rattle.hr_meaning.specs.SameAnswer.{SameAnswer}
use Rattle.hr_engine.specs.Attempts.{attempt, statements, answers}
use Rattle.hr_history.specs.History.{History}
use Rattle.hr_history.specs.Transactions.{log, submits}
use Rattle.hr_history.specs.Replicas.{journal_of, position_of}
use Rattle.hr_history.specs.Words.{processed_of}
use Rattle.hr_serial.specs.Prefix.{log_statements}

-- so many of the log, from its first on, are processed at the replica, and no fewer than are committed there
abbrev pub IsProcessedTo : ℕ → ℕ → ℕ → History → Type 0
IsProcessedTo f r place h = (position_of r h ≤ place) × (place ≤ processed_of f h r)

-- the transaction isn't among so many of the log's first
abbrev pub IsNoneOfTheFirst : ℕ → ℕ → History → Type 0
IsNoneOfTheFirst place t h = (i : ℕ) → i < place → slice_get (log h) i ≡ Some t → ⊥

-- This answer is that of the transaction's statement with this number, alone on the database after so many of the log.
abbrev pub IsAnswerAsPlayed : Database → ℕ → ℕ → ℕ → Answer → History → Type 0
IsAnswerAsPlayed db place t i told h = (a : Answer) × (numbered (play (database_at db (log_statements h) place) (submits t h)).answers i ≡ Some a) × SameAnswer a told

-- The replica's attempt of the transaction answers as its statements do one after another, on the database after so many of
-- the log, from this start.
abbrev pub AnswersAsPlayed : Database → ℕ → ℕ → ℕ → History → Type 0
AnswersAsPlayed db place t r h = AllZip SameAnswer (play (database_at db (log_statements h) place) (statements (attempt t (journal_of r h)))).answers (answers (attempt t (journal_of r h)))
