-- Histories in which a wrong answer is accepted: an INSERT of one row is answered as if it had put in two.
use Rattle.std.specs.Prelude.{◌≡◌, ℕ, ◌+◌, true, List, [], ◌∷◌, ◌++◌}
use Rattle.std.specs.List.{flat_map, range_with_len}
use Rattle.hr_rel.specs.declared.answer.Answer.TheVariants.{Count}
use Rattle.hr_rel.specs.Database.{Database}
use Rattle.hr_meaning.specs.Worked.{holding, insert}
use Rattle.hr_engine.specs.declared.reply.RunReply.TheVariants as run
use Rattle.hr_history.specs.declared.entry.Entry.{Entry}
use Rattle.hr_history.specs.declared.entry.Event.{Event}
use Rattle.hr_history.specs.declared.entry.Event.TheVariants as event
use Rattle.hr_history.specs.declared.job.Job.TheVariants as job
use Rattle.hr_history.specs.declared.job.JobReply.TheVariants as reply
use Rattle.hr_history.specs.History.{history_of}
use Rattle.hr_history.specs.Faithful.{replica_caller, session_caller, is_faithful}
use Rattle.hr_serial.specs.Serial.{LiarsAreAtMost, AtEachDecide, AreSerial}

-- the table `t`, without a row
abbrev pub empty_table : Database
empty_table = holding []

-- session 1 of a shepherd of 2f + 1 replicas
abbrev pub by_session : ℕ → Event → Entry
by_session f e = record { caller = session_caller f 1; event = e }

abbrev pub by_replica : ℕ → Event → Entry
by_replica r e = record { caller = replica_caller r; event = e }

-- replica r takes the statement, and says that it put in two rows
abbrev pub lies : ℕ → List Entry
lies r = by_replica r (event.Take r (job.Run 1 1)) ∷ by_replica r (event.Give r (reply.Ran (run.Done (Count 2)))) ∷ []

-- the transaction inserts one row, so many of the first replicas lie alike, it asks for its commit, and is decided
abbrev pub decided_by : ℕ → ℕ → List Entry
decided_by n f =
    by_session f (event.Begin 1 1) ∷ by_session f (event.Submit 1 1 (insert 5 50)) ∷ flat_map lies (range_with_len 0 n)
    ++ by_session f (event.AskCommit 1) ∷ by_session f (event.Decide 1) ∷ []

-- f + 1 of the 2f + 1 replicas agree on the lie
abbrev pub agreed_by : ℕ → List Entry
agreed_by f = decided_by (f + 1) f

-- of three replicas one has run the statement, and decides
abbrev pub decided_by_one : List Entry
decided_by_one = decided_by 1 1

-- The history follows the rules, at most f + 1 replicas weren't correct at its decision, and its accepted answers aren't
-- those of a serial run.
pub record AcceptsWrong (f : ℕ) : Type 0 where
  pub faithful : is_faithful f 1 (history_of (agreed_by f)) ≡ true
  pub liars : AtEachDecide (LiarsAreAtMost (f + 1) f empty_table) (history_of (agreed_by f))
  pub wrong : AreSerial empty_table (history_of (agreed_by f)) → ⊥
