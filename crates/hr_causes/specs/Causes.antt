-- What shows why a transaction is refused.
use Rattle.std.specs.Prelude.{◌≡◌, ℕ, ◌<◌, Bool, true, false, Some, List, IsTrue}
use Rattle.hr_base.specs.Lists.{numbered}
use Rattle.hr_rel.specs.declared.answer.Answer.{Answer}
use Rattle.hr_engine.specs.Attempts.{attempt, answers, is_running}
use Rattle.hr_engine.specs.Waits.{wait, is_sound_deadlock}
use Rattle.hr_engine.specs.declared.reply.RunReply.{RunReply}
use Rattle.hr_engine.specs.declared.reply.RunReply.TheVariants as run
use Rattle.hr_history.specs.declared.cause.CauseAt.{CauseAt}
use Rattle.hr_history.specs.declared.cause.CauseAt.TheVariants as cause
use Rattle.hr_history.specs.declared.cause.Why.{Why}
use Rattle.hr_history.specs.declared.cause.Why.TheVariants as why
use Rattle.hr_history.specs.declared.entry.Event.{Event}
use Rattle.hr_history.specs.declared.entry.Event.TheVariants as event
use Rattle.hr_history.specs.declared.evidence.Evidence.{Evidence}
use Rattle.hr_history.specs.declared.job.Job.TheVariants as job
use Rattle.hr_history.specs.declared.job.JobReply.{JobReply}
use Rattle.hr_history.specs.declared.job.JobReply.TheVariants as reply
use Rattle.hr_history.specs.History.{History}
use Rattle.hr_history.specs.Transactions.{phase_of, is_open}
use Rattle.hr_history.specs.Replicas.{out_at, journal_of, tells_loss}
use Rattle.hr_history.specs.Primary.{primary_of}
use Rattle.hr_history.specs.Given.{given_to, answers_given}
use Rattle.hr_causes.specs.Places.{StandsAt, StandsInTurn}

-- The turn's call, at this place, is this reply of the primary to a statement of the transaction, which was open.
pub record PrimaryReplied (t at r : ℕ) (told : RunReply) (older h : History) : Type 0 where
  pub stands : StandsInTurn at (event.Give r (reply.Ran told)) older h
  pub primary : primary_of older ≡ Some r
  pub index : ℕ
  pub out : out_at r older ≡ Some (job.Run t index)
  pub was_open : is_open (phase_of t older) ≡ true

-- The primary told of this cycle of waits, as a correct replica may: each of the cycle but the asker runs there, each waits
-- for the next by the waits that are recorded there, and the last for the asker.
pub record IsShownDeadlock (t at : ℕ) (h : History) : Type 0 where
  pub replica : ℕ
  pub cycle : List ℕ
  pub older : History
  pub replied : PrimaryReplied t at replica (run.Deadlock cycle) older h
  pub sound : IsTrue (is_sound_deadlock (λ u. is_running u (journal_of replica older)) (λ u. wait u (journal_of replica older)) t cycle)

-- the primary had no memory for the statement
pub record IsShownMemory (t at : ℕ) (h : History) : Type 0 where
  pub replica : ℕ
  pub older : History
  pub replied : PrimaryReplied t at replica run.NoMemory older h

-- by this event such a replica, the primary, goes for this reason
abbrev pub GoesBy : ℕ → Why → Event → Type 0
GoesBy from why.Convicted e = (x : Evidence) × (e ≡ event.Convict from x)
GoesBy from why.Lost e = (told : JobReply) × (tells_loss told ≡ true) × (e ≡ event.Give from told)
GoesBy from why.Suspected e = e ≡ event.Suspect

-- In this turn the replica was the primary, and went for this reason by the event at this place.
pub record IsShownChange (from : ℕ) (because : Why) (at : ℕ) (h : History) : Type 0 where
  pub by : Event
  pub older : History
  pub stands : StandsInTurn at by older h
  pub primary : primary_of older ≡ Some from
  pub goes : GoesBy from because by

-- the answers to the statements of a transaction in its attempt at a replica
abbrev pub answers_at : ℕ → ℕ → History → List Answer
answers_at r t h = answers (attempt t (journal_of r h))

-- To the statement with this number the session was given one answer, and the replica gave another, by the Give at this
-- place, where its job was to run that statement; the answers to the statements before it are the same.
pub record IsShownDifference (t index by at : ℕ) (h : History) : Type 0 where
  pub given : Answer
  pub told : Answer
  pub was_given : numbered (answers_given (given_to t h)) index ≡ Some given
  pub was_told : numbered (answers_at by t h) index ≡ Some told
  pub differ : told ≡ given → ⊥
  pub first : (i : ℕ) → i < index → numbered (answers_at by t h) i ≡ numbered (answers_given (given_to t h)) i
  pub older : History
  pub stands : StandsAt at (event.Give by (reply.Ran (run.Done told))) older h
  pub out : out_at by older ≡ Some (job.Run t index)

-- the history shows the cause of the transaction's refusal
abbrev pub IsShown : ℕ → CauseAt → History → Type 0
IsShown t (cause.Deadlock at) h = IsShownDeadlock t at h
IsShown t (cause.PrimaryMemory at) h = IsShownMemory t at h
IsShown t (cause.PrimaryChanged from because at) h = IsShownChange from because at h
IsShown t (cause.Differ index by at) h = IsShownDifference t index by at h

-- the refusal isn't for what a replica replied to the transaction, but for the primary's going, or for the votes
abbrev pub is_no_reply : CauseAt → Bool
is_no_reply (cause.Deadlock at) = false
is_no_reply (cause.PrimaryMemory at) = false
is_no_reply (cause.PrimaryChanged from because at) = true
is_no_reply (cause.Differ index by at) = true
