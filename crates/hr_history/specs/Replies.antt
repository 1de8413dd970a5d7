-- What each session is told.
use Rattle.std.specs.Prelude.{ℕ, ◌+◌, Bool, true, false, ◌&&◌, ◌==◌, if◌then◌else◌, Option, Some, None, unwrap_or, List, [], ◌∷◌, length, reverse, slice_get}
use Rattle.std.specs.Option.{option_map}
use Rattle.hr_rel.specs.declared.answer.Answer.{Answer}
use Rattle.hr_rel.specs.declared.answer.Answer.TheVariants as answer
use Rattle.hr_engine.specs.declared.reply.RunReply.TheVariants as run
use Rattle.hr_history.specs.declared.entry.Entry.{Entry}
use Rattle.hr_history.specs.declared.entry.Event.{Event}
use Rattle.hr_history.specs.declared.entry.Event.TheVariants as event
use Rattle.hr_history.specs.declared.job.Job.{Job}
use Rattle.hr_history.specs.declared.job.Job.TheVariants as job
use Rattle.hr_history.specs.declared.job.JobReply.{JobReply}
use Rattle.hr_history.specs.declared.job.JobReply.TheVariants as reply
use Rattle.hr_history.specs.declared.cause.CauseAt.{CauseAt}
use Rattle.hr_history.specs.declared.cause.CauseAt.TheVariants as at
use Rattle.hr_history.specs.declared.cause.Cause.{Cause}
use Rattle.hr_history.specs.declared.cause.Cause.TheVariants as cause
use Rattle.hr_history.specs.declared.phase.Phase.{Phase}
use Rattle.hr_history.specs.declared.phase.Phase.TheVariants as phase
use Rattle.hr_history.specs.declared.reply.Reply.{Reply}
use Rattle.hr_history.specs.declared.reply.Reply.TheVariants as told
use Rattle.hr_history.specs.declared.reply.Ending.{Ending}
use Rattle.hr_history.specs.declared.reply.Ending.TheVariants as ending
use Rattle.hr_history.specs.History.{History}
use Rattle.hr_base.specs.Lists.{numbered}
use Rattle.hr_history.specs.Transactions.{session_of, log, phase_of}
use Rattle.hr_history.specs.Replicas.{out_at}
use Rattle.hr_history.specs.Primary.{is_some_of}
use Rattle.hr_history.specs.Given.{given_to, answers_given, found, is_primary_run}

-- the entry at a place of a history, from 0
abbrev pub event_at : ℕ → History → Option Event
event_at place h = option_map (λ (e : Entry). e.event) (slice_get (reverse h) place)

abbrev pub cycle_of : Option Event → List ℕ
cycle_of (Some (event.Give replica (reply.Ran (run.Deadlock cycle)))) = cycle
cycle_of _ = []

abbrev pub answer_of : Option Event → Answer
answer_of (Some (event.Give replica (reply.Ran (run.Done answer)))) = answer
answer_of _ = answer.Count 0

-- the cause of a refusal of transaction t as its session is told it, with what stands at the place that the entry names
abbrev pub cause_told : ℕ → CauseAt → History → Cause
cause_told t (at.Deadlock at) h = cause.Deadlock (cycle_of (event_at at h))
cause_told t (at.PrimaryChanged from why at) h = cause.PrimaryChanged from why
cause_told t (at.Differ index by at) h = cause.Differ index (unwrap_or (numbered (answers_given (given_to t h)) index) (answer.Count 0)) (answer_of (event_at at h))
cause_told t (at.PrimaryMemory at) h = cause.PrimaryMemory

-- What a session was told since its last Submit or AskCommit.
pub data ReplyState : Type 0 where
  -- it hasn't asked for anything yet
  NothingAsked : ReplyState
  -- there is no reply yet
  Waiting : ReplyState
  Replied : (reply : Reply) → ReplyState

abbrev pub is_waiting : ReplyState → Bool
is_waiting NothingAsked = false
is_waiting Waiting = true
is_waiting (Replied reply) = false

-- only the first reply counts
abbrev pub reply_if : Bool → Reply → ReplyState → ReplyState
reply_if mine reply NothingAsked = NothingAsked
reply_if mine reply Waiting = if mine then Replied reply else Waiting
reply_if mine reply (Replied first) = Replied first

-- whether a transaction is the session's
abbrev pub is_of : ℕ → ℕ → History → Bool
is_of s t h = is_some_of s (session_of t h)

-- whether the job is to run a statement of session s, and its Done now gives the answer to the session
abbrev pub gives_to : ℕ → ℕ → Option Job → History → Bool
gives_to s r (Some (job.Run t i)) h = is_of s t h && is_primary_run t (length (given_to t h) + 1) r (found t h)
gives_to s r _ h = false

abbrev pub reply_by : ℕ → ℕ → JobReply → History → ReplyState → ReplyState
reply_by s r (reply.Ran (run.Done answer)) before state = reply_if (gives_to s r (out_at r before) before) (told.Answered answer) state
reply_by s r _ before state = state

abbrev pub next_reply : ℕ → Event → History → ReplyState → ReplyState
next_reply s (event.Submit txn index stmt) before state = if is_of s txn before then Waiting else state
next_reply s (event.AskCommit txn) before state = if is_of s txn before then Waiting else state
next_reply s (event.Give replica told) before state = reply_by s replica told before state
next_reply s (event.Decide txn) before state = reply_if (is_of s txn before) (told.Committed (length (log before) + 1)) state
next_reply s (event.Refuse txn cause) before state = reply_if (is_of s txn before) (told.Refused (cause_told txn cause before)) state
next_reply s _ before state = state

-- The reply to a session's last Submit or AskCommit: the answer given, the decision with its place, or the refusal with
-- its cause, whichever came first after it.
abbrev pub reply_to : ℕ → History → ReplyState
reply_to s [] = NothingAsked
reply_to s (e ∷ before) = next_reply s e.event before (reply_to s before)

abbrev pub next_refusal : ℕ → Event → History → Option Cause → Option Cause
next_refusal t (event.Refuse txn cause) before refusal = if txn == t then Some (cause_told txn cause before) else refusal
next_refusal t _ before refusal = refusal

-- why a transaction was refused, if it was
abbrev pub refusal_of : ℕ → History → Option Cause
refusal_of t [] = None
refusal_of t (e ∷ before) = next_refusal t e.event before (refusal_of t before)

abbrev pub ending_by : Phase → Option Cause → Option Ending
ending_by phase.Active refusal = None
ending_by (phase.Asked n) refusal = None
ending_by (phase.Logged place) refusal = Some (ending.Committed place)
ending_by phase.RolledBack refusal = Some ending.RolledBack
ending_by phase.Refused refusal = option_map (λ (c : Cause). ending.Refused c) refusal

-- how a transaction ended; none while it is open
abbrev pub ending_of : ℕ → History → Option Ending
ending_of t h = ending_by (phase_of t h) (refusal_of t h)
