-- Faithful histories: those that follow the rules.
use Rattle.std.specs.Prelude.{ℕ, ◌+◌, ◌*◌, Bool, true, false, not, ◌&&◌, ◌==◌, nat_lt, nat_le, Option, Some, None, is_none, [], ◌∷◌, length, IsTrue}
use Rattle.std.specs.List.{list_any}
use Rattle.hr_rel.specs.Database.{Database}
use Rattle.hr_engine.specs.Rigorous.{Rigorous}
use Rattle.hr_engine.specs.declared.reply.RunReply.TheVariants as run
use Rattle.hr_history.specs.declared.entry.Entry.{Entry}
use Rattle.hr_history.specs.declared.entry.Event.{Event}
use Rattle.hr_history.specs.declared.entry.Event.TheVariants as event
use Rattle.hr_history.specs.declared.job.Job.{Job}
use Rattle.hr_history.specs.declared.job.Job.TheVariants as job
use Rattle.hr_history.specs.declared.job.JobReply.{JobReply}
use Rattle.hr_history.specs.declared.job.JobReply.TheVariants as reply
use Rattle.hr_history.specs.declared.cause.CauseAt.{CauseAt}
use Rattle.hr_history.specs.declared.cause.CauseAt.TheVariants as cause
use Rattle.hr_history.specs.declared.cause.Why.{Why}
use Rattle.hr_history.specs.declared.cause.Why.TheVariants as why
use Rattle.hr_history.specs.declared.evidence.Evidence.{Evidence}
use Rattle.hr_history.specs.declared.evidence.Evidence.TheVariants as evidence
use Rattle.hr_base.specs.declared.limits.TheConstants.{MAX_SUBMITS, MAX_STATEMENTS}
use Rattle.hr_history.specs.History.{History}
use Rattle.hr_base.specs.Lists.{one_to}
use Rattle.hr_history.specs.SameAnswers.{is_canonical}
use Rattle.hr_history.specs.Transactions.{begun, session_of, submits, submitted, phase_of, is_open}
use Rattle.hr_history.specs.Replicas.{out_at, journal_of}
use Rattle.hr_history.specs.View.{view_of}
use Rattle.hr_history.specs.Jobs.{job_in}
use Rattle.hr_history.specs.Rules.{due}
use Rattle.hr_history.specs.Replies.{reply_to, is_waiting, is_of}

abbrev pub same_job : Job → Job → Bool
same_job (job.Run t i) (job.Run u k) = (t == u) && (i == k)
same_job (job.Commit t) (job.Commit u) = t == u
same_job (job.Rollback t) (job.Rollback u) = t == u
same_job job.Restart job.Restart = true
same_job _ _ = false

abbrev pub is_job : Job → Option Job → Bool
is_job j None = false
is_job j (Some k) = same_job j k

abbrev pub same_why : Why → Why → Bool
same_why why.Convicted why.Convicted = true
same_why why.Lost why.Lost = true
same_why why.Suspected why.Suspected = true
same_why _ _ = false

abbrev pub same_cause : CauseAt → CauseAt → Bool
same_cause (cause.Deadlock a) (cause.Deadlock b) = a == b
same_cause (cause.PrimaryChanged p w a) (cause.PrimaryChanged q x b) = (p == q) && same_why w x && (a == b)
same_cause (cause.Differ i r a) (cause.Differ k s b) = (i == k) && (r == s) && (a == b)
same_cause (cause.PrimaryMemory a) (cause.PrimaryMemory b) = a == b
same_cause _ _ = false

abbrev pub same_evidence : Evidence → Evidence → Bool
same_evidence (evidence.Contradicted t i) (evidence.Contradicted u k) = (t == u) && (i == k)
same_evidence (evidence.Differs t i) (evidence.Differs u k) = (t == u) && (i == k)
same_evidence (evidence.BadBlocked t) (evidence.BadBlocked u) = t == u
same_evidence (evidence.BadDeadlock t) (evidence.BadDeadlock u) = t == u
same_evidence (evidence.BadRestart m) (evidence.BadRestart n) = m == n
same_evidence _ _ = false

-- whether two events that follow from calls are the same; no call is
abbrev pub same_event : Event → Event → Bool
same_event (event.Decide t) (event.Decide u) = t == u
same_event (event.Refuse t c) (event.Refuse u d) = (t == u) && same_cause c d
same_event (event.Convict r e) (event.Convict s g) = (r == s) && same_evidence e g
same_event (event.NewPrimary r) (event.NewPrimary s) = r == s
same_event (event.Preempt r t) (event.Preempt s u) = (r == s) && (t == u)
same_event _ _ = false

-- the caller numbers: 0 is the root, replicas come first, then sessions
abbrev pub replica_caller : ℕ → ℕ
replica_caller r = r + 1

abbrev pub session_caller : ℕ → ℕ → ℕ
session_caller f s = 2 * f + 1 + s

-- whether a reply is of the job's kind, and its answer, if it has one, is canonical
abbrev pub fits_job : JobReply → Option Job → Bool
fits_job (reply.Ran (run.Done answer)) (Some (job.Run t i)) = is_canonical answer
fits_job (reply.Ran told) (Some (job.Run t i)) = true
fits_job (reply.Ended told) (Some (job.Commit t)) = true
fits_job (reply.Ended told) (Some (job.Rollback t)) = true
fits_job reply.StillLost (Some job.Restart) = true
fits_job _ _ = false

abbrev pub is_restart : Option Job → Bool
is_restart (Some job.Restart) = true
is_restart _ = false

-- whether a session has an open transaction
abbrev pub has_open : ℕ → History → Bool
has_open s h = list_any (λ t. is_open (phase_of t h) && is_of s t h) (one_to (length (begun h)))

-- whether a caller is the session whose transaction this is
abbrev pub owns : ℕ → ℕ → Option ℕ → Bool
owns f caller None = false
owns f caller (Some s) = caller == session_caller f s

abbrev pub waits_for_reply : Option ℕ → History → Bool
waits_for_reply None h = false
waits_for_reply (Some s) h = is_waiting (reply_to s h)

-- a caller may go on with a transaction: it is its session's, it is open, and the session isn't waiting for a reply
abbrev pub may_go_on_with : ℕ → ℕ → ℕ → History → Bool
may_go_on_with f caller t h = owns f caller (session_of t h) && is_open (phase_of t h) && not (waits_for_reply (session_of t h) h)

abbrev pub is_replica : ℕ → ℕ → ℕ → Bool
is_replica f caller r = nat_le r (2 * f) && (caller == replica_caller r)

-- Whether a call is allowed, of 2f + 1 replicas and so many sessions. Transactions and statements have the next number.
-- Begin: the session has no open transaction. Submit: it may go on, within the limits. AskCommit, AskRollback: it may go
-- on. Take: this is the replica's job. Give, Restarted: such a job is out. Anybody may suspect the primary.
abbrev pub is_allowed : ℕ → ℕ → ℕ → Event → History → Bool
is_allowed f sessions caller (event.Begin session txn) h =
    (caller == session_caller f session) && nat_le 1 session && nat_le session sessions && (txn == length (begun h) + 1) && not (has_open session h)
is_allowed f sessions caller (event.Submit txn index stmt) h =
    may_go_on_with f caller txn h && (index == length (submits txn h) + 1) && nat_lt (submitted h) MAX_SUBMITS && nat_lt (length (submits txn h)) MAX_STATEMENTS
is_allowed f sessions caller (event.AskCommit txn) h = may_go_on_with f caller txn h
is_allowed f sessions caller (event.AskRollback txn) h = may_go_on_with f caller txn h
is_allowed f sessions caller (event.Take replica job) h = is_replica f caller replica && is_job job (job_in (view_of f h) replica)
is_allowed f sessions caller (event.Give replica reply) h = is_replica f caller replica && fits_job reply (out_at replica h)
is_allowed f sessions caller (event.Restarted replica count) h = is_replica f caller replica && is_restart (out_at replica h)
is_allowed f sessions caller event.Suspect h = true
is_allowed f sessions caller _ h = false

-- whether the latest entry's caller is this one
abbrev pub is_turn_of : ℕ → History → Bool
is_turn_of caller [] = false
is_turn_of caller (e ∷ before) = e.caller == caller

-- what is due comes next, by the turn's caller; where nothing is, an allowed call
abbrev pub is_next : ℕ → ℕ → Option Event → Entry → History → Bool
is_next f sessions None e before = is_allowed f sessions e.caller e.event before
is_next f sessions (Some next) e before = same_event next e.event && is_turn_of e.caller before

-- whether each entry is, where it stands, the one that was due or an allowed call where nothing was: a faithful history,
-- or one that is within a turn
abbrev pub is_begun : ℕ → ℕ → History → Bool
is_begun f sessions [] = true
is_begun f sessions (e ∷ before) = is_begun f sessions before && is_next f sessions (due f before) e before

-- whether a history has begun rightly, and nothing more is due
abbrev pub is_faithful : ℕ → ℕ → History → Bool
is_faithful f sessions h = is_begun f sessions h && is_none (due f h)

abbrev pub Begun : ℕ → ℕ → History → Type 0
Begun f sessions h = IsTrue (is_begun f sessions h)

-- The history of a shepherd of 2f + 1 replicas and so many sessions follows the rules: it is a list of turns, each an
-- allowed call and then what is due, again and again, until nothing is.
abbrev pub Faithful : ℕ → ℕ → History → Type 0
Faithful f sessions h = IsTrue (is_faithful f sessions h)

-- a replica is correct, as far as the history tells: its journal is rigorous
abbrev pub Correct : Database → History → ℕ → Type 0
Correct db h r = Rigorous db (journal_of r h)
