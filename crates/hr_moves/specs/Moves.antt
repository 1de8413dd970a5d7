-- What each event changes in a sane view, and nothing else.
use Rattle.std.specs.Prelude.{ℕ, ◌+◌, Bool, true, false, not, ◌&&◌, ◌==◌, if◌then◌else◌, Option, Some, None, List, [], ◌∷◌, ◌++◌, length, map}
use Rattle.hr_rel.specs.declared.answer.Answer.{Answer}
use Rattle.hr_base.specs.Counters.{shown}
use Rattle.hr_base.specs.Lists.{has}
use Rattle.hr_engine.specs.declared.reply.RunReply.{RunReply}
use Rattle.hr_engine.specs.declared.reply.RunReply.TheVariants as run
use Rattle.hr_engine.specs.declared.reply.EndReply.TheVariants as end
use Rattle.hr_history.specs.declared.entry.Event.{Event}
use Rattle.hr_history.specs.declared.entry.Event.TheVariants as event
use Rattle.hr_history.specs.declared.job.Job.{Job}
use Rattle.hr_history.specs.declared.job.Job.TheVariants as job
use Rattle.hr_history.specs.declared.job.JobReply.{JobReply}
use Rattle.hr_history.specs.declared.job.JobReply.TheVariants as reply
use Rattle.hr_history.specs.declared.phase.Phase.TheVariants as phase
use Rattle.hr_history.specs.declared.phase.Last.{Last}
use Rattle.hr_history.specs.declared.phase.Last.TheVariants as last
use Rattle.hr_history.specs.Transactions.{is_open}
use Rattle.hr_history.specs.Primary.{is_some_of, other_than, start_at_suspect}
use Rattle.hr_history.specs.View.{View, Progress, Attempt, is_fresh}
use Rattle.hr_history.specs.Processed.{txn_in, phase_in, replica_in, runs_in, candidate_in, no_attempt}
use Rattle.hr_moves.specs.Changes.{map_from, with_txn, with_phase, with_replica, with_attempts, with_attempt}
use Rattle.hr_moves.specs.Sane.{cut_to}

-- ---- of replicas

-- no job is out
abbrev pub free : Progress → Progress
free p = record p { out = None }

-- a transaction has an entry
abbrev pub and_entry : ℕ → List (ℕ × Attempt) → List (ℕ × Attempt)
and_entry t entries = if has (map (λ (entry : ℕ × Attempt). entry.0) entries) t then entries else entries ++ (t, no_attempt) ∷ []

abbrev pub with_entry : Job → Progress → Progress
with_entry (job.Run t i) p = record p { attempts = and_entry t p.attempts }
with_entry _ p = p

-- a job is out, and the transaction to run has an entry
abbrev pub with_job : Job → Progress → Progress
with_job j p = record (with_entry j p) { out = Some j }

-- one statement more is answered
abbrev pub with_answer : Answer → ℕ → Attempt → Attempt
with_answer answer place a = record {
  answers = a.answers ++ answer ∷ [];
  places = a.places ++ place ∷ [];
  last = last.Answered;
  touched = true;
  preempted = a.preempted;
}

-- the last reply tells of waits
abbrev pub with_waits : Last → Attempt → Attempt
with_waits told a = record a { last = told; touched = true }

-- t is as if it had never begun, and nobody waits for it
abbrev pub ended_among : ℕ → (ℕ → Bool) → ℕ → Attempt → Attempt
ended_among t runs u a = if u == t then no_attempt else record a { last = cut_to (λ w. not (w == t) && runs w) a.last }

-- a replica is lost, perhaps with a commit in doubt, and all is as if it had never begun
abbrev pub lose : Bool → Progress → Progress
lose in_doubt p = record (with_attempts (λ t a. no_attempt) p) { lost = true; doubt = in_doubt; out = None }

abbrev pub commit : Progress → Progress
commit p = record p { position = p.position + 1; out = None }

-- a replica is restarted, and tells how many commits it has made
abbrev pub restart : ℕ → Progress → Progress
restart count p = record p { lost = false; position = if p.doubt && (count == shown (p.position + 1)) then p.position + 1 else p.position; doubt = false; out = None }

-- ---- of views

-- Of the turn's reply, which stood as it was told, those are left that still run; the turn is over.
abbrev pub rest_attempt : View → ℕ → ℕ → Attempt → Attempt
rest_attempt v r t a = if is_fresh v.fresh r t then record a { last = cut_to (runs_in v r) a.last } else a

abbrev pub rested : View → View
rested v = record v { replicas = map_from (λ r p. with_attempts (rest_attempt v r) p) 0 v.replicas; fresh = None }

-- a reply to a run is kept, and is this turn's
abbrev pub with_reply : ℕ → ℕ → RunReply → View → View
with_reply r t told v = record v { replies = v.replies ++ told ∷ []; fresh = Some record { replica = r; txn = t } }

-- whether an answer of replica r to statement i is given to the session: r is the primary, the transaction is open, and the
-- statement is the first without an answer
abbrev pub is_given : View → ℕ → ℕ → ℕ → Bool
is_given v r t i = is_some_of r v.primary && is_open (phase_in v t) && (i == length (txn_in v t).given + 1)

-- an answer is given, stamped with the length of the log
abbrev pub with_given : ℕ → Answer → View → View
with_given t answer v = with_txn t (λ x. record x { given = x.given ++ record { answer = answer; stamp = length v.log } ∷ [] }) v

-- the calls
abbrev pub after_begin : View → ℕ → View
after_begin v session = record (rested v) { txns = v.txns ++ record { session = session; statements = 0; given = []; phase = phase.Active } ∷ [] }

abbrev pub after_submit : View → ℕ → View
after_submit v t = with_txn t (λ x. record x { statements = x.statements + 1 }) (rested v)

abbrev pub after_ask_commit : View → ℕ → ℕ → View
after_ask_commit v asks t = with_phase t (phase.Asked (asks + 1)) (rested v)

abbrev pub after_ask_rollback : View → ℕ → View
after_ask_rollback v t = with_phase t phase.RolledBack (rested v)

abbrev pub after_take : View → ℕ → Job → View
after_take v r j = with_replica r (with_job j) (rested v)

abbrev pub after_suspect : View → View
after_suspect v = record (rested v) { primary = None; search_after = start_at_suspect v.primary (candidate_in v) v.search_after }

-- a run was answered, and its answer is given or not
abbrev pub answered : View → ℕ → ℕ → ℕ → Answer → View
answered v place r t answer = with_replica r (λ p. with_attempt t (with_answer answer place) (free p)) (rested v)

abbrev pub after_done : View → ℕ → ℕ → ℕ → ℕ → Answer → View
after_done v place r t i answer = with_reply r t (run.Done answer) (if is_given v r t i then with_given t answer (answered v place r t answer) else answered v place r t answer)

-- a run was told to wait, or of a cycle of waits
abbrev pub after_waits : View → ℕ → ℕ → RunReply → Last → View
after_waits v r t told still = with_reply r t told (with_replica r (λ p. with_attempt t (with_waits still) (free p)) (rested v))

abbrev pub after_no_memory : View → ℕ → ℕ → View
after_no_memory v r t = with_reply r t run.NoMemory (with_replica r free (rested v))

-- a replica was lost: at a commit, which is in doubt then, or not
abbrev pub after_loss : View → ℕ → Bool → View
after_loss v r in_doubt = record (with_replica r (lose in_doubt) (rested v)) { primary = other_than r v.primary }

abbrev pub after_run : View → ℕ → ℕ → ℕ → ℕ → RunReply → View
after_run v place r t i (run.Done answer) = after_done v place r t i answer
after_run v place r t i (run.Blocked named) = after_waits v r t (run.Blocked named) (last.Blocked named)
after_run v place r t i (run.Deadlock cycle) = after_waits v r t (run.Deadlock cycle) (last.Deadlock cycle)
after_run v place r t i run.Lost = with_reply r t run.Lost (after_loss v r false)
after_run v place r t i run.NoMemory = after_no_memory v r t

-- the attempt at the replica ended
abbrev pub after_rollback : View → ℕ → ℕ → View
after_rollback v r t = with_replica r (λ p. with_attempts (ended_among t (runs_in v r)) (free p)) (rested v)

-- and is committed there
abbrev pub after_commit : View → ℕ → ℕ → View
after_commit v r t = with_replica r (λ p. with_attempts (ended_among t (runs_in v r)) (commit p)) (rested v)

abbrev pub after_still_lost : View → ℕ → View
after_still_lost v r = with_replica r free (rested v)

-- the reply to a job, where that was out; others don't come
abbrev pub after_give : View → ℕ → ℕ → Option Job → JobReply → View
after_give v place r (Some (job.Run t i)) (reply.Ran told) = after_run v place r t i told
after_give v place r (Some (job.Commit t)) (reply.Ended end.Done) = after_commit v r t
after_give v place r (Some (job.Commit t)) (reply.Ended end.Lost) = after_loss v r true
after_give v place r (Some (job.Rollback t)) (reply.Ended end.Done) = after_rollback v r t
after_give v place r (Some (job.Rollback t)) (reply.Ended end.Lost) = after_loss v r false
after_give v place r (Some job.Restart) reply.StillLost = after_still_lost v r
after_give v place r _ _ = v

abbrev pub after_restart : View → ℕ → ℕ → View
after_restart v r count = with_replica r (restart count) (rested v)

-- what follows from calls
abbrev pub after_decide : View → ℕ → View
after_decide v t = record (with_phase t (phase.Logged (length v.log + 1)) v) { log = v.log ++ t ∷ [] }

abbrev pub after_refuse : View → ℕ → View
after_refuse v t = with_phase t phase.Refused v

abbrev pub after_convict : View → ℕ → View
after_convict v r = record (with_replica r (λ p. record p { convicted = true }) v) { primary = other_than r v.primary }

abbrev pub after_new_primary : View → ℕ → View
after_new_primary v r = record v { primary = Some r; search_after = r }

abbrev pub after_preempt : View → ℕ → ℕ → View
after_preempt v r t = with_replica r (λ p. with_attempt t (λ a. record a { preempted = true }) p) v

-- The view after one more entry, where so many entries stood before, and so often a commit was asked for.
abbrev pub view_after : View → ℕ → ℕ → Event → View
view_after v place asks (event.Begin session txn) = after_begin v session
view_after v place asks (event.Submit txn index stmt) = after_submit v txn
view_after v place asks (event.AskCommit txn) = after_ask_commit v asks txn
view_after v place asks (event.AskRollback txn) = after_ask_rollback v txn
view_after v place asks (event.Take replica job) = after_take v replica job
view_after v place asks (event.Give replica reply) = after_give v place replica (replica_in v replica).out reply
view_after v place asks (event.Restarted replica count) = after_restart v replica count
view_after v place asks event.Suspect = after_suspect v
view_after v place asks (event.Decide txn) = after_decide v txn
view_after v place asks (event.Refuse txn cause) = after_refuse v txn
view_after v place asks (event.Convict replica evidence) = after_convict v replica
view_after v place asks (event.NewPrimary replica) = after_new_primary v replica
view_after v place asks (event.Preempt replica txn) = after_preempt v replica txn
