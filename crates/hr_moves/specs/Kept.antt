-- What the code keeps beside the view, so that no rule looks at every transaction; and what each event makes of it.
use Rattle.std.specs.Prelude.{ℕ, suc, ◌+◌, not, ◌==◌, nat_lt, nat_le, if◌then◌else◌, Option, Some, List, [], ◌∷◌, ◌++◌, length, filter, map, drop, take_while}
use Rattle.hr_engine.specs.declared.reply.RunReply.TheVariants as run
use Rattle.hr_engine.specs.declared.reply.EndReply.TheVariants as end
use Rattle.hr_history.specs.declared.entry.Event.{Event}
use Rattle.hr_history.specs.declared.entry.Event.TheVariants as event
use Rattle.hr_history.specs.declared.job.Job.{Job}
use Rattle.hr_history.specs.declared.job.Job.TheVariants as job
use Rattle.hr_history.specs.declared.job.JobReply.{JobReply}
use Rattle.hr_history.specs.declared.job.JobReply.TheVariants as reply
use Rattle.hr_history.specs.declared.phase.Phase.{Phase}
use Rattle.hr_history.specs.declared.phase.Phase.TheVariants as phase
use Rattle.hr_history.specs.Transactions.{is_open}
use Rattle.hr_history.specs.View.{View, Attempt}
use Rattle.hr_history.specs.Processed.{phase_in, replica_in, attempt_in, is_processed, processed_in}
use Rattle.hr_history.specs.Jobs.{txn_numbers}

-- the open transactions, in ascending order
abbrev pub open_in : View → List ℕ
open_in v = filter (λ t. is_open (phase_in v t)) (txn_numbers v)

-- the transactions that have something to roll back at a replica, in ascending order
abbrev pub touched_in : View → ℕ → List ℕ
touched_in v r = filter (λ t. (attempt_in v r t).touched) (txn_numbers v)

-- the transactions that have an entry at a replica: those of which it was given statements, in the order of the first
abbrev pub entries_in : View → ℕ → List ℕ
entries_in v r = map (λ (entry : ℕ × Attempt). entry.0) (replica_in v r).attempts

-- ---- what an event makes of them

abbrev pub without : ℕ → List ℕ → List ℕ
without t ts = filter (λ u. not (u == t)) ts

-- t too, at its place among ascending ones
abbrev pub and_in_order : ℕ → List ℕ → List ℕ
and_in_order t [] = t ∷ []
and_in_order t (u ∷ us) = if nat_lt t u then t ∷ u ∷ us else if u == t then u ∷ us else u ∷ and_in_order t us

-- a new one is open, and one that ends isn't any more
abbrev pub next_open : Event → List ℕ → List ℕ
next_open (event.Begin session txn) ts = ts ++ txn ∷ []
next_open (event.AskRollback txn) ts = without txn ts
next_open (event.Decide txn) ts = without txn ts
next_open (event.Refuse txn cause) ts = without txn ts
next_open _ ts = ts

-- one that was answered, or told of waits, is touched; one that ended isn't, and after a loss none is
abbrev pub touched_by_reply : Option Job → JobReply → List ℕ → List ℕ
touched_by_reply (Some (job.Run t i)) (reply.Ran (run.Done answer)) ts = and_in_order t ts
touched_by_reply (Some (job.Run t i)) (reply.Ran (run.Blocked named)) ts = and_in_order t ts
touched_by_reply (Some (job.Run t i)) (reply.Ran (run.Deadlock cycle)) ts = and_in_order t ts
touched_by_reply (Some (job.Run t i)) (reply.Ran run.Lost) ts = []
touched_by_reply (Some (job.Run t i)) (reply.Ran run.NoMemory) ts = ts
touched_by_reply (Some (job.Commit t)) (reply.Ended end.Done) ts = without t ts
touched_by_reply (Some (job.Commit t)) (reply.Ended end.Lost) ts = []
touched_by_reply (Some (job.Rollback t)) (reply.Ended end.Done) ts = without t ts
touched_by_reply (Some (job.Rollback t)) (reply.Ended end.Lost) ts = []
touched_by_reply _ _ ts = ts

-- what an event makes of those touched at replica r, where this job was out there
abbrev pub next_touched_in : ℕ → Event → Option Job → List ℕ → List ℕ
next_touched_in r (event.Give replica told) out ts = if replica == r then touched_by_reply out told ts else ts
next_touched_in r _ out ts = ts

-- ---- how many of the log are processed

-- those before it, where it is logged
abbrev pub before_it : Phase → ℕ → ℕ
before_it (phase.Logged (suc place)) n = if nat_le n place then n else place
before_it _ n = n

-- at a loss those stay processed that are committed; where a transaction runs on or is rolled back, those before it
abbrev pub still_by_reply : View → ℕ → Option Job → JobReply → ℕ → ℕ
still_by_reply v r (Some (job.Run t i)) (reply.Ran (run.Done answer)) n = before_it (phase_in v t) n
still_by_reply v r (Some (job.Run t i)) (reply.Ran run.Lost) n = (replica_in v r).position
still_by_reply v r (Some (job.Commit t)) (reply.Ended end.Lost) n = (replica_in v r).position
still_by_reply v r (Some (job.Rollback t)) (reply.Ended end.Done) n = before_it (phase_in v t) n
still_by_reply v r (Some (job.Rollback t)) (reply.Ended end.Lost) n = (replica_in v r).position
still_by_reply v r _ _ n = n

-- how many of the log, from its first on, are processed at replica r after an event as they were before it
abbrev pub still_processed : View → ℕ → Event → ℕ
still_processed v r (event.Give replica told) = if replica == r then still_by_reply v r (replica_in v r).out told (processed_in v r) else processed_in v r
still_processed v r _ = processed_in v r

-- the first n of the log, and those after them as far as they are processed
abbrev pub processed_from : View → ℕ → ℕ → ℕ
processed_from v r n = n + length (take_while (is_processed v r) (drop n v.log))
