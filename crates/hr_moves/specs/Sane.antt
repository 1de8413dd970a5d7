-- Views that make sense: what holds of every view that the events make, each in a view that it fits.
use Rattle.std.specs.Prelude.{◌≡◌, ◌↔◌, ℕ, ◌+◌, ◌*◌, ◌≤◌, ◌<◌, Bool, false, Some, length, filter, option_and_then, IsTrue}
use Rattle.hr_base.specs.Lists.{numbered, has, once, is_distinct}
use Rattle.hr_base.specs.declared.limits.TheConstants.{MAX_SUBMITS}
use Rattle.hr_engine.specs.Waits.{if_all}
use Rattle.hr_history.specs.declared.job.Job.{Job}
use Rattle.hr_history.specs.declared.job.Job.TheVariants as job
use Rattle.hr_history.specs.declared.phase.Phase.TheVariants as phase
use Rattle.hr_history.specs.declared.phase.Last.{Last}
use Rattle.hr_history.specs.declared.phase.Fresh.{Fresh}
use Rattle.hr_history.specs.Attempts.{still_told}
use Rattle.hr_history.specs.View.{View, is_fresh}
use Rattle.hr_history.specs.Processed.{txn_in, phase_in, replica_in, attempt_in, runs_in, live_in, named_in, cycle_in, no_attempt}
use Rattle.hr_history.specs.Jobs.{next_in_log}
use Rattle.hr_moves.specs.Kept.{entries_in}

-- a replica has this number
abbrev pub IsReplica : View → ℕ → Type 0
IsReplica v r = r ≤ 2 * v.f

-- a transaction has this number
abbrev pub IsKnown : View → ℕ → Type 0
IsKnown v t = (1 ≤ t) × (t ≤ length v.txns)

-- a transaction has an entry at a replica
abbrev pub HasEntry : View → ℕ → ℕ → Type 0
HasEntry v r t = IsTrue (has (entries_in v r) t)

-- what a last reply still tells where these run
abbrev pub cut_to : (ℕ → Bool) → Last → Last
cut_to runs told = still_told (filter runs (once (named_in told))) (option_and_then (if_all runs) (cycle_in told))

-- A job may be out at a replica: a restart where it is lost, and any other where it isn't. The statement to run is one of
-- those of a transaction that has an entry, the transaction to commit is the next of the log, and there is something to
-- roll back.
abbrev pub MayBeOut : View → ℕ → Job → Type 0
MayBeOut v r (job.Run t i) = ((replica_in v r).lost ≡ false) × HasEntry v r t × (1 ≤ i) × (i ≤ (txn_in v t).statements)
MayBeOut v r (job.Commit t) = ((replica_in v r).lost ≡ false) × (next_in_log v r ≡ Some t)
MayBeOut v r (job.Rollback t) = ((replica_in v r).lost ≡ false) × IsTrue (attempt_in v r t).touched
MayBeOut v r job.Restart = IsTrue (replica_in v r).lost

pub record IsSane (v : View) : Type 0 where
  -- there are 2f + 1 replicas, the search for a candidate starts at one of them, and the primary is a live one
  pub replicas : length v.replicas ≡ 2 * v.f + 1
  pub search : IsReplica v v.search_after
  pub primary : (r : ℕ) → v.primary ≡ Some r → IsReplica v r × IsTrue (live_in v r)
  -- the log has the decided transactions, each at its place
  pub logged : (t place : ℕ) → (phase_in v t ≡ phase.Logged place) ↔ (numbered v.log place ≡ Some t)
  -- an answer was given to a statement
  pub given : (t : ℕ) → length (txn_in v t).given ≤ (txn_in v t).statements
  -- a replica's commits begin the log; only where it is lost is one in doubt, and that is the next
  pub position : (r : ℕ) → (replica_in v r).position ≤ length v.log
  pub doubt : (r : ℕ) → IsTrue (replica_in v r).doubt → IsTrue (replica_in v r).lost × ((replica_in v r).position < length v.log)
  -- the entries of a replica are of transactions, of each once, and no more than statements may be submitted
  pub known : (r t : ℕ) → HasEntry v r t → IsKnown v t
  pub apart : (r : ℕ) → IsTrue (is_distinct (entries_in v r))
  pub few : (r : ℕ) → length (replica_in v r).attempts ≤ MAX_SUBMITS
  -- what has nothing to roll back is as if it had never begun, and so is all at a lost replica
  pub untouched : (r t : ℕ) → (attempt_in v r t).touched ≡ false → attempt_in v r t ≡ no_attempt
  pub stopped : (r t : ℕ) → IsTrue (replica_in v r).lost → (attempt_in v r t).touched ≡ false
  -- the turn's reply is of a transaction that has an entry; of every other last reply those are left that still run
  pub fresh : (fresh : Fresh) → v.fresh ≡ Some fresh → IsReplica v fresh.replica × HasEntry v fresh.replica fresh.txn
  pub cut : (r t : ℕ) → is_fresh v.fresh r t ≡ false → (attempt_in v r t).last ≡ cut_to (runs_in v r) (attempt_in v r t).last
  -- the job that is out at a replica may be out there
  pub out : (r : ℕ) (j : Job) → (replica_in v r).out ≡ Some j → MayBeOut v r j
