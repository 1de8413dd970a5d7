-- When an event fits a view: what the call by which the view is changed requires.
use Rattle.std.specs.Prelude.{◌≡◌, ℕ, ◌+◌, ◌≤◌, Some, length, IsTrue}
use Rattle.hr_base.specs.declared.limits.TheConstants.{MAX_SUBMITS}
use Rattle.hr_history.specs.declared.entry.Event.{Event}
use Rattle.hr_history.specs.declared.entry.Event.TheVariants as event
use Rattle.hr_history.specs.declared.job.Job.{Job}
use Rattle.hr_history.specs.declared.job.Job.TheVariants as job
use Rattle.hr_history.specs.Transactions.{is_open}
use Rattle.hr_history.specs.Attempts.{and_dispatched}
use Rattle.hr_history.specs.View.{View}
use Rattle.hr_history.specs.Processed.{phase_in, replica_in, attempt_in, live_in}
use Rattle.hr_history.specs.Jobs.{job_in}
use Rattle.hr_history.specs.Faithful.{fits_job, is_restart}
use Rattle.hr_moves.specs.Kept.{entries_in}
use Rattle.hr_moves.specs.Sane.{IsReplica}

-- a transaction is open
abbrev pub IsOpen : View → ℕ → Type 0
IsOpen v t = IsTrue (is_open (phase_in v t))

-- a replica may have one entry more for this job: it has an entry of the transaction to run, or not too many others
abbrev pub HasRoom : View → ℕ → Job → Type 0
HasRoom v r (job.Run t i) = length (and_dispatched t (entries_in v r)) ≤ MAX_SUBMITS
HasRoom v r _ = Unit {0}

-- Begin: the number is the next. Submit, AskCommit, AskRollback, Decide, Refuse: the transaction is open.
-- Take: this is the replica's job. Give, Restarted: such a job is out. NewPrimary: the replica is live. Preempt: there is
-- something to roll back.
abbrev pub Fits : View → Event → Type 0
Fits v (event.Begin session txn) = txn ≡ length v.txns + 1
Fits v (event.Submit txn index stmt) = IsOpen v txn
Fits v (event.AskCommit txn) = IsOpen v txn
Fits v (event.AskRollback txn) = IsOpen v txn
Fits v (event.Take replica job) = IsReplica v replica × (job_in v replica ≡ Some job) × HasRoom v replica job
Fits v (event.Give replica reply) = IsReplica v replica × IsTrue (fits_job reply (replica_in v replica).out)
Fits v (event.Restarted replica count) = IsReplica v replica × IsTrue (is_restart (replica_in v replica).out)
Fits v event.Suspect = Unit {0}
Fits v (event.Decide txn) = IsOpen v txn
Fits v (event.Refuse txn cause) = IsOpen v txn
Fits v (event.Convict replica evidence) = IsReplica v replica
Fits v (event.NewPrimary replica) = IsReplica v replica × IsTrue (live_in v replica)
Fits v (event.Preempt replica txn) = IsReplica v replica × IsTrue (attempt_in v replica txn).touched
