-- The job that a replica is given next.
use Rattle.std.specs.Prelude.{ℕ, ◌+◌, Bool, false, not, ◌&&◌, ◌||◌, nat_le, if◌then◌else◌, Option, Some, None, is_some, is_none, List, [], ◌∷◌, length, filter, find, slice_get, option_and_then}
use Rattle.std.specs.List.{list_any}
use Rattle.std.specs.Option.{option_map}
use Rattle.hr_history.specs.declared.job.Job.{Job}
use Rattle.hr_history.specs.declared.job.Job.TheVariants as job
use Rattle.hr_base.specs.Lists.{first_some, when, one_to}
use Rattle.hr_history.specs.SameAnswers.{same_answers}
use Rattle.hr_history.specs.Transactions.{is_open, is_logged, is_ended}
use Rattle.hr_history.specs.Given.{Given}
use Rattle.hr_history.specs.View.{View}
use Rattle.hr_history.specs.Processed.{txn_in, phase_in, replica_in, attempt_in, given_in, answers_in, runs_in, is_primary, wait_in, standing_in, is_committed, is_whole, processed_in}
use Rattle.hr_history.specs.Ranks.{first_in_rank}

-- the numbers of all transactions
abbrev pub txn_numbers : View → List ℕ
txn_numbers v = one_to (length v.txns)

abbrev pub is_stamped_by : ℕ → Option Given → Bool
is_stamped_by m None = false
is_stamped_by m (Some given) = nat_le given.stamp m

module _ (v : View) (r : ℕ) where
  -- to be rolled back here: something was answered, and it is refused, rolled back, or was preempted here
  abbrev pub is_to_roll_back : ℕ → Bool
  is_to_roll_back t = (attempt_in v r t).touched && (is_ended (phase_in v t) || (attempt_in v r t).preempted)

  -- the rollback of the lowest such transaction
  abbrev pub rollback_job : Option Job
  rollback_job = option_map (λ t. job.Rollback t) (find is_to_roll_back (txn_numbers v))

  -- the transaction that is to be committed here next: the one in the log after those that are
  abbrev pub next_in_log : Option ℕ
  next_in_log = slice_get v.log (replica_in v r).position

  -- the commit of the next transaction of the log, where it is whole here with the accepted answers
  abbrev pub commit_job : Option Job
  commit_job = option_and_then (λ t. when (is_whole v r t && same_answers (answers_in v r t) (given_in v t)) (job.Commit t)) next_in_log

  -- whether nothing is known here that a transaction waits for: nobody whom it waits for runs, and no cycle of waits stands
  abbrev pub may_go_on : ℕ → Bool
  may_go_on t = not (list_any (runs_in v r) (wait_in v r t)) && is_none (standing_in v r t)

  -- the index of the statement that is next in the transaction's attempt here
  abbrev pub next_index : ℕ → ℕ
  next_index t = length (answers_in v r t) + 1

  -- At a replica that isn't the primary the next statement of an attempt may run: the transaction is open, or logged and
  -- not committed here; the statement has a stamp; the stamp is at most what is processed here (the barrier); and
  -- nothing is known that it waits for.
  abbrev pub may_repeat : ℕ → Bool
  may_repeat t = (is_open (phase_in v t) || (is_logged (phase_in v t) && not (is_committed v r t)))
      && is_stamped_by (processed_in v r) (slice_get (txn_in v t).given (length (answers_in v r t))) && may_go_on t

  -- the index of the statement that is submitted and isn't answered, if there is one
  abbrev pub pending_index : ℕ → ℕ
  pending_index t = length (txn_in v t).given + 1

  -- At the primary the pending statement of an open transaction may run, where nothing is known that it waits for.
  abbrev pub may_run_first : ℕ → Bool
  may_run_first t = is_open (phase_in v t) && nat_le (pending_index t) (txn_in v t).statements && may_go_on t

  -- the run that ranks first among those that may be
  abbrev pub run_job : Option Job
  run_job = if is_primary v r
      then option_map (λ t. job.Run t (pending_index t)) (first_in_rank v (filter may_run_first (txn_numbers v)))
      else option_map (λ t. job.Run t (next_index t)) (first_in_rank v (filter may_repeat (txn_numbers v)))

  -- The job of a replica: none where it is convicted or has one out; a restart where it is lost; else the first of these:
  -- a rollback, the commit that is next in the log, a run.
  abbrev pub job_in : Option Job
  job_in = if (replica_in v r).convicted || is_some (replica_in v r).out then None
      else if (replica_in v r).lost then Some job.Restart
      else first_some (rollback_job ∷ commit_job ∷ run_job ∷ [])
