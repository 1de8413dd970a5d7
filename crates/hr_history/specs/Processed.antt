-- What a view tells of each transaction and replica.
use Rattle.std.specs.Prelude.{ℕ, Bool, false, not, ◌&&◌, ◌||◌, ◌==◌, nat_eq, nat_le, Option, Some, None, unwrap_or, List, [], length, slice_get, take_while, option_and_then}
use Rattle.std.specs.Map.{lookup}
use Rattle.hr_rel.specs.declared.answer.Answer.{Answer}
use Rattle.hr_base.specs.Lists.{is_empty, numbered}
use Rattle.hr_engine.specs.Waits.{if_all}
use Rattle.hr_history.specs.declared.phase.Phase.{Phase}
use Rattle.hr_history.specs.declared.phase.Phase.TheVariants as phase
use Rattle.hr_history.specs.declared.phase.Last.{Last}
use Rattle.hr_history.specs.declared.phase.Last.TheVariants as last
use Rattle.hr_history.specs.Given.{answers_given}
use Rattle.hr_history.specs.Primary.{is_some_of, candidate_after}
use Rattle.hr_history.specs.View.{View, TxnState, Progress, Attempt}

-- a number that no transaction has counts as that of a refused one
abbrev pub unknown_txn : TxnState
unknown_txn = record { session = 0; statements = 0; given = []; phase = phase.Refused }

-- the replica before its first entry
abbrev pub idle_replica : Progress
idle_replica = record { lost = false; convicted = false; position = 0; doubt = false; out = None; attempts = [] }

-- the transaction before its first statement was given to the replica
abbrev pub no_attempt : Attempt
no_attempt = record { answers = []; places = []; last = last.Answered; touched = false; preempted = false }

module _ (v : View) where
  abbrev pub txn_in : ℕ → TxnState
  txn_in t = unwrap_or (numbered v.txns t) unknown_txn

  abbrev pub phase_in : ℕ → Phase
  phase_in t = (txn_in t).phase

  abbrev pub replica_in : ℕ → Progress
  replica_in r = unwrap_or (slice_get v.replicas r) idle_replica

  abbrev pub attempt_in : ℕ → ℕ → Attempt
  attempt_in r t = unwrap_or (lookup (nat_eq t) (replica_in r).attempts) no_attempt

  abbrev pub given_in : ℕ → List Answer
  given_in t = answers_given (txn_in t).given

  abbrev pub answers_in : ℕ → ℕ → List Answer
  answers_in r t = (attempt_in r t).answers

  -- whether a transaction is running at a replica: its attempt there has a statement
  abbrev pub runs_in : ℕ → ℕ → Bool
  runs_in r t = not (is_empty (answers_in r t))

  -- neither lost nor convicted
  abbrev pub live_in : ℕ → Bool
  live_in r = not (replica_in r).lost && not (replica_in r).convicted

  abbrev pub is_primary : ℕ → Bool
  is_primary r = is_some_of r v.primary

abbrev pub named_in : Last → List ℕ
named_in last.Answered = []
named_in (last.Blocked named) = named
named_in (last.Deadlock cycle) = []

abbrev pub cycle_in : Last → Option (List ℕ)
cycle_in last.Answered = None
cycle_in (last.Blocked named) = None
cycle_in (last.Deadlock cycle) = Some cycle

-- whether a phase is that of the log's transactions up to a place
abbrev pub is_logged_by : ℕ → Phase → Bool
is_logged_by place (phase.Logged p) = nat_le p place
is_logged_by place _ = false

module _ (v : View) (r : ℕ) where
  -- whom a transaction waits for at a replica
  abbrev pub wait_in : ℕ → List ℕ
  wait_in t = named_in (attempt_in v r t).last

  -- the cycle of waits that its last reply there told, if that stands: all its members run there
  abbrev pub standing_in : ℕ → Option (List ℕ)
  standing_in t = option_and_then (if_all (runs_in v r)) (cycle_in (attempt_in v r t).last)

  -- committed there: replicas commit in the order of the log, so it is among as many of its first as they have committed
  abbrev pub is_committed : ℕ → Bool
  is_committed t = is_logged_by (replica_in v r).position (phase_in v t)

  -- all its statements are answered in its attempt there
  abbrev pub is_whole : ℕ → Bool
  is_whole t = length (answers_in v r t) == (txn_in v t).statements

  -- processed there: committed, or whole
  abbrev pub is_processed : ℕ → Bool
  is_processed t = is_committed t || is_whole t

  -- how many of the log, from its first on, are processed at a replica
  abbrev pub processed_in : ℕ
  processed_in = length (take_while is_processed v.log)

-- the candidate: the first live replica after the one where the search starts
abbrev pub candidate_in : View → Option ℕ
candidate_in v = candidate_after v.f (live_in v) v.search_after

-- a replica is caught up where it has committed the whole log
abbrev pub is_caught_up : View → ℕ → Bool
is_caught_up v r = (replica_in v r).position == length v.log
