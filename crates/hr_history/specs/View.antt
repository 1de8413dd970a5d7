-- The view: all that the rules look at, but the turn.
use Rattle.std.specs.Prelude.{ℕ, Bool, false, ◌&&◌, ◌==◌, Option, Some, None, is_some, unwrap_or, List, length, map}
use Rattle.hr_rel.specs.declared.answer.Answer.{Answer}
use Rattle.hr_engine.specs.Journal.{Journal}
use Rattle.hr_engine.specs.Attempts.{attempt, answers}
use Rattle.hr_engine.specs.Base.{Settled, settled}
use Rattle.hr_engine.specs.declared.reply.RunReply.{RunReply}
use Rattle.hr_history.specs.declared.job.Job.{Job}
use Rattle.hr_history.specs.declared.phase.Phase.{Phase}
use Rattle.hr_history.specs.declared.phase.Last.{Last}
use Rattle.hr_history.specs.declared.phase.Fresh.{Fresh}
use Rattle.hr_history.specs.History.{History}
use Rattle.hr_base.specs.Lists.{one_to}
use Rattle.hr_history.specs.ReplicaNumbers.{replica_numbers}
use Rattle.hr_history.specs.Transactions.{begun, session_of, log, submits, phase_of}
use Rattle.hr_history.specs.Replicas.{out_at, journal_of, is_convicted}
use Rattle.hr_history.specs.Primary.{primary_of, search_after}
use Rattle.hr_history.specs.Given.{Given, given_to}
use Rattle.hr_history.specs.Attempts.{is_touched, is_preempted, places_told, dispatched, last_told}
use Rattle.hr_history.specs.Turn.{replies_to_runs, fresh_of}

-- A transaction: its session, how many statements it has, the answers given to them, and where it stands.
pub record TxnState : Type 0 where
  pub session : ℕ
  pub statements : ℕ
  pub given : List Given
  pub phase : Phase

-- A transaction at a replica: the answers of its attempt there and where in the history each was told, what its last
-- reply still tells of waits, whether there is something to roll back, and whether it was preempted.
pub record Attempt : Type 0 where
  pub answers : List Answer
  pub places : List ℕ
  pub last : Last
  pub touched : Bool
  pub preempted : Bool

-- A replica: whether it is lost, whether it is convicted, how many transactions it has committed, whether its last
-- commit is in doubt, the job that is out there, and the transactions that it was given statements of, in the order of
-- the first.
pub record Progress : Type 0 where
  pub lost : Bool
  pub convicted : Bool
  pub position : ℕ
  pub doubt : Bool
  pub out : Option Job
  pub attempts : List (ℕ × Attempt)

-- The view: the number of replicas, 2f + 1; the log; the transactions in the order of their numbers; the replicas in the
-- order of theirs; the primary; where the search for a candidate starts; the replies to all runs; and the run that
-- the turn's call replied to.
pub record View : Type 0 where
  pub f : ℕ
  pub log : List ℕ
  pub txns : List TxnState
  pub replicas : List Progress
  pub primary : Option ℕ
  pub search_after : ℕ
  pub replies : List RunReply
  pub fresh : Option Fresh

abbrev pub txn_state : History → ℕ → TxnState
txn_state h t = record { session = unwrap_or (session_of t h) 0; statements = length (submits t h); given = given_to t h; phase = phase_of t h }

abbrev pub is_fresh : Option Fresh → ℕ → ℕ → Bool
is_fresh None r t = false
is_fresh (Some fresh) r t = (fresh.replica == r) && (fresh.txn == t)

abbrev pub attempt_state : ℕ → Journal → History → ℕ → Attempt
attempt_state r j h t = record {
  answers = answers (attempt t j);
  places = places_told r t h;
  last = last_told (is_fresh (fresh_of h) r t) t j;
  touched = is_touched t j;
  preempted = is_preempted r t h;
}

abbrev pub progress_of : ℕ → Journal → Settled → History → Progress
progress_of r j s h = record {
  lost = s.lost;
  convicted = is_convicted r h;
  position = length s.commits;
  doubt = is_some s.doubt;
  out = out_at r h;
  attempts = map (λ t. (t, attempt_state r j h t)) (dispatched r h);
}

abbrev pub progress_in : History → ℕ → Progress
progress_in h r = progress_of r (journal_of r h) (settled (journal_of r h)) h

-- the view of a history of 2f + 1 replicas
abbrev pub view_of : ℕ → History → View
view_of f h = record {
  f = f;
  log = log h;
  txns = map (txn_state h) (one_to (length (begun h)));
  replicas = map (progress_in h) (replica_numbers f);
  primary = primary_of h;
  search_after = search_after f h;
  replies = replies_to_runs h;
  fresh = fresh_of h;
}
