-- Not to be believed: what holds of the fields of every `View`, of which its proofs speak.
use Rattle.std.specs.Prelude.{◌≡◌, ℕ, ◌+◌, ◌<◌, ◌≤◌, Bool, true, false, ◌||◌, ◌==◌, Option, Some, List, [], ◌∷◌, filter, length, slice_get, take_while, IsTrue, None, map, nat_eq, if◌then◌else◌}
use Rattle.std.specs.Prelude.{vec_len, vec_capacity}
use Rattle.hr_base.specs.Lists.{is_empty, one_to}
use Rattle.hr_base.specs.declared.limits.TheConstants.{MAX_STATEMENTS}
use Rattle.hr_engine.specs.declared.reply.RunReply.{RunReply}
use Rattle.hr_engine.specs.declared.reply.RunReply.TheVariants as run
use Rattle.hr_history.specs.Transactions.{is_open}
use Rattle.hr_history.specs.Processed.{is_logged_by}
use Rattle.hr_progress.specs.declared.view.View.TheInside.{Inside}
use Rattle.hr_progress.specs.declared.txn.TxnState.{TxnState}
use Rattle.hr_progress.specs.declared.txn.Given.{Given}
use Rattle.hr_progress.specs.declared.attempt.Told.{Told}
use Rattle.hr_progress.specs.declared.attempt.Attempt.{Attempt}
use Rattle.hr_progress.specs.declared.progress.Progress.{Progress}
use Rattle.hr_history.specs.declared.job.Job.{Job}
use Rattle.hr_history.specs.declared.job.Job.TheVariants as job
use Rattle.std.specs.Map.{lookup}
use Rattle.hr_moves.specs.Kept.{before_it}
use Rattle.hr_moves.specs.Sane.{IsSane}
use Rattle.hr_progress.specs.Seen.{seen}
use Rattle.hr_progress.specs.Plain.{PlainTxn, PlainAttempt, PlainProgress, PlainView, plain, plain_txn_in, plain_attempt_in, plain_replica_in, with_restart, plain_progress}

abbrev pub is_answer : Option RunReply → Bool
is_answer (Some (run.Done answer)) = true
is_answer _ = false

abbrev pub is_wait : Option RunReply → Bool
is_wait (Some (run.Blocked named)) = true
is_wait (Some (run.Deadlock cycle)) = true
is_wait _ = false

module _ (replies : List RunReply) where
  -- an answer stands at each of these places among the replies
  abbrev pub AreAnswers : List ℕ → Type 0
  AreAnswers [] = Unit {0}
  AreAnswers (place ∷ places) = IsTrue (is_answer (slice_get replies place)) × AreAnswers places

  abbrev pub told_places : List Told → List ℕ
  told_places [] = []
  told_places (t ∷ ts) = t.reply ∷ told_places ts

  abbrev pub given_places : List Given → List ℕ
  given_places [] = []
  given_places (g ∷ gs) = g.reply ∷ given_places gs

  -- where an attempt's answers stand, and where it began, an answer stands; where its last reply does, one that tells of waits
  pub record IsTold (a : PlainAttempt) : Type 0 where
    pub answers : AreAnswers (told_places a.answers)
    pub began : is_empty a.answers ≡ false → IsTrue (is_answer (slice_get replies a.began))
    pub last : (place : ℕ) → a.last ≡ Some place → IsTrue (is_wait (slice_get replies place))

-- the open transactions
abbrev pub opened_of : List PlainTxn → List ℕ
opened_of txns = filter (λ t. is_open (plain_txn_in txns t).phase) (one_to (length txns))

-- of so many transactions those that have something to roll back at a replica
abbrev pub touched_of : ℕ → List (ℕ × PlainAttempt) → List ℕ
touched_of n entries = filter (λ t. (plain_attempt_in entries t).touched) (one_to n)

-- committed at a replica that has so many commits and these entries, or whole there
abbrev pub is_processed_at : List PlainTxn → ℕ → List (ℕ × PlainAttempt) → ℕ → Bool
is_processed_at txns position entries t =
    is_logged_by position (plain_txn_in txns t).phase || (length (plain_attempt_in entries t).answers == (plain_txn_in txns t).statements)

-- how many of the log, from its first on, are processed there
abbrev pub processed_of : List PlainTxn → List ℕ → ℕ → List (ℕ × PlainAttempt) → ℕ
processed_of txns log position entries = length (take_while (is_processed_at txns position entries) log)

-- what is kept of a replica beside the record is what the record tells
pub record IsCounted (txns : List PlainTxn) (log : List ℕ) (q : PlainProgress) : Type 0 where
  pub touched : q.touched ≡ touched_of (length txns) q.attempts
  pub processed : q.processed ≡ processed_of txns log q.position q.attempts

pub record IsKept (p : PlainView) : Type 0 where
  pub opened : p.opened ≡ opened_of p.txns
  pub counted : (r : ℕ) → r < length p.replicas → IsCounted p.txns p.log (plain_replica_in p.replicas r)

-- a replica, with how much of the log is processed there counted anew
abbrev pub recounted : List PlainTxn → List ℕ → PlainProgress → PlainProgress
recounted txns log q = record q { processed = processed_of txns log q.position q.attempts }

-- restarted, with so many commits told, and counted anew
abbrev pub restarted : List PlainTxn → List ℕ → ℕ → PlainProgress → PlainProgress
restarted txns log count q = recounted txns log (with_restart count q)

-- it has processed no less than it is said to have
abbrev pub IsLeast : List PlainTxn → List ℕ → PlainProgress → Type 0
IsLeast txns log q = q.processed ≤ processed_of txns log q.position q.attempts

-- no replica has processed less than it is said to have
abbrev pub NoneLess : List PlainTxn → List ℕ → List PlainProgress → Type 0
NoneLess txns log [] = Unit {0}
NoneLess txns log (q ∷ qs) = IsLeast txns log q × NoneLess txns log qs

-- an answer, or a list of those waited for, stands at each place that is kept
abbrev pub AreTold : List RunReply → List (ℕ × PlainAttempt) → Type 0
AreTold replies [] = Unit {0}
AreTold replies (e ∷ es) = IsTold replies e.1 × AreTold replies es

pub record ArePlaces (p : PlainView) : Type 0 where
  pub told : (r : ℕ) → AreTold p.replies (plain_replica_in p.replicas r).attempts
  pub given : (t : ℕ) → AreAnswers p.replies (given_places p.replies (plain_txn_in p.txns t).given)

-- a transaction doesn't have too many statements, and each one's answer has a place among the given ones
abbrev pub HasGivenRoom : TxnState → Type 0
HasGivenRoom t = (t.statements ≤ vec_capacity t.given) × (t.statements ≤ MAX_STATEMENTS)

abbrev pub HaveGivenRoom : List TxnState → Type 0
HaveGivenRoom [] = Unit {0}
HaveGivenRoom (t ∷ ts) = HasGivenRoom t × HaveGivenRoom ts

abbrev pub is_run : Option Job → Bool
is_run (Some (job.Run t i)) = true
is_run _ = false

abbrev pub is_run_of : ℕ → Option Job → Bool
is_run_of t (Some (job.Run u i)) = u == t
is_run_of t _ = false

-- whether a loss leaves the commit that is out in doubt; at a rollback it doesn't
abbrev pub loses : Option Job → Option Bool
loses (Some (job.Commit t)) = Some true
loses (Some (job.Rollback t)) = Some false
loses _ = None

-- how many runs are out
abbrev pub runs_out : List PlainProgress → ℕ
runs_out [] = 0
runs_out (q ∷ qs) = (if is_run q.out then 1 else 0) + runs_out qs

-- one answer more has its place
abbrev pub IsRoomy : Option Attempt → Type 0
IsRoomy None = Unit {0}
IsRoomy (Some a) = vec_len a.answers < vec_capacity a.answers

abbrev pub HasAnswerRoom : ℕ → List (ℕ × Attempt) → Type 0
HasAnswerRoom t es = IsRoomy (lookup (nat_eq t) es)

-- while a run is out its answer has its place, and so has its transaction among those that have something to roll back
abbrev pub IsReadyFor : Option Job → ℕ → ℕ → List (ℕ × Attempt) → Type 0
IsReadyFor (Some (job.Run t i)) touched room es = (touched < room) × HasAnswerRoom t es
IsReadyFor _ touched room es = Unit {0}

abbrev pub IsReady : Progress → Type 0
IsReady q = IsReadyFor q.out (vec_len q.touched) (vec_capacity q.touched) q.attempts.entries

abbrev pub AreReady : List Progress → Type 0
AreReady [] = Unit {0}
AreReady (q ∷ qs) = IsReady q × AreReady qs

-- it has processed those at least that come before a transaction, as far as it had before
abbrev pub back_to_before : List PlainTxn → ℕ → PlainProgress → PlainProgress
back_to_before txns t q = record q { processed = before_it (plain_txn_in txns t).phase q.processed }

-- or those that it has committed
abbrev pub back_to_position : PlainProgress → PlainProgress
back_to_position q = record q { processed = q.position }

-- what a reply, and what follows from it, may add has its place already
pub record HasRoom (v : Inside) : Type 0 where
  pub log : vec_len v.log + vec_len v.opened ≤ vec_capacity v.log
  pub given : HaveGivenRoom v.txns.items
  pub replies : vec_len v.replies + runs_out (map plain_progress v.replicas.items) ≤ vec_capacity v.replies
  pub ready : AreReady v.replicas.items

pub record IsWhole (v : Inside) : Type 0 where
  pub few : v.f ≤ 3
  pub sane : IsSane (seen v)
  pub kept : IsKept (plain v)
  pub places : ArePlaces (plain v)
  pub room : HasRoom v
