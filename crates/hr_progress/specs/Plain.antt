-- Not to be believed: the fields of a `View` without where they lie in memory, of which its proofs speak.
use Rattle.std.specs.Prelude.{ℕ, ◌+◌, Bool, true, false, not, ◌&&◌, ◌==◌, if◌then◌else◌, Option, None, Some, List, [], ◌∷◌, ◌++◌, map, nat_eq, slice_get, unwrap_or}
use Rattle.std.specs.Map.{lookup}
use Rattle.hr_base.specs.Counters.{shown}
use Rattle.hr_base.specs.Lists.{is_empty, has, numbered}
use Rattle.hr_engine.specs.declared.reply.RunReply.{RunReply}
use Rattle.hr_history.specs.declared.job.Job.{Job}
use Rattle.hr_history.specs.declared.job.Job.TheVariants as job
use Rattle.hr_history.specs.declared.phase.Phase.{Phase}
use Rattle.hr_history.specs.declared.phase.Phase.TheVariants as phase
use Rattle.hr_history.specs.declared.phase.Fresh.{Fresh}
use Rattle.hr_moves.specs.Kept.{and_in_order, without}
use Rattle.hr_progress.specs.declared.view.View.TheInside.{Inside}
use Rattle.hr_progress.specs.declared.txn.TxnState.{TxnState}
use Rattle.hr_progress.specs.declared.txn.Given.{Given}
use Rattle.hr_progress.specs.declared.progress.Progress.{Progress}
use Rattle.hr_progress.specs.declared.attempt.Attempt.{Attempt}
use Rattle.hr_progress.specs.declared.attempt.Told.{Told}

pub record PlainTxn : Type 0 where
  pub session : ℕ
  pub statements : ℕ
  pub given : List Given
  pub phase : Phase

pub record PlainAttempt : Type 0 where
  pub answers : List Told
  pub began : ℕ
  pub last : Option ℕ
  pub touched : Bool
  pub preempted : Bool

pub record PlainProgress : Type 0 where
  pub lost : Bool
  pub convicted : Bool
  pub position : ℕ
  pub doubt : Bool
  pub out : Option Job
  pub attempts : List (ℕ × PlainAttempt)
  pub touched : List ℕ
  pub processed : ℕ

pub record PlainView : Type 0 where
  pub f : ℕ
  pub log : List ℕ
  pub txns : List PlainTxn
  pub replicas : List PlainProgress
  pub primary : Option ℕ
  pub search_after : ℕ
  pub replies : List RunReply
  pub fresh : Option Fresh
  pub opened : List ℕ

abbrev pub plain_txn : TxnState → PlainTxn
plain_txn t = record { session = t.session; statements = t.statements; given = t.given.items; phase = t.phase }

abbrev pub plain_attempt : Attempt → PlainAttempt
plain_attempt a = record { answers = a.answers.items; began = a.began; last = a.last; touched = a.touched; preempted = a.preempted }

abbrev pub plain_entry : ℕ × Attempt → ℕ × PlainAttempt
plain_entry p = (p.0, plain_attempt p.1)

abbrev pub plain_progress : Progress → PlainProgress
plain_progress p = record {
  lost = p.lost;
  convicted = p.convicted;
  position = p.position;
  doubt = p.doubt;
  out = p.out;
  attempts = map plain_entry p.attempts.entries;
  touched = p.touched.items;
  processed = p.processed;
}

abbrev pub plain : Inside → PlainView
plain v = record {
  f = v.f;
  log = v.log.items;
  txns = map plain_txn v.txns.items;
  replicas = map plain_progress v.replicas.items;
  primary = v.primary;
  search_after = v.search_after;
  replies = v.replies.items;
  fresh = v.fresh;
  opened = v.opened.items;
}

-- what a number stands for that no transaction, no replica or no entry has

abbrev pub no_txn : PlainTxn
no_txn = record { session = 0; statements = 0; given = []; phase = phase.Refused }

abbrev pub idle_attempt : PlainAttempt
idle_attempt = record { answers = []; began = 0; last = None; touched = false; preempted = false }

abbrev pub idle_progress : PlainProgress
idle_progress = record { lost = false; convicted = false; position = 0; doubt = false; out = None; attempts = []; touched = []; processed = 0 }

abbrev pub plain_txn_in : List PlainTxn → ℕ → PlainTxn
plain_txn_in txns t = unwrap_or (numbered txns t) no_txn

abbrev pub plain_attempt_in : List (ℕ × PlainAttempt) → ℕ → PlainAttempt
plain_attempt_in entries t = unwrap_or (lookup (nat_eq t) entries) idle_attempt

abbrev pub plain_replica_in : List PlainProgress → ℕ → PlainProgress
plain_replica_in replicas r = unwrap_or (slice_get replicas r) idle_progress

-- neither lost nor convicted
abbrev pub live_of : List PlainProgress → ℕ → Bool
live_of replicas r = not (plain_replica_in replicas r).lost && not (plain_replica_in replicas r).convicted

-- small changes

-- a transaction that a session has just begun
abbrev pub begun : ℕ → PlainTxn
begun session = record { session = session; statements = 0; given = []; phase = phase.Active }

abbrev pub to_phase : Phase → PlainTxn → PlainTxn
to_phase p t = record t { phase = p }

-- one statement more
abbrev pub with_statement : PlainTxn → PlainTxn
with_statement t = record t { statements = t.statements + 1 }

-- the first entry of a transaction, changed
abbrev pub with_entry : ℕ → (PlainAttempt → PlainAttempt) → List (ℕ × PlainAttempt) → List (ℕ × PlainAttempt)
with_entry t change [] = []
with_entry t change (e ∷ es) = if nat_eq t e.0 then (e.0, change e.1) ∷ es else e ∷ with_entry t change es

abbrev pub to_preempted : PlainAttempt → PlainAttempt
to_preempted a = record a { preempted = true }

abbrev pub to_convicted : PlainProgress → PlainProgress
to_convicted q = record q { convicted = true }

abbrev pub with_preempted : ℕ → PlainProgress → PlainProgress
with_preempted t q = record q { attempts = with_entry t to_preempted q.attempts }

-- restarted, with so many commits told
abbrev pub with_restart : ℕ → PlainProgress → PlainProgress
with_restart count q = record q {
  lost = false;
  position = if q.doubt && (count == shown (q.position + 1)) then q.position + 1 else q.position;
  doubt = false;
  out = None;
}

-- one answer more, which stands at a place among the replies; the newest of these has place n
abbrev pub to_answered : Told → ℕ → PlainAttempt → PlainAttempt
to_answered told n a = record a { answers = a.answers ++ told ∷ []; began = if is_empty a.answers then n else a.began; last = None; touched = true }

-- the reply at a place told it of waits
abbrev pub to_waiting : ℕ → PlainAttempt → PlainAttempt
to_waiting place a = record a { last = Some place; touched = true }

-- as if it had never begun
abbrev pub to_idle : PlainAttempt → PlainAttempt
to_idle a = idle_attempt

abbrev pub to_idle_entry : ℕ × PlainAttempt → ℕ × PlainAttempt
to_idle_entry e = (e.0, idle_attempt)

abbrev pub with_answered : ℕ → Told → ℕ → PlainProgress → PlainProgress
with_answered t told n q = record q { out = None; attempts = with_entry t (to_answered told n) q.attempts; touched = and_in_order t q.touched }

abbrev pub with_waiting : ℕ → ℕ → PlainProgress → PlainProgress
with_waiting t place q = record q { out = None; attempts = with_entry t (to_waiting place) q.attempts; touched = and_in_order t q.touched }

-- lost, perhaps with a commit in doubt
abbrev pub with_loss : Bool → PlainProgress → PlainProgress
with_loss in_doubt q = record q { lost = true; doubt = in_doubt; out = None; attempts = map to_idle_entry q.attempts; touched = [] }

-- a transaction ended
abbrev pub with_ended : ℕ → PlainProgress → PlainProgress
with_ended t q = record q { out = None; attempts = with_entry t to_idle q.attempts; touched = without t q.touched }

-- and is committed
abbrev pub with_commit : ℕ → PlainProgress → PlainProgress
with_commit t q = record (with_ended t q) { position = q.position + 1 }

-- no job is out
abbrev pub to_free : PlainProgress → PlainProgress
to_free q = record q { out = None }

-- an answer more is given
abbrev pub to_given : Given → PlainTxn → PlainTxn
to_given g t = record t { given = t.given ++ g ∷ [] }

-- the transaction of an entry
abbrev pub key : ℕ × PlainAttempt → ℕ
key e = e.0

-- a transaction has an entry
abbrev pub and_entry : ℕ → List (ℕ × PlainAttempt) → List (ℕ × PlainAttempt)
and_entry t es = if has (map key es) t then es else es ++ (t, idle_attempt) ∷ []

abbrev pub with_run_entry : ℕ → PlainProgress → PlainProgress
with_run_entry t q = record q { attempts = and_entry t q.attempts }

-- a run of its statement is out
abbrev pub with_run : ℕ → ℕ → PlainProgress → PlainProgress
with_run t i q = record (with_run_entry t q) { out = Some (job.Run t i) }

abbrev pub with_out : Job → PlainProgress → PlainProgress
with_out j q = record q { out = Some j }
