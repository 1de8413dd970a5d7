-- What a view tells of a transaction and a replica is what its history tells.
use Rattle.std.proofs.Common.{◌≡◌, ℕ, ◌+◌, ◌*◌, ◌<◌, true, Option, Some, None, unwrap_or, length, refl, ap, sym, ◌∙◌, arith}
use Rattle.std.proofs.lemmas.List.FromFn.{length-map-range_with_len}
use Rattle.std.proofs.lemmas.Bool.{leb-true}
use Rattle.hr_base.specs.Lists.{numbered}
use Rattle.hr_engine.specs.Attempts.{attempt, answers}
use Rattle.hr_engine.specs.Base.{count, settled}
use Rattle.hr_history.specs.declared.phase.Phase.{Phase}
use Rattle.hr_history.specs.declared.phase.Phase.TheVariants as phase
use Rattle.hr_history.specs.History.{History}
use Rattle.hr_history.specs.Transactions.{begun, submits, phase_of, is_open}
use Rattle.hr_history.specs.Replicas.{journal_of}
use Rattle.hr_history.specs.Given.{given_to}
use Rattle.hr_history.specs.Attempts.{is_preempted}
use Rattle.hr_history.specs.View.{View, TxnState, Progress, Attempt, txn_state, view_of}
use Rattle.hr_history.specs.Processed.{txn_in, phase_in, replica_in, attempt_in, answers_in, is_logged_by, unknown_txn}
use Rattle.hr_history.proofs.StepLemmas.{replica_lookup, txn_lookup}
use Rattle.hr_history.proofs.AttemptSteps.{attempt_lookup}
use Rattle.hr_records.specs.Numbers.{IsBorn}
use Rattle.hr_records.specs.ByRule.{IsTxn}
use Rattle.hr_records.proofs.Places.{numbered_born}

pub how_many : (f : ℕ) (h : History) → length (view_of f h).txns ≡ length (begun h)
how_many f h = length-map-range_with_len (txn_state h) 1 (length (begun h))

pub txn_born : (f t : ℕ) (h : History) → IsTxn (view_of f h) t → IsBorn (length (begun h)) t
txn_born f t h is = (is.0, omega (arith, is.1, how_many f h))

-- what the view tells of a transaction that is there
pub txn_seen : (f t : ℕ) (h : History) → IsBorn (length (begun h)) t → txn_in (view_of f h) t ≡ txn_state h t
txn_seen f t h born = txn_lookup f t h born.0 born.1

pub phase_seen : (f t : ℕ) (h : History) → IsBorn (length (begun h)) t → phase_in (view_of f h) t ≡ phase_of t h
phase_seen f t h born = ap (λ (x : TxnState). x.phase) (txn_seen f t h born)

pub given_seen : (f t : ℕ) (h : History) → IsBorn (length (begun h)) t → (txn_in (view_of f h) t).given ≡ given_to t h
given_seen f t h born = ap (λ (x : TxnState). x.given) (txn_seen f t h born)

pub statements_seen : (f t : ℕ) (h : History) → IsBorn (length (begun h)) t → (txn_in (view_of f h) t).statements ≡ length (submits t h)
statements_seen f t h born = ap (λ (x : TxnState). x.statements) (txn_seen f t h born)

-- a place past what is committed isn't committed
pub later_place : (p : Phase) (place position : ℕ) → p ≡ phase.Logged place → position < place → is_logged_by position p ≡ true → ⊥
later_place p place position e lt committed =
    absurd (omega (arith, lt, leb-true place position (sym (ap (is_logged_by position) e) ∙ committed)))

-- an unknown one counts as refused, so one that is open is there
open_known : (v : View) (t : ℕ) (o : Option TxnState) → numbered v.txns t ≡ o → is_open (unwrap_or o unknown_txn).phase ≡ true → IsTxn v t
open_known v t None e h = cc
open_known v t (Some x) e h = numbered_born v.txns t x e

pub open_txn : (v : View) (t : ℕ) → is_open (phase_in v t) ≡ true → IsTxn v t
open_txn v t h = open_known v t (numbered v.txns t) refl h

pub open_seen : (f t : ℕ) (h : History) → is_open (phase_in (view_of f h) t) ≡ true → IsBorn (length (begun h)) t × (is_open (phase_of t h) ≡ true)
open_seen f t h o =
    let born = txn_born f t h (open_txn (view_of f h) t o) in
    (born, ap is_open (sym (phase_seen f t h born)) ∙ o)

module _ (f r : ℕ) (h : History) (lt : r < 2 * f + 1) where
  pub lost_seen : (replica_in (view_of f h) r).lost ≡ (settled (journal_of r h)).lost
  lost_seen = ap (λ (p : Progress). p.lost) (replica_lookup f r h lt)

  pub position_seen : (replica_in (view_of f h) r).position ≡ count (journal_of r h)
  position_seen = ap (λ (p : Progress). p.position) (replica_lookup f r h lt)

  pub answers_seen : (t : ℕ) → answers_in (view_of f h) r t ≡ answers (attempt t (journal_of r h))
  answers_seen t = ap (λ (a : Attempt). a.answers) (attempt_lookup f r t h lt)

  pub preempted_seen : (t : ℕ) → (attempt_in (view_of f h) r t).preempted ≡ is_preempted r t h
  preempted_seen t = ap (λ (a : Attempt). a.preempted) (attempt_lookup f r t h lt)
