-- A transaction is decided.
use Rattle.std.proofs.Common.{◌≡◌, ℕ, zero, suc, ◌+◌, ◌<◌, true, not, ◌==◌, Option, Some, None, unwrap_or, List, [], ◌∷◌, ◌++◌, filter, map, length, slice_get, refl, ap, sym, ◌∙◌, subst, arith}
use Rattle.std.specs.Option.{option_map}
use Rattle.std.proofs.lemmas.Option.{slice_get_within}
use Rattle.hr_base.specs.Lists.{numbered, has, one_to}
use Rattle.hr_base.proofs.Tests.{kept}
use Rattle.hr_history.specs.declared.phase.Phase.TheVariants as phase
use Rattle.hr_history.specs.Transactions.{is_open}
use Rattle.hr_history.specs.View.{TxnState}
use Rattle.hr_moves.specs.Moves.{after_decide}
use Rattle.hr_progress.specs.Plain.{PlainTxn, PlainProgress, PlainView, idle_progress, plain_txn_in, plain_replica_in, to_phase}
use Rattle.hr_progress.specs.Seen.{seen_txn, seen_plain}
use Rattle.hr_progress.specs.Kept.{IsKept, IsCounted, ArePlaces, AreTold, AreAnswers, given_places, IsLeast, NoneLess, is_processed_at, recounted, opened_of}
use Rattle.hr_progress.proofs.Changed.{map_changed}
use Rattle.hr_progress.proofs.Parts.{got_map}
use Rattle.hr_progress.proofs.Ranges.{range_has}
use Rattle.hr_progress.proofs.Recounts.{recounted_seen, none_less, take_while_longer}
use Rattle.hr_progress.proofs.Txns.{AreClosed, with_one, counted_one, opened_fewer, given_kept, some_open}

-- an open transaction is among the open ones
pub is_opened : (txns : List PlainTxn) (t : ℕ) → is_open (plain_txn_in txns t).phase ≡ true → has (opened_of txns) t ≡ true
is_opened txns t opened = by t opened (some_open (numbered txns t) opened)
  where
    by : (u : ℕ) → is_open (plain_txn_in txns u).phase ≡ true → (x : PlainTxn) × (numbered txns u ≡ Some x) → has (opened_of txns) u ≡ true
    by zero o is = absurd (wrong is.1)
      where
        wrong : {x : PlainTxn} → None ≡ Some x → ⊥
        wrong d = cc
    by (suc n) o is = kept (λ u. is_open (plain_txn_in txns u).phase) (suc n) (one_to (length txns)) o (range_has 1 (length txns) (suc n) (omega arith) (omega (arith, slice_get_within txns n is.0 is.1)))

pub mapped_at : {X : Type 0} (h : X → X) (xs : List X) (i : ℕ) (d : X) → i < length xs → unwrap_or (slice_get (map h xs) i) d ≡ h (unwrap_or (slice_get xs i) d)
mapped_at h [] i d l = absurd (omega (arith, l))
mapped_at h (x ∷ xs) zero d l = refl
mapped_at h (x ∷ xs) (suc i) d l = mapped_at h xs i d (omega (arith, l))

pub long_map : {X : Type 0} (h : X → X) (xs : List X) → length (map h xs) ≡ length xs
long_map h [] = refl
long_map h (x ∷ xs) = ap (λ n. suc n) (long_map h xs)

module _ (txns : List PlainTxn) (log : List ℕ) (qs : List PlainProgress) where
  -- what a count anew leaves of each
  pub entries_stay : (r : ℕ) → (plain_replica_in (map (recounted txns log) qs) r).attempts ≡ (plain_replica_in qs r).attempts
  entries_stay r = ap (λ o. (unwrap_or o idle_progress).attempts) (got_map (recounted txns log) qs r) ∙ by (slice_get qs r)
    where
      by : (o : Option PlainProgress) → (unwrap_or (option_map (recounted txns log) o) idle_progress).attempts ≡ (unwrap_or o idle_progress).attempts
      by None = refl
      by (Some q) = refl

module _ (p : PlainView) (t : ℕ) where
  abbrev pub to_logged : PlainTxn → PlainTxn
  to_logged = to_phase (phase.Logged (length p.log + 1))

  abbrev pub txns_then : List PlainTxn
  txns_then = with_one p.txns t to_logged

  abbrev pub log_then : List ℕ
  log_then = p.log ++ t ∷ []

  abbrev pub decided : PlainView
  decided = record p { log = log_then; txns = txns_then; replicas = map (recounted txns_then log_then) p.replicas; opened = filter (λ u. not (u == t)) p.opened }

  pub seen_decided : seen_plain decided ≡ after_decide (seen_plain p) t
  seen_decided = λ i. record (seen_plain p) {
    log = log_then;
    txns = map_changed (seen_txn p.replies) to_logged (λ (x : TxnState). record x { phase = phase.Logged (length p.log + 1) }) t 1 p.txns (λ x. refl) i;
    replicas = recounted_seen p.replies p.fresh txns_then log_then 0 p.replicas i;
  }

  module _ (opened : is_open (plain_txn_in p.txns t).phase ≡ true) (shut : AreClosed p.txns p.log) (old : IsKept p) where
    least_then : (q : PlainProgress) → IsCounted p.txns p.log q → IsLeast txns_then log_then q
    least_then q counted =
        let then = counted_one p.txns t to_logged opened p.log q shut counted in
        omega (arith, then.processed, take_while_longer (is_processed_at txns_then q.position q.attempts) (is_processed_at txns_then q.position q.attempts) p.log (t ∷ []) (λ x h. h))

    pub less_then : NoneLess txns_then log_then p.replicas
    less_then = none_less txns_then log_then p.replicas (λ i q at. least_then q (subst (IsCounted p.txns p.log) (ap (λ o. unwrap_or o idle_progress) at) (old.counted i (slice_get_within p.replicas i q at))))

    pub kept_decided : IsKept decided
    kept_decided = record {
      opened = ap (filter (λ u. not (u == t))) old.opened ∙ opened_fewer p.txns t to_logged opened refl;
      counted = λ r h.
          let within : r < length p.replicas = omega (arith, h, long_map (recounted txns_then log_then) p.replicas) in
          let then = counted_one p.txns t to_logged opened p.log (plain_replica_in p.replicas r) shut (old.counted r within) in
          subst (IsCounted txns_then log_then) (sym (mapped_at (recounted txns_then log_then) p.replicas r idle_progress within)) record { touched = then.touched; processed = refl };
    }

  pub places_decided : ArePlaces p → ArePlaces decided
  places_decided places = record {
    told = λ r. subst (AreTold p.replies) (sym (entries_stay txns_then log_then p.replicas r)) (places.told r);
    given = λ u. subst (λ gs. AreAnswers p.replies (given_places p.replies gs)) (sym (given_kept p.txns t to_logged (λ x. refl) u)) (places.given u);
  }
