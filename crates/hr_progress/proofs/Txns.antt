-- A transaction is changed.
use Rattle.std.proofs.Common.{◌≡◌, ℕ, zero, suc, Bool, true, false, not, ◌&&◌, ◌||◌, ◌==◌, Option, Some, None, unwrap_or, List, filter, length, slice_get, refl, ap, sym, ◌∙◌, subst, arith}
use Rattle.std.proofs.lemmas.Bool.{eq-eqb, eqb-true}
use Rattle.std.proofs.lemmas.Option.{slice_get_within}
use Rattle.hr_base.specs.Lists.{numbered, has, one_to}
use Rattle.hr_history.specs.Transactions.{is_open}
use Rattle.hr_history.specs.View.{View, TxnState}
use Rattle.hr_history.specs.Processed.{phase_in, is_logged_by, unknown_txn}
use Rattle.hr_moves.specs.Changes.{map_from, change_at, with_txn}
use Rattle.hr_moves.specs.Sane.{IsSane, IsKnown}
use Rattle.hr_moves.specs.Fits.{IsOpen}
use Rattle.hr_progress.specs.Plain.{PlainTxn, PlainProgress, PlainView, no_txn, plain_txn_in, plain_attempt_in, plain_replica_in}
use Rattle.hr_progress.specs.Seen.{seen_txn, seen_plain}
use Rattle.hr_progress.specs.Kept.{IsKept, IsCounted, ArePlaces, AreAnswers, given_places, opened_of, touched_of}
use Rattle.hr_progress.proofs.Changed.{numbered_from, length_from, got_else, got_here, got_kept, map_changed}
use Rattle.hr_progress.proofs.Numbers.{has_place, take_while_agree, filter_both, filter_same_test}
use Rattle.hr_progress.proofs.Parts.{txn_seen}

clash : {b : Bool} → b ≡ true → b ≡ false → ⊥
clash e d = cc

-- what is decided isn't open
abbrev pub AreClosed : List PlainTxn → List ℕ → Type 0
AreClosed txns log = (u : ℕ) → has log u ≡ true → is_open (plain_txn_in txns u).phase ≡ false

phase_same : (p : PlainView) (u : ℕ) → is_open (phase_in (seen_plain p) u) ≡ is_open (plain_txn_in p.txns u).phase
phase_same p u = ap (λ (x : TxnState). is_open x.phase) (txn_seen p u)

pub closed : (p : PlainView) → IsSane (seen_plain p) → AreClosed p.txns p.log
closed p sane u h =
    let at = has_place p.log u h in
    sym (phase_same p u) ∙ ap is_open ((sane.logged u at.0).1 at.1)

pub opened_plain : (p : PlainView) (t : ℕ) → IsOpen (seen_plain p) t → is_open (plain_txn_in p.txns t).phase ≡ true
opened_plain p t h = sym (phase_same p t) ∙ h

pub some_open : (o : Option PlainTxn) → is_open (unwrap_or o no_txn).phase ≡ true → (x : PlainTxn) × (o ≡ Some x)
some_open None e = absurd (clash e refl)
some_open (Some x) e = (x, refl)

-- An open transaction t is changed by g.
module _ (txns : List PlainTxn) (t : ℕ) (g : PlainTxn → PlainTxn) where
  abbrev pub with_one : List PlainTxn
  with_one = map_from (change_at t g) 1 txns

  pub one_else : (u : ℕ) → (u ≡ t → ⊥) → plain_txn_in with_one u ≡ plain_txn_in txns u
  one_else u differ = ap (λ o. unwrap_or o no_txn) (numbered_from (change_at t g) u txns) ∙ got_else g t u (numbered txns u) no_txn differ

  pub one_here : is_open (plain_txn_in txns t).phase ≡ true → plain_txn_in with_one t ≡ g (plain_txn_in txns t)
  one_here opened =
      let is = some_open (numbered txns t) opened in
      ap (λ o. unwrap_or o no_txn) (numbered_from (change_at t g) t txns) ∙ got_here g t (numbered txns t) no_txn is.0 is.1

  pub one_long : length with_one ≡ length txns
  one_long = length_from (change_at t g) 1 txns

  pub given_kept : ((x : PlainTxn) → (g x).given ≡ x.given) → (u : ℕ) → (plain_txn_in with_one u).given ≡ (plain_txn_in txns u).given
  given_kept keeps u = ap (λ o. (unwrap_or o no_txn).given) (numbered_from (change_at t g) u txns) ∙ got_kept (λ (x : PlainTxn). x.given) g t u (numbered txns u) no_txn keeps

  module _ (opened : is_open (plain_txn_in txns t).phase ≡ true) where
    pub counted_one : (log : List ℕ) (q : PlainProgress) → AreClosed txns log → IsCounted txns log q → IsCounted with_one log q
    counted_one log q shut counted = record {
      touched = counted.touched ∙ ap (λ n. touched_of n q.attempts) (sym one_long);
      processed = counted.processed ∙ ap length (take_while_agree _ _ log (λ u h.
          ap (λ (x : PlainTxn). is_logged_by q.position x.phase || (length (plain_attempt_in q.attempts u).answers == x.statements))
          (sym (one_else u (λ same. clash (ap (λ w. is_open (plain_txn_in txns w).phase) same ∙ opened) (shut u h))))));
    }

    -- it ends
    module _ (ends : is_open (g (plain_txn_in txns t)).phase ≡ false) where
      end_by : (b : Bool) (u : ℕ) → (u == t) ≡ b → (not b && is_open (plain_txn_in txns u).phase) ≡ is_open (plain_txn_in with_one u).phase
      end_by true u e = sym (ap (λ w. is_open (plain_txn_in with_one w).phase) (eqb-true u t e) ∙ ap (λ (x : PlainTxn). is_open x.phase) (one_here opened) ∙ ends)
      end_by false u e = ap (λ (x : PlainTxn). is_open x.phase) (sym (one_else u (λ same. clash (eq-eqb u t same) e)))

      pub opened_fewer : filter (λ u. not (u == t)) (opened_of txns) ≡ opened_of with_one
      opened_fewer =
          filter_both (λ u. not (u == t)) (λ u. is_open (plain_txn_in txns u).phase) (one_to (length txns))
          ∙ filter_same_test _ _ (one_to (length txns)) (λ u. end_by (u == t) u refl)
          ∙ ap (λ n. filter (λ u. is_open (plain_txn_in with_one u).phase) (one_to n)) (sym one_long)

    -- it stays open
    module _ (stays : is_open (g (plain_txn_in txns t)).phase ≡ true) where
      stay_by : (b : Bool) (u : ℕ) → (u == t) ≡ b → is_open (plain_txn_in txns u).phase ≡ is_open (plain_txn_in with_one u).phase
      stay_by true u e =
          let same = eqb-true u t e in
          ap (λ w. is_open (plain_txn_in txns w).phase) same ∙ opened
          ∙ sym (ap (λ w. is_open (plain_txn_in with_one w).phase) same ∙ ap (λ (x : PlainTxn). is_open x.phase) (one_here opened) ∙ stays)
      stay_by false u e = ap (λ (x : PlainTxn). is_open x.phase) (sym (one_else u (λ same. clash (eq-eqb u t same) e)))

      pub opened_same : opened_of txns ≡ opened_of with_one
      opened_same =
          filter_same_test _ _ (one_to (length txns)) (λ u. stay_by (u == t) u refl)
          ∙ ap (λ n. filter (λ u. is_open (plain_txn_in with_one u).phase) (one_to n)) (sym one_long)

-- ---- in a view

module _ (p : PlainView) (t : ℕ) (g : PlainTxn → PlainTxn) where
  -- it ends, and is no longer among the open ones
  abbrev pub with_end : PlainView
  with_end = record p { txns = map_from (change_at t g) 1 p.txns; opened = filter (λ u. not (u == t)) p.opened }

  -- it stays open
  abbrev pub with_open : PlainView
  with_open = record p { txns = map_from (change_at t g) 1 p.txns }

  one_given : ((x : PlainTxn) → (g x).given ≡ x.given) → ArePlaces p → (u : ℕ) → AreAnswers p.replies (given_places p.replies (plain_txn_in (with_one p.txns t g) u).given)
  one_given keeps places u = subst (λ gs. AreAnswers p.replies (given_places p.replies gs)) (sym (given_kept p.txns t g keeps u)) (places.given u)

  pub places_end : ((x : PlainTxn) → (g x).given ≡ x.given) → ArePlaces p → ArePlaces with_end
  places_end keeps places = record { told = places.told; given = one_given keeps places }

  pub places_open : ((x : PlainTxn) → (g x).given ≡ x.given) → ArePlaces p → ArePlaces with_open
  places_open keeps places = record { told = places.told; given = one_given keeps places }

  module _ (k : TxnState → TxnState) (same : (x : PlainTxn) → seen_txn p.replies (g x) ≡ k (seen_txn p.replies x)) where
    pub seen_end : seen_plain with_end ≡ with_txn t k (seen_plain p)
    seen_end = ap (λ ts. record (seen_plain p) { txns = ts }) (map_changed (seen_txn p.replies) g k t 1 p.txns same)

    pub seen_open : seen_plain with_open ≡ with_txn t k (seen_plain p)
    seen_open = ap (λ ts. record (seen_plain p) { txns = ts }) (map_changed (seen_txn p.replies) g k t 1 p.txns same)

  module _ (opened : is_open (plain_txn_in p.txns t).phase ≡ true) (shut : AreClosed p.txns p.log) (kept : IsKept p) where
    pub kept_end : is_open (g (plain_txn_in p.txns t)).phase ≡ false → IsKept with_end
    kept_end ends = record {
      opened = ap (filter (λ u. not (u == t))) kept.opened ∙ opened_fewer p.txns t g opened ends;
      counted = λ r h. counted_one p.txns t g opened p.log (plain_replica_in p.replicas r) shut (kept.counted r h);
    }

    pub kept_open : is_open (g (plain_txn_in p.txns t)).phase ≡ true → IsKept with_open
    kept_open stays = record {
      opened = kept.opened ∙ opened_same p.txns t g opened stays;
      counted = λ r h. counted_one p.txns t g opened p.log (plain_replica_in p.replicas r) shut (kept.counted r h);
    }

-- an open transaction has been begun
pub open_known : (v : View) (t : ℕ) → IsOpen v t → IsKnown v t
open_known v zero h = absurd (clash h refl)
open_known v (suc n) h = by (slice_get v.txns n) refl h
  where
    by : (o : Option TxnState) → slice_get v.txns n ≡ o → is_open (unwrap_or o unknown_txn).phase ≡ true → IsKnown v (suc n)
    by None e k = absurd (clash k refl)
    by (Some x) e k = (omega arith, omega (arith, slice_get_within v.txns n x e))
