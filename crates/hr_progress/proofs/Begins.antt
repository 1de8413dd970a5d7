-- A transaction is begun.
use Rattle.std.proofs.Common.{◌≡◌, ℕ, zero, suc, ◌+◌, ◌<◌, Bool, true, false, ◌||◌, ◌==◌, nat_eq, cond, Some, unwrap_or, List, [], ◌∷◌, ◌++◌, filter, map, length, slice_get, append-nil, refl, ap, sym, ◌∙◌, subst, arith}
use Rattle.std.specs.Map.{lookup}
use Rattle.std.proofs.lemmas.Bool.{eqb-true, eq-eqb}
use Rattle.std.proofs.lemmas.List.{length-append, length-map}
use Rattle.std.proofs.lemmas.List.Elements.{filter-append}
use Rattle.std.proofs.lemmas.Option.{slice_get_past}
use Rattle.hr_base.specs.Lists.{has, one_to}
use Rattle.hr_base.proofs.ListLaws.{filter_agree_on}
use Rattle.hr_base.proofs.Tests.{or_first, or_second}
use Rattle.hr_history.specs.declared.phase.Phase.TheVariants as phase
use Rattle.hr_history.specs.Transactions.{is_open, is_logged}
use Rattle.hr_history.specs.View.{TxnState, Progress, Attempt}
use Rattle.hr_history.specs.Processed.{is_logged_by}
use Rattle.hr_moves.specs.Sane.{IsSane}
use Rattle.hr_progress.specs.Plain.{PlainTxn, PlainAttempt, PlainView, no_txn, idle_attempt, begun, plain_txn_in, plain_attempt_in, plain_replica_in}
use Rattle.hr_progress.specs.Seen.{seen_txn, seen_plain}
use Rattle.hr_progress.specs.Kept.{IsKept, ArePlaces, AreAnswers, given_places, opened_of, touched_of}
use Rattle.hr_progress.proofs.Attempts.{keys_seen}
use Rattle.hr_progress.proofs.Numbers.{has_place, take_while_agree}
use Rattle.hr_progress.proofs.Parts.{txn_seen, replica_seen}
use Rattle.hr_progress.proofs.Ranges.{in_range, range_suc}

wrong : {b : Bool} → b ≡ true → b ≡ false → ⊥
wrong x y = cc

got_old : {X : Type 0} (xs : List X) (y : X) (i : ℕ) → (i ≡ length xs → ⊥) → slice_get (xs ++ y ∷ []) i ≡ slice_get xs i
got_old [] y zero h = absurd (h refl)
got_old [] y (suc i) h = refl
got_old (x ∷ xs) y zero h = refl
got_old (x ∷ xs) y (suc i) h = got_old xs y i (λ e. h (ap (λ n. suc n) e))

got_new : {X : Type 0} (xs : List X) (y : X) → slice_get (xs ++ y ∷ []) (length xs) ≡ Some y
got_new [] y = refl
got_new (x ∷ xs) y = got_new xs y

map_push : {X Y : Type 0} (h : X → Y) (xs : List X) (y : X) → map h (xs ++ y ∷ []) ≡ map h xs ++ h y ∷ []
map_push h [] y = refl
map_push h (x ∷ xs) y = ap (λ ys. h x ∷ ys) (map_push h xs y)

module _ (txns : List PlainTxn) (session : ℕ) where
  abbrev pub one_more : List PlainTxn
  one_more = txns ++ begun session ∷ []

  pub old_txn : (u : ℕ) → (u ≡ suc (length txns) → ⊥) → plain_txn_in one_more u ≡ plain_txn_in txns u
  old_txn zero h = refl
  old_txn (suc n) h = ap (λ o. unwrap_or o no_txn) (got_old txns (begun session) n (λ e. h (ap (λ k. suc k) e)))

  new_txn : plain_txn_in one_more (suc (length txns)) ≡ begun session
  new_txn = ap (λ o. unwrap_or o no_txn) (got_new txns (begun session))

  long_more : length one_more ≡ suc (length txns)
  long_more = length-append txns (begun session ∷ []) ∙ plus_one (length txns)
    where
      plus_one : (n : ℕ) → n + 1 ≡ suc n
      plus_one n = omega arith

  pub opened_more : opened_of txns ++ (length txns + 1) ∷ [] ≡ opened_of one_more
  opened_more =
      let n = length txns in
      let test = λ (u : ℕ). is_open (plain_txn_in one_more u).phase in
      let number : n + 1 ≡ suc n = omega arith in
      let first : 1 + n ≡ suc n = omega arith in
      (λ i. filter_agree_on (λ u. is_open (plain_txn_in txns u).phase) test (one_to n) (λ u h. ap (λ (x : PlainTxn). is_open x.phase) (sym (old_txn u (λ e. too_far u e (in_range 1 n u h).1)))) i ++ number i ∷ [])
      ∙ ap (λ ys. filter test (one_to n) ++ ys) (sym (ap (λ b. cond b (suc n ∷ []) []) (ap (λ (x : PlainTxn). is_open x.phase) new_txn)))
      ∙ sym (filter-append test (one_to n) (suc n ∷ []))
      ∙ ap (λ k. filter test (one_to n ++ k ∷ [])) (sym first)
      ∙ ap (filter test) (sym (range_suc 1 n))
      ∙ ap (λ k. filter test (one_to k)) (sym long_more)
    where
      too_far : (u : ℕ) → u ≡ suc (length txns) → u < 1 + length txns → ⊥
      too_far u e h = omega (arith, e, h)

has_by : (b : Bool) (t : ℕ) (e : ℕ × PlainAttempt) (es : List (ℕ × PlainAttempt)) → nat_eq t e.0 ≡ b → ((unwrap_or (lookup (nat_eq t) es) idle_attempt).touched ≡ true → has (map (λ (x : ℕ × PlainAttempt). x.0) es) t ≡ true)
    → (unwrap_or (cond b (Some e.1) (lookup (nat_eq t) es)) idle_attempt).touched ≡ true → ((e.0 == t) || has (map (λ (x : ℕ × PlainAttempt). x.0) es) t) ≡ true
has_by true t e es same more h = or_first (e.0 == t) _ (eq-eqb e.0 t (sym (eqb-true t e.0 same)))
has_by false t e es same more h = or_second (e.0 == t) _ (more h)

touched_has : (t : ℕ) (es : List (ℕ × PlainAttempt)) → (plain_attempt_in es t).touched ≡ true → has (map (λ (x : ℕ × PlainAttempt). x.0) es) t ≡ true
touched_has t [] h = absurd (wrong h refl)
touched_has t (e ∷ es) h = has_by (nat_eq t e.0) t e es refl (λ d. touched_has t es d) h

unknown_by : (p : PlainView) (r : ℕ) → IsSane (seen_plain p) → (es : List (ℕ × PlainAttempt)) (t : ℕ) → (plain_replica_in p.replicas r).attempts ≡ es → length p.txns < t → (b : Bool) → (plain_attempt_in es t).touched ≡ b → (plain_attempt_in es t).touched ≡ false
unknown_by p r sane es t is past true e =
    let entry = ap (λ ks. has ks t) (ap (λ (x : Progress). map (λ (k : ℕ × Attempt). k.0) x.attempts) (replica_seen p r) ∙ keys_seen p.replies p.fresh r (plain_replica_in p.replicas r).attempts (plain_replica_in p.replicas r).attempts ∙ ap (map (λ (k : ℕ × PlainAttempt). k.0)) is) ∙ touched_has t es e in
    absurd (omega (arith, past, (sane.known r t entry).1, length-map p.txns (seen_txn p.replies)))
unknown_by p r sane es t is past false e = e

-- no replica has an entry of it
unknown : (p : PlainView) (r : ℕ) → IsSane (seen_plain p) → (plain_attempt_in (plain_replica_in p.replicas r).attempts (suc (length p.txns))).touched ≡ false
unknown p r sane = unknown_by p r sane (plain_replica_in p.replicas r).attempts (suc (length p.txns)) refl (omega arith) (plain_attempt_in (plain_replica_in p.replicas r).attempts (suc (length p.txns))).touched refl

-- the log has it not
not_logged : (p : PlainView) → IsSane (seen_plain p) → (u : ℕ) → has p.log u ≡ true → u ≡ suc (length p.txns) → ⊥
not_logged p sane u h e =
    let at = has_place p.log u h in
    let none = ap (λ o. (unwrap_or o no_txn).phase) (slice_get_past p.txns (length p.txns) (omega arith)) in
    wrong refl (sym (ap is_logged (sym (ap (λ k. (plain_txn_in p.txns k).phase) e ∙ none) ∙ sym (ap (λ (x : TxnState). x.phase) (txn_seen p u)) ∙ (sane.logged u at.0).1 at.1)))

touched_more : (n : ℕ) (es : List (ℕ × PlainAttempt)) → (plain_attempt_in es (suc n)).touched ≡ false → touched_of n es ≡ touched_of (suc n) es
touched_more n es none =
    let test = λ (u : ℕ). (plain_attempt_in es u).touched in
    let first : 1 + n ≡ suc n = omega arith in
    sym (append-nil (filter test (one_to n)))
    ∙ ap (λ ys. filter test (one_to n) ++ ys) (sym (ap (λ b. cond b (suc n ∷ []) []) none))
    ∙ sym (filter-append test (one_to n) (suc n ∷ []))
    ∙ ap (λ k. filter test (one_to n ++ k ∷ [])) (sym first)
    ∙ ap (filter test) (sym (range_suc 1 n))

module _ (p : PlainView) (session : ℕ) where
  abbrev pub with_begun : PlainView
  with_begun = record p { txns = one_more p.txns session; opened = p.opened ++ (length p.txns + 1) ∷ [] }

  pub seen_begun : seen_plain with_begun ≡ record (seen_plain p) { txns = (seen_plain p).txns ++ record { session = session; statements = 0; given = []; phase = phase.Active } ∷ [] }
  seen_begun = ap (λ ts. record (seen_plain p) { txns = ts }) (map_push (seen_txn p.replies) p.txns (begun session))

  pub kept_begun : IsSane (seen_plain p) → IsKept p → IsKept with_begun
  kept_begun sane kept = record {
    opened = ap (λ ts. ts ++ (length p.txns + 1) ∷ []) kept.opened ∙ opened_more p.txns session;
    counted = λ r h.
        let q = plain_replica_in p.replicas r in
        record {
          touched = (kept.counted r h).touched ∙ touched_more (length p.txns) q.attempts (unknown p r sane) ∙ ap (λ n. touched_of n q.attempts) (sym (long_more p.txns session));
          processed = (kept.counted r h).processed ∙ ap length (take_while_agree _ _ p.log (λ u m. ap (λ (x : PlainTxn). is_logged_by q.position x.phase || (length (plain_attempt_in q.attempts u).answers == x.statements)) (sym (old_txn p.txns session u (not_logged p sane u m)))));
        };
  }

  pub places_begun : ArePlaces p → ArePlaces with_begun
  places_begun places = record { told = places.told; given = λ u. given_by (nat_eq u (suc (length p.txns))) u refl }
    where
      given_by : (b : Bool) (u : ℕ) → nat_eq u (suc (length p.txns)) ≡ b → AreAnswers p.replies (given_places p.replies (plain_txn_in (one_more p.txns session) u).given)
      given_by true u e = subst (λ (x : PlainTxn). AreAnswers p.replies (given_places p.replies x.given)) (sym (ap (plain_txn_in (one_more p.txns session)) (eqb-true u (suc (length p.txns)) e) ∙ new_txn p.txns session)) tt
      given_by false u e = subst (λ (x : PlainTxn). AreAnswers p.replies (given_places p.replies x.given)) (sym (old_txn p.txns session u (λ same. wrong (eq-eqb u (suc (length p.txns)) same) e))) (places.given u)
