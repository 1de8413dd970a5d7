-- What each event makes of one replica in a sane view.
use Rattle.std.proofs.Common.{◌≡◌, ℕ, ◌+◌, Bool, true, false, ◌==◌, if◌then◌else◌, Some, None, unwrap_or, List, [], ◌∷◌, length, map, slice_get, refl, ap, sym, ◌∙◌, arith}
use Rattle.std.specs.List.{range_with_len}
use Rattle.std.proofs.lemmas.Bool.{eqb-true}
use Rattle.hr_history.specs.declared.entry.Event.{Event}
use Rattle.hr_history.specs.ReplicaNumbers.{replica_numbers}
use Rattle.hr_history.specs.Attempts.{next_dispatched}
use Rattle.hr_history.specs.View.{View, Attempt, Progress, is_fresh}
use Rattle.hr_history.specs.Processed.{replica_in, attempt_in, idle_replica, no_attempt}
use Rattle.hr_history.specs.Step.{commits_after, commits_in, call_in, fresh_after, attempt_after, replica_after}
use Rattle.hr_moves.specs.Changes.{map_from, change_at, with_attempts}
use Rattle.hr_moves.specs.Kept.{entries_in}
use Rattle.hr_moves.specs.Sane.{IsSane, HasEntry}
use Rattle.hr_moves.specs.Moves.{rest_attempt}
use Rattle.hr_sane.proofs.Elsewhere.{IsElsewhere, no_call, out_stays, convicted_stays, entries_stay, preempted_stays}
use Rattle.hr_sane.proofs.Maps.{map_is, map_whole, by_entries, lookup_has}
use Rattle.hr_sane.proofs.AttemptMoves.{attempt_with, none_rested, none_same}

-- ---- all replicas

module _ (v : View) (sane : IsSane v) (g : ℕ → Progress) where
  found : (i j : ℕ) (p : Progress) → 0 + i ≡ j → slice_get v.replicas i ≡ Some p → replica_in v j ≡ p
  found i j p at got = let same : j ≡ i = omega (arith, at) in ap (λ n. unwrap_or (slice_get v.replicas n) idle_replica) same ∙ ap (λ o. unwrap_or o idle_replica) got

  numbers : map g (replica_numbers v.f) ≡ map g (range_with_len 0 (length v.replicas))
  numbers = ap (λ n. map g (range_with_len 0 n)) (sym sane.replicas)

  pub each_replica : (k : ℕ → Progress → Progress) → ((q : ℕ) → g q ≡ k q (replica_in v q)) → map g (replica_numbers v.f) ≡ map_from k 0 v.replicas
  each_replica k each = numbers ∙ map_is g k 0 v.replicas (λ i j p at got. each j ∙ ap (k j) (found i j p at got))

  pub whole_replicas : ((q : ℕ) → g q ≡ replica_in v q) → map g (replica_numbers v.f) ≡ v.replicas
  whole_replicas each = numbers ∙ map_whole g 0 v.replicas (λ i j p at got. each j ∙ found i j p at got)

  -- where one is changed
  pub one_replica : (r : ℕ) (change : Progress → Progress) (base : ℕ → Progress → Progress) → g r ≡ change (base r (replica_in v r)) → ((q : ℕ) → (q == r) ≡ false → g q ≡ base q (replica_in v q))
      → map g (replica_numbers v.f) ≡ map_from (λ q p. change_at r change q (base q p)) 0 v.replicas
  one_replica r change base here else_ = each_replica (λ q p. change_at r change q (base q p)) (λ q. by_test q (q == r) refl)
    where
      by_test : (q : ℕ) (b : Bool) → (q == r) ≡ b → g q ≡ (if b then change (base q (replica_in v q)) else base q (replica_in v q))
      by_test q true e = let same = eqb-true q r e in ap g same ∙ here ∙ ap (λ x. change (base x (replica_in v x))) (sym same)
      by_test q false e = else_ q e

-- ---- the attempts of one

module _ (v : View) (sane : IsSane v) (r : ℕ) where
  pub each_attempt : (g : ℕ → Attempt) (k : ℕ → Attempt → Attempt) → ((t : ℕ) → HasEntry v r t → g t ≡ k t (attempt_in v r t))
      → map {B = ℕ × Attempt} (λ t. (t, g t)) (entries_in v r) ≡ map {B = ℕ × Attempt} (λ (entry : ℕ × Attempt). (entry.0, k entry.0 entry.1)) (replica_in v r).attempts
  each_attempt g k each = by_entries g k (replica_in v r).attempts (sane.apart r) (λ t a got. each t (lookup_has t (replica_in v r).attempts a got) ∙ ap (λ o. k t (unwrap_or o no_attempt)) got)

  pub whole_attempts : (g : ℕ → Attempt) → ((t : ℕ) → g t ≡ attempt_in v r t) → map {B = ℕ × Attempt} (λ t. (t, g t)) (entries_in v r) ≡ (replica_in v r).attempts
  whole_attempts g each = each_attempt g (λ t a. a) (λ t there. each t) ∙ same (replica_in v r).attempts
    where
      same : (es : List (ℕ × Attempt)) → map {B = ℕ × Attempt} (λ (entry : ℕ × Attempt). (entry.0, entry.1)) es ≡ es
      same [] = refl
      same (e ∷ es) = ap (λ xs. e ∷ xs) (same es)

-- ---- a replica of which the event doesn't speak

module _ (v : View) (place : ℕ) (e : Event) (sane : IsSane v) (r : ℕ) (away : IsElsewhere r e) where
  abbrev p : Progress
  p = replica_in v r

  none : call_in v r e ≡ None
  none = no_call r v e away

  attempts_by : (k : ℕ → Attempt → Attempt) → ((t : ℕ) → attempt_with v place e r t None ≡ k t (attempt_in v r t))
      → map {B = ℕ × Attempt} (λ t. (t, attempt_after v place e r t)) (next_dispatched r e (entries_in v r)) ≡ map {B = ℕ × Attempt} (λ (entry : ℕ × Attempt). (entry.0, k entry.0 entry.1)) p.attempts
  attempts_by k each =
      ap (λ ts. map {B = ℕ × Attempt} (λ t. (t, attempt_after v place e r t)) ts) (entries_stay r e (entries_in v r) away)
      ∙ each_attempt v sane r (attempt_after v place e r) k (λ t there. ap (attempt_with v place e r t) none ∙ each t)

  progress_by : (es : List (ℕ × Attempt)) → map {B = ℕ × Attempt} (λ t. (t, attempt_after v place e r t)) (next_dispatched r e (entries_in v r)) ≡ es → replica_after v place e r ≡ record p { attempts = es }
  progress_by es is = λ i. record {
    lost = (commits_after (none i) (commits_in v r)).lost;
    convicted = convicted_stays r e p.convicted away i;
    position = (commits_after (none i) (commits_in v r)).position;
    doubt = (commits_after (none i) (commits_in v r)).doubt;
    out = out_stays r e p.out away i;
    attempts = is i;
  }

  -- at a call it rests
  pub rests : ((t : ℕ) → is_fresh (fresh_after v e) r t ≡ false) → replica_after v place e r ≡ with_attempts (rest_attempt v r) p
  rests stale =
      progress_by _ (attempts_by (rest_attempt v r) (λ t. none_rested v sane r t place e (stale t) (preempted_stays r t e (attempt_in v r t).touched (attempt_in v r t).preempted away)))

  -- else it stays
  pub replica_stays : fresh_after v e ≡ v.fresh → replica_after v place e r ≡ p
  replica_stays fresh =
      progress_by p.attempts (ap (λ ts. map {B = ℕ × Attempt} (λ t. (t, attempt_after v place e r t)) ts) (entries_stay r e (entries_in v r) away)
      ∙ whole_attempts v sane r (attempt_after v place e r) (λ t. ap (attempt_with v place e r t) none ∙ none_same v sane r t place e fresh (preempted_stays r t e (attempt_in v r t).touched (attempt_in v r t).preempted away)))
