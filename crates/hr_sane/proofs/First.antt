-- Before anything happened the view is sane.
use Rattle.std.proofs.Common.{◌≡◌, inl, inr, ℕ, zero, suc, ◌+◌, ◌*◌, ◌≤◌, not, ◌&&◌, nat_eq, Some, unwrap_or, [], length, map, refl, ap, sym, ◌∙◌, subst, arith, IsTrue}
use Rattle.std.specs.Map.{lookup}
use Rattle.std.proofs.lemmas.List.FromFn.{length-map-range_with_len}
use Rattle.hr_base.specs.Lists.{numbered, has, is_distinct}
use Rattle.hr_history.specs.View.{View, TxnState, Attempt, Progress, view_of, progress_in}
use Rattle.hr_history.specs.Processed.{txn_in, replica_in, attempt_in, runs_in, live_in, unknown_txn, idle_replica, no_attempt}
use Rattle.hr_history.proofs.StepLemmas.{replica_lookup}
use Rattle.hr_records.proofs.Options.{some_none, same_some}
use Rattle.hr_moves.specs.Sane.{IsSane, cut_to}
use Rattle.hr_sane.proofs.Lists.{got_none}
use Rattle.hr_sane.proofs.Next.{le_or_not, true_false}
use Rattle.hr_sane.proofs.Logs.{refused_unlogged}

module _ (f : ℕ) where
  abbrev v : View
  v = view_of f []

  idle : (r : ℕ) → replica_in v r ≡ idle_replica
  idle r = elim (le_or_not r (2 * f)) [
    | inl near ↦ replica_lookup f r [] (omega (arith, near))
    | inr far ↦ ap (λ o. unwrap_or o idle_replica) (got_none v.replicas r (omega (arith, length-map-range_with_len (progress_in []) 0 (2 * f + 1), far)))
  ]

  none : (r t : ℕ) → attempt_in v r t ≡ no_attempt
  none r t = ap (λ (p : Progress). unwrap_or (lookup (nat_eq t) p.attempts) no_attempt) (idle r)

  unknown : (t : ℕ) → txn_in v t ≡ unknown_txn
  unknown zero = refl
  unknown (suc n) = refl

  unlogged : (t place : ℕ) → numbered v.log place ≡ Some t → ⊥
  unlogged t zero h = cc h
  unlogged t (suc n) h = cc h

  pub first_sane : IsSane v
  first_sane = record {
    replicas = length-map-range_with_len (progress_in []) 0 (2 * f + 1);
    search = omega arith;
    primary = λ r h. subst (λ x. (x ≤ 2 * f) × IsTrue (live_in v x)) (same_some 0 r h) (omega arith, ap (λ (p : Progress). not p.lost && not p.convicted) (idle 0));
    logged = λ t place. (λ h. absurd (refused_unlogged place (sym (ap (λ (x : TxnState). x.phase) (unknown t)) ∙ h)), λ h. absurd (unlogged t place h));
    given = λ t. omega (arith, ap (λ (x : TxnState). length x.given) (unknown t));
    position = λ r. omega (arith, ap (λ (p : Progress). p.position) (idle r));
    doubt = λ r d. absurd (true_false d (ap (λ (p : Progress). p.doubt) (idle r)));
    known = λ r t h. absurd (true_false h (ap (λ (p : Progress). has (map (λ (q : ℕ × Attempt). q.0) p.attempts) t) (idle r)));
    apart = λ r. ap (λ (p : Progress). is_distinct (map (λ (q : ℕ × Attempt). q.0) p.attempts)) (idle r);
    few = λ r. omega (arith, ap (λ (p : Progress). length p.attempts) (idle r));
    untouched = λ r t h. none r t;
    stopped = λ r t h. ap (λ (a : Attempt). a.touched) (none r t);
    fresh = λ fresh h. absurd (some_none fresh (sym h));
    cut = λ r t h. ap (λ (a : Attempt). a.last) (none r t) ∙ sym (λ i. cut_to (runs_in v r) (none r t i).last);
    out = λ r j h. absurd (some_none j (sym h ∙ ap (λ (p : Progress). p.out) (idle r)));
  }
