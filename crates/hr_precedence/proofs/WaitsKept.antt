-- A statement runs where nobody whom its transaction waits for runs, and no cycle of waits stands that it was told of.
use Rattle.std.proofs.Common.{◌≡◌, inl, inr, ℕ, ◌+◌, ◌*◌, ◌<◌, Bool, true, false, not, cond, ◌&&◌, ◌||◌, ◌==◌, nat_le, Option, Some, None, is_none, slice_get, filter, option_and_then, List, [], ◌∷◌, length, refl, ap, sym, ◌∙◌}
use Rattle.std.specs.List.{list_any}
use Rattle.std.proofs.lemmas.Bool.{and_parts, or_cases, eqb-true, not-true}
use Rattle.hr_base.specs.Lists.{has, once}
use Rattle.hr_base.proofs.ListLaws.{has_head, has_tail, has-filter}
use Rattle.hr_base.proofs.Tests.{or_false, in_once, kept, kept_once}
use Rattle.hr_engine.specs.Journal.{Journal}
use Rattle.hr_engine.specs.Attempts.{is_running}
use Rattle.hr_engine.specs.Effects.{effect_of}
use Rattle.hr_engine.specs.Waits.{next_wait, next_standing, wait, standing, if_all}
use Rattle.hr_history.specs.declared.job.Job.TheVariants as job
use Rattle.hr_history.specs.History.{History}
use Rattle.hr_history.specs.Replicas.{journal_of}
use Rattle.hr_history.specs.Attempts.{last_told}
use Rattle.hr_history.specs.Transactions.{is_open, is_logged}
use Rattle.hr_history.specs.Turn.{fresh_of}
use Rattle.hr_history.specs.View.{View, Attempt, view_of, is_fresh}
use Rattle.hr_history.specs.Processed.{txn_in, phase_in, answers_in, runs_in, wait_in, standing_in, is_committed, processed_in, named_in, cycle_in}
use Rattle.hr_history.specs.Jobs.{is_stamped_by, may_go_on, pending_index, job_in}
use Rattle.hr_history.proofs.WaitLaws.{if_all_again, wait_of_last, standing_of_last}
use Rattle.hr_history.proofs.AttemptSteps.{attempt_lookup}
use Rattle.hr_records.specs.ByRule.{IsRunOf}
use Rattle.hr_records.proofs.NumberSteps.{not_both}
use Rattle.hr_records.proofs.JobLemmas.{job_rule}
use Rattle.hr_convictions.proofs.ReplyWords.{runs_seen}

-- WHERE NONE PASSES
none_any : (p : ℕ → Bool) (xs : List ℕ) → list_any p xs ≡ false → (y : ℕ) → has xs y ≡ true → p y ≡ false
none_any p [] e y there = cc there
none_any p (x ∷ xs) e y there =
    let both = or_false (p x) (list_any p xs) e in
    elim (or_cases (x == y) (has xs y) there) [ inl same ↦ ap p (sym (eqb-true x y same)) ∙ both.0 | inr later ↦ none_any p xs both.1 y later ]

nothing_by : (p : ℕ → Bool) (x : ℕ) (xs : List ℕ) (b : Bool) → p x ≡ b → b ≡ false → filter p xs ≡ [] → cond b (x ∷ filter p xs) (filter p xs) ≡ []
nothing_by p x xs true e no_b rest = cc no_b
nothing_by p x xs false e no_b rest = rest

nothing_left : (p : ℕ → Bool) (xs : List ℕ) → ((y : ℕ) → has xs y ≡ true → p y ≡ false) → filter p xs ≡ []
nothing_left p [] none = refl
nothing_left p (x ∷ xs) none = nothing_by p x xs (p x) refl (none x (has_head x xs)) (nothing_left p xs (λ y there. none y (has_tail y x xs there)))

no_members : (xs : List ℕ) → ((y : ℕ) → has xs y ≡ true → ⊥) → xs ≡ []
no_members [] none = refl
no_members (x ∷ xs) none = absurd (none x (has_head x xs))

-- all that are waited for run
wait_empty : (t : ℕ) (j : Journal) → ((y : ℕ) → has (wait t j) y ≡ true → is_running y j ≡ false) → wait t j ≡ []
wait_empty t [] none = refl
wait_empty t (c ∷ j) none =
    no_members (wait t (c ∷ j)) (λ y there. not_both (is_running y (c ∷ j)) (has-filter (λ u. is_running u (c ∷ j)) (next_wait t (effect_of c) (wait t j)) y there).0 (none y there))

stands_again : (t : ℕ) (j : Journal) → option_and_then (if_all (λ u. is_running u j)) (standing t j) ≡ standing t j
stands_again t [] = refl
stands_again t (c ∷ j) = if_all_again (λ u. is_running u (c ∷ j)) (next_standing t (effect_of c) (standing t j))

-- THE JOB
is_none_of : {X : Type 0} (o : Option X) → is_none o ≡ true → o ≡ None
is_none_of None e = refl
is_none_of (Some x) e = cc e

goes_on_by : (v : View) (r t i : ℕ) → IsRunOf v r t i → may_go_on v r t ≡ true
goes_on_by v r t i (inl first) = (and_parts (is_open (phase_in v t) && nat_le (pending_index v r t) (txn_in v t).statements) (may_go_on v r t) first.1).1
goes_on_by v r t i (inr again) =
    (and_parts ((is_open (phase_in v t) || (is_logged (phase_in v t) && not (is_committed v r t))) && is_stamped_by (processed_in v r) (slice_get (txn_in v t).given (length (answers_in v r t)))) (may_go_on v r t) again.1).1

module _ (f r t : ℕ) (h : History) (lt : r < 2 * f + 1) where
  abbrev j : Journal
  j = journal_of r h

  abbrev fresh : Bool
  fresh = is_fresh (fresh_of h) r t

  runs : (u : ℕ) → runs_in (view_of f h) r u ≡ is_running u (journal_of r h)
  runs u = runs_seen f r u h lt

  pub told : wait_in (view_of f h) r t ≡ named_in (last_told (is_fresh (fresh_of h) r t) t (journal_of r h))
  told = ap (λ (a : Attempt). named_in a.last) (attempt_lookup f r t h lt)

  wait_by : (b : Bool) → list_any (λ u. is_running u j) (named_in (last_told b t j)) ≡ false → wait t j ≡ []
  wait_by true none =
      sym (wait_of_last true t j) ∙ nothing_left (λ u. is_running u j) (once (named_in (last_told true t j))) (λ y there. none_any (λ u. is_running u j) (named_in (last_told true t j)) none y (in_once (named_in (last_told true t j)) y there))
  wait_by false none = wait_empty t j (none_any (λ u. is_running u j) (wait t j) (ap (list_any (λ u. is_running u j)) (sym (wait_of_last false t j)) ∙ none))

  stands_by : (b : Bool) → option_and_then (if_all (λ u. is_running u j)) (cycle_in (last_told b t j)) ≡ standing t j
  stands_by true = standing_of_last true t j
  stands_by false = ap (option_and_then (if_all (λ u. is_running u j))) (standing_of_last false t j) ∙ stands_again t j

  -- the cycle that a view has is the journal's
  pub standing_seen : standing_in (view_of f h) r t ≡ standing t (journal_of r h)
  standing_seen = (λ i. option_and_then (if_all (λ u. runs u i)) (cycle_in (attempt_lookup f r t h lt i).last)) ∙ stands_by fresh

  -- and who runs and is waited for by the view's waits is by the journal's
  pub waited_for : (u : ℕ) → is_running u (journal_of r h) ≡ true → has (wait_in (view_of f h) r t) u ≡ true → has (wait t (journal_of r h)) u ≡ true
  waited_for u running there = by_last fresh (ap (λ l. has l u) (sym told) ∙ there)
    where
      by_last : (b : Bool) → has (named_in (last_told b t j)) u ≡ true → has (wait t j) u ≡ true
      by_last true is = ap (λ l. has l u) (sym (wait_of_last true t j)) ∙ kept (λ w. is_running w j) u (once (named_in (last_told true t j))) running (kept_once (named_in (last_told true t j)) u is)
      by_last false is = ap (λ l. has l u) (sym (wait_of_last false t j)) ∙ is

  pub kept_by : may_go_on (view_of f h) r t ≡ true → (wait t (journal_of r h) ≡ []) × (standing t (journal_of r h) ≡ None)
  kept_by on =
      let parts = and_parts (not (list_any (runs_in (view_of f h) r) (wait_in (view_of f h) r t))) (is_none (standing_in (view_of f h) r t)) on in
      let none : list_any (λ u. is_running u j) (named_in (last_told fresh t j)) ≡ false =
      (λ i. list_any (λ u. sym (runs u) i) (sym told i)) ∙ not-true (list_any (runs_in (view_of f h) r) (wait_in (view_of f h) r t)) parts.0 in
      (wait_by fresh none, sym standing_seen ∙ is_none_of (standing_in (view_of f h) r t) parts.1)

pub waits_kept : (f r t i : ℕ) (h : History) → r < 2 * f + 1 → job_in (view_of f h) r ≡ Some (job.Run t i) → (wait t (journal_of r h) ≡ []) × (standing t (journal_of r h) ≡ None)
waits_kept f r t i h lt is = kept_by f r t h lt (goes_on_by (view_of f h) r t i ((job_rule (view_of f h) r (job.Run t i) is).rule).2)
