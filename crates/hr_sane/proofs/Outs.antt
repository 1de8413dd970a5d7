-- The job that is out at a replica, after an event.
use Rattle.std.proofs.Common.{◌≡◌, ◌⊎◌, inl, inr, ℕ, ◌+◌, ◌<◌, ◌≤◌, Bool, true, false, ◌&&◌, ◌==◌, nat_le, if◌then◌else◌, Option, Some, None, List, [], ◌∷◌, ◌++◌, length, slice_get, refl, ap, sym, ◌∙◌, subst, arith}
use Rattle.std.proofs.lemmas.Bool.{and_parts, eqb-true, eq-eqb, leb-true, ne_eqb, or_right}
use Rattle.hr_base.specs.Lists.{has}
use Rattle.hr_base.proofs.Tests.{has_end}
use Rattle.hr_history.specs.declared.entry.Event.{Event}
use Rattle.hr_history.specs.declared.entry.Event.TheVariants as event
use Rattle.hr_history.specs.declared.job.Job.{Job}
use Rattle.hr_history.specs.declared.job.Job.TheVariants as job
use Rattle.hr_history.specs.Transactions.{is_open, next_log}
use Rattle.hr_history.specs.Replicas.{next_out}
use Rattle.hr_history.specs.Given.{Given}
use Rattle.hr_history.specs.Attempts.{next_dispatched, and_dispatched}
use Rattle.hr_history.specs.View.{View, Attempt, Progress}
use Rattle.hr_history.specs.Processed.{txn_in, phase_in, replica_in, attempt_in, answers_in, processed_in}
use Rattle.hr_history.specs.Jobs.{is_stamped_by, may_go_on, pending_index, next_index}
use Rattle.hr_history.specs.Step.{out_in, call_in, next_count, commits_after, commits_in, touched_after, view_step}
use Rattle.hr_records.specs.ByRule.{IsRunOf, IsByRule}
use Rattle.hr_records.proofs.Options.{same_some}
use Rattle.hr_records.proofs.Places.{got_within, got_front}
use Rattle.hr_records.proofs.JobLemmas.{job_rule}
use Rattle.hr_moves.specs.Kept.{entries_in}
use Rattle.hr_moves.specs.Sane.{IsSane, IsKnown, HasEntry, MayBeOut}
use Rattle.hr_moves.specs.Fits.{Fits}
use Rattle.hr_sane.proofs.Lists.{on_true, on_false}
use Rattle.hr_sane.proofs.Elsewhere.{no_call}
use Rattle.hr_sane.proofs.Next.{txn_at, entries_at, replica_at, attempt_at}
use Rattle.hr_sane.proofs.Entries.{entry_kept}

-- a job that may be out, but for the entry
abbrev pub MayBeTaken : View → ℕ → Job → Type 0
MayBeTaken v r (job.Run t i) = ((replica_in v r).lost ≡ false) × IsKnown v t × (1 ≤ i) × (i ≤ (txn_in v t).statements)
MayBeTaken v r (job.Commit t) = MayBeOut v r (job.Commit t)
MayBeTaken v r (job.Rollback t) = MayBeOut v r (job.Rollback t)
MayBeTaken v r job.Restart = MayBeOut v r job.Restart

abbrev pub HasIts : View → ℕ → Job → Type 0
HasIts v r (job.Run t i) = HasEntry v r t
HasIts v r _ = Unit {0}

-- ---- a job by the rules

stamped : (m i : ℕ) (given : List Given) → is_stamped_by m (slice_get given i) ≡ true → i < length given
stamped m i given h = by_found (slice_get given i) refl h
  where
    by_found : (o : Option Given) → slice_get given i ≡ o → is_stamped_by m o ≡ true → i < length given
    by_found None e h = cc h
    by_found (Some g) e h = got_within given i g e

pub by_run : (v : View) (r t i : ℕ) → IsSane v → IsRunOf v r t i → (1 ≤ i) × (i ≤ (txn_in v t).statements)
by_run v r t i sane (inl first) =
    let due = (and_parts (is_open (phase_in v t) && nat_le (pending_index v r t) (txn_in v t).statements) (may_go_on v r t) first.1).0 in
    let le = leb-true (pending_index v r t) (txn_in v t).statements (and_parts (is_open (phase_in v t)) (nat_le (pending_index v r t) (txn_in v t).statements) due).1 in
    (omega (arith, first.2), omega (arith, first.2, le))
by_run v r t i sane (inr later) =
    let stamp : is_stamped_by (processed_in v r) (slice_get (txn_in v t).given (length (answers_in v r t))) ≡ true = (and_parts _ _ (and_parts _ (may_go_on v r t) later.1).0).1 in
    let lt = stamped (processed_in v r) (length (answers_in v r t)) (txn_in v t).given stamp in
    (at_most later.2, next later.2 lt)
  where
    at_most : i ≡ next_index v r t → 1 ≤ i
    at_most e = omega (arith, e)

    next : i ≡ next_index v r t → length (answers_in v r t) < length (txn_in v t).given → i ≤ (txn_in v t).statements
    next e lt = omega (arith, e, lt, sane.given t)

by_rule : (v : View) (r : ℕ) (j : Job) → IsSane v → IsByRule v r j → MayBeTaken v r j
by_rule v r (job.Run t i) sane rule = let it = by_run v r t i sane rule.2 in (rule.0, rule.1, it.0, it.1)
by_rule v r (job.Commit t) sane rule = (rule.0, rule.1)
by_rule v r (job.Rollback t) sane rule = (rule.0, (and_parts (attempt_in v r t).touched _ rule.2).0)
by_rule v r job.Restart sane rule = rule

-- ---- whose job is out

-- it was out, and there is no reply
abbrev WasOut : View → ℕ → Event → Job → Type 0
WasOut v r e j = (out_in v r ≡ Some j) × (call_in v r e ≡ None)

taken_by : (v : View) (b : Bool) (q r : ℕ) (k j : Job) → (q == r) ≡ b → (if b then Some k else out_in v r) ≡ Some j → WasOut v r (event.Take q k) j ⊎ (event.Take q k ≡ event.Take r j)
taken_by v true q r k j e h = inr (λ i. event.Take (eqb-true q r e i) (same_some k j h i))
taken_by v false q r k j e h = inl (h, refl)

given_by : (v : View) (r : ℕ) (e : Event) (b : Bool) (q : ℕ) (j : Job) → (q == r) ≡ b → ((q == r) ≡ false → call_in v r e ≡ None) → (if b then None else out_in v r) ≡ Some j → WasOut v r e j ⊎ (e ≡ event.Take r j)
given_by v r e true q j d none h = cc h
given_by v r e false q j d none h = inl (h, none d)

pub was_or_taken : (v : View) (r : ℕ) (e : Event) (j : Job) → next_out r e (out_in v r) ≡ Some j → WasOut v r e j ⊎ (e ≡ event.Take r j)
was_or_taken v r (event.Take q k) j h = taken_by v (q == r) q r k j refl h
was_or_taken v r (event.Give q told) j h = given_by v r (event.Give q told) (q == r) q j refl (λ away. no_call r v (event.Give q told) away) h
was_or_taken v r (event.Restarted q count) j h = given_by v r (event.Restarted q count) (q == r) q j refl (λ away. no_call r v (event.Restarted q count) away) h
was_or_taken v r (event.Begin session txn) j h = inl (h, refl)
was_or_taken v r (event.Submit txn index stmt) j h = inl (h, refl)
was_or_taken v r (event.AskCommit txn) j h = inl (h, refl)
was_or_taken v r (event.AskRollback txn) j h = inl (h, refl)
was_or_taken v r event.Suspect j h = inl (h, refl)
was_or_taken v r (event.Decide txn) j h = inl (h, refl)
was_or_taken v r (event.Refuse txn cause) j h = inl (h, refl)
was_or_taken v r (event.Convict q x) j h = inl (h, refl)
was_or_taken v r (event.NewPrimary q) j h = inl (h, refl)
was_or_taken v r (event.Preempt q u) j h = inl (h, refl)

-- ---- what stays of the view

count_if : (b : Bool) (n : ℕ) → n ≤ (if b then n + 1 else n)
count_if true n = omega arith
count_if false n = omega arith

count_grows : (v : View) (t n : ℕ) (e : Event) → Fits v e → IsKnown v t → n ≤ next_count t e n
count_grows v t n (event.Begin session u) fits known =
    let other : (u == t) ≡ false = ne_eqb u t (λ same. omega (arith, fits, same, known.1)) in
    omega (arith, on_false (u == t) 0 n other)
count_grows v t n (event.Submit u index stmt) fits known = count_if (u == t) n
count_grows v t n _ fits known = omega arith

pub log_front : (e : Event) (log : List ℕ) (i t : ℕ) → slice_get log i ≡ Some t → slice_get (next_log e log) i ≡ Some t
log_front (event.Decide u) log i t h = got_front log (u ∷ []) i t h
log_front _ log i t h = h

self_by : (b : Bool) (t : ℕ) (ts : List ℕ) → has ts t ≡ b → has (if b then ts else ts ++ t ∷ []) t ≡ true
self_by true t ts e = e
self_by false t ts e = has_end ts t t ∙ or_right (has ts t) (t == t) (eq-eqb t t refl)

module _ (v : View) (place asks : ℕ) (e : Event) (sane : IsSane v) (fits : Fits v e) where
  abbrev now : View
  now = view_step v place asks e

  module _ (r : ℕ) (none : call_in v r e ≡ None) where
    lost_same : (replica_in now r).lost ≡ (replica_in v r).lost
    lost_same = ap (λ (p : Progress). p.lost) (replica_at v place asks e sane fits r) ∙ ap (λ c. (commits_after c (commits_in v r)).lost) none

    position_same : (replica_in now r).position ≡ (replica_in v r).position
    position_same = ap (λ (p : Progress). p.position) (replica_at v place asks e sane fits r) ∙ ap (λ c. (commits_after c (commits_in v r)).position) none

    stays_out : (j : Job) → HasIts now r j → MayBeTaken v r j → MayBeOut now r j
    stays_out (job.Run t i) its may =
        let count = ap (λ n. n) (txn_at v place asks e sane fits t).statements in
        (lost_same ∙ may.0, its, may.2, omega (arith, may.3, count, count_grows v t (txn_in v t).statements e fits may.1))
    stays_out (job.Commit t) its may = (lost_same ∙ may.0, ap (slice_get now.log) position_same ∙ log_front e v.log (replica_in v r).position t may.1)
    stays_out (job.Rollback t) its may =
        (lost_same ∙ may.0, ap (λ (a : Attempt). a.touched) (attempt_at v place asks e sane fits r t) ∙ ap (λ c. touched_after t c (attempt_in v r t).touched) none ∙ may.1)
    stays_out job.Restart its may = lost_same ∙ may

  -- one that was out
  old_its : (r : ℕ) (j : Job) → MayBeOut v r j → HasIts now r j
  old_its r (job.Run t i) may = entry_kept v place asks e sane fits r t may.1
  old_its r (job.Commit t) may = tt
  old_its r (job.Rollback t) may = tt
  old_its r job.Restart may = tt

  old_may : (r : ℕ) (j : Job) → MayBeOut v r j → MayBeTaken v r j
  old_may r (job.Run t i) may = (may.0, sane.known r t may.1, may.2, may.3)
  old_may r (job.Commit t) may = may
  old_may r (job.Rollback t) may = may
  old_may r job.Restart may = may

  -- one that is taken now
  new_its : (r : ℕ) (j : Job) → e ≡ event.Take r j → HasIts now r j
  new_its r (job.Run t i) is =
      ap (λ ts. has ts t) (entries_at v place asks e sane fits r ∙ ap (λ d. next_dispatched r d (entries_in v r)) is
      ∙ on_true (r == r) (and_dispatched t (entries_in v r)) (entries_in v r) (eq-eqb r r refl)) ∙ self_by (has (entries_in v r) t) t (entries_in v r) refl
  new_its r (job.Commit t) is = tt
  new_its r (job.Rollback t) is = tt
  new_its r job.Restart is = tt

  pub out_now : (r : ℕ) (j : Job) → (replica_in now r).out ≡ Some j → MayBeOut now r j
  out_now r j h = elim (was_or_taken v r e j (sym (ap (λ (p : Progress). p.out) (replica_at v place asks e sane fits r)) ∙ h)) [
    | inl was ↦ (let may = sane.out r j was.0 in stays_out r was.1 j (old_its r j may) (old_may r j may))
    | inr is ↦ (
        let taken = subst (Fits v) is fits in
        stays_out r (ap (call_in v r) is) j (new_its r j is) (by_rule v r j sane (job_rule v r j taken.1).rule)
        )
  ]
