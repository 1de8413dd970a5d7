-- Who has an entry at a replica, after an event.
use Rattle.std.proofs.Common.{◌≡◌, ◌⊎◌, inl, inr, ℕ, ◌≤◌, Bool, true, false, ◌==◌, if◌then◌else◌, Option, Some, None, List, [], ◌∷◌, ◌++◌, length, map, refl, ap, sym, ◌∙◌, subst, arith, length-append, IsTrue}
use Rattle.std.proofs.lemmas.Bool.{eqb-true, or_cases}
use Rattle.std.proofs.lemmas.List.{length-map}
use Rattle.std.proofs.lemmas.List.FromFn.{length-map-range_with_len}
use Rattle.hr_base.specs.Lists.{has, is_distinct}
use Rattle.hr_base.specs.declared.limits.TheConstants.{MAX_SUBMITS}
use Rattle.hr_base.proofs.Tests.{has_end}
use Rattle.hr_history.specs.declared.entry.Event.{Event}
use Rattle.hr_history.specs.declared.entry.Event.TheVariants as event
use Rattle.hr_history.specs.declared.job.Job.{Job}
use Rattle.hr_history.specs.declared.job.Job.TheVariants as job
use Rattle.hr_history.specs.declared.job.JobReply.TheVariants as reply
use Rattle.hr_history.specs.declared.phase.Fresh.{Fresh}
use Rattle.hr_history.specs.Attempts.{next_dispatched, and_dispatched}
use Rattle.hr_history.specs.Turn.{fresh_from}
use Rattle.hr_history.specs.View.{View, Attempt}
use Rattle.hr_history.specs.Processed.{replica_in}
use Rattle.hr_history.specs.Jobs.{txn_numbers}
use Rattle.hr_history.specs.Step.{out_in, fresh_after, txn_after, begun_by, view_step}
use Rattle.hr_records.proofs.Options.{same_some}
use Rattle.hr_records.proofs.JobLemmas.{job_rule}
use Rattle.hr_moves.specs.Kept.{entries_in}
use Rattle.hr_moves.specs.Sane.{IsSane, IsReplica, IsKnown, HasEntry}
use Rattle.hr_moves.specs.Fits.{Fits}
use Rattle.hr_sane.proofs.Lists.{distinct_more}
use Rattle.hr_sane.proofs.Next.{true_false, none_before, entries_at}

-- who had one has it
pub keep_entry : (r t : ℕ) (e : Event) (ts : List ℕ) → has ts t ≡ true → has (next_dispatched r e ts) t ≡ true
keep_entry r t e ts h = by_test (has (next_dispatched r e ts) t) refl
  where
    by_test : (b : Bool) → has (next_dispatched r e ts) t ≡ b → has (next_dispatched r e ts) t ≡ true
    by_test true d = d
    by_test false d = absurd (true_false h (none_before r t e ts d))

-- who has one had it, or it is the one to run now
abbrev Newly : ℕ → ℕ → Event → Type 0
Newly r t (event.Take q (job.Run u i)) = (q ≡ r) × (u ≡ t)
Newly r t _ = ⊥

new_by : (b : Bool) (u t : ℕ) (ts : List ℕ) → has (if b then ts else ts ++ u ∷ []) t ≡ true → (has ts t ≡ true) ⊎ (u ≡ t)
new_by true u t ts h = inl h
new_by false u t ts h = elim (or_cases (has ts t) (u == t) (sym (has_end ts u t) ∙ h)) [ inl old ↦ inl old | inr same ↦ inr (eqb-true u t same) ]

new_if : (b : Bool) (q r u t : ℕ) (ts : List ℕ) → (q == r) ≡ b → has (if b then and_dispatched u ts else ts) t ≡ true → (has ts t ≡ true) ⊎ ((q ≡ r) × (u ≡ t))
new_if true q r u t ts e h = elim (new_by (has ts u) u t ts h) [ inl old ↦ inl old | inr same ↦ inr (eqb-true q r e, same) ]
new_if false q r u t ts e h = inl h

old_or_new : (r t : ℕ) (e : Event) (ts : List ℕ) → has (next_dispatched r e ts) t ≡ true → (has ts t ≡ true) ⊎ Newly r t e
old_or_new r t (event.Take q (job.Run u i)) ts h = new_if (q == r) q r u t ts refl h
old_or_new r t (event.Take q (job.Commit u)) ts h = inl h
old_or_new r t (event.Take q (job.Rollback u)) ts h = inl h
old_or_new r t (event.Take q job.Restart) ts h = inl h
old_or_new r t (event.Begin session txn) ts h = inl h
old_or_new r t (event.Submit txn index stmt) ts h = inl h
old_or_new r t (event.AskCommit txn) ts h = inl h
old_or_new r t (event.AskRollback txn) ts h = inl h
old_or_new r t (event.Give q told) ts h = inl h
old_or_new r t (event.Restarted q count) ts h = inl h
old_or_new r t event.Suspect ts h = inl h
old_or_new r t (event.Decide txn) ts h = inl h
old_or_new r t (event.Refuse txn cause) ts h = inl h
old_or_new r t (event.Convict q x) ts h = inl h
old_or_new r t (event.NewPrimary q) ts h = inl h
old_or_new r t (event.Preempt q u) ts h = inl h

new_known : (v : View) (r t : ℕ) (e : Event) → Fits v e → Newly r t e → IsKnown v t
new_known v r t (event.Take q (job.Run u i)) fits new = subst (IsKnown v) new.1 (job_rule v q (job.Run u i) fits.1).rule.1
new_known v r t (event.Take q (job.Commit u)) fits new = absurd new
new_known v r t (event.Take q (job.Rollback u)) fits new = absurd new
new_known v r t (event.Take q job.Restart) fits new = absurd new
new_known v r t (event.Begin session txn) fits new = absurd new
new_known v r t (event.Submit txn index stmt) fits new = absurd new
new_known v r t (event.AskCommit txn) fits new = absurd new
new_known v r t (event.AskRollback txn) fits new = absurd new
new_known v r t (event.Give q told) fits new = absurd new
new_known v r t (event.Restarted q count) fits new = absurd new
new_known v r t event.Suspect fits new = absurd new
new_known v r t (event.Decide txn) fits new = absurd new
new_known v r t (event.Refuse txn cause) fits new = absurd new
new_known v r t (event.Convict q x) fits new = absurd new
new_known v r t (event.NewPrimary q) fits new = absurd new
new_known v r t (event.Preempt q u) fits new = absurd new

-- of each one
pub distinct_if : (b : Bool) (u : ℕ) (ts : List ℕ) → is_distinct ts ≡ true → is_distinct (if b then and_dispatched u ts else ts) ≡ true
distinct_if true u ts h = distinct_more u ts h
distinct_if false u ts h = h

distinct_next : (r : ℕ) (e : Event) (ts : List ℕ) → is_distinct ts ≡ true → is_distinct (next_dispatched r e ts) ≡ true
distinct_next r (event.Take q (job.Run u i)) ts h = distinct_if (q == r) u ts h
distinct_next r _ ts h = h

-- and not too many
few_by : (v : View) (b : Bool) (q r u : ℕ) → (q == r) ≡ b → length (and_dispatched u (entries_in v q)) ≤ MAX_SUBMITS → length (entries_in v r) ≤ MAX_SUBMITS
    → length (if b then and_dispatched u (entries_in v r) else entries_in v r) ≤ MAX_SUBMITS
few_by v true q r u e room few = subst (λ x. length (and_dispatched u (entries_in v x)) ≤ MAX_SUBMITS) (eqb-true q r e) room
few_by v false q r u e room few = few

few_next : (v : View) (r : ℕ) (e : Event) → Fits v e → length (entries_in v r) ≤ MAX_SUBMITS → length (next_dispatched r e (entries_in v r)) ≤ MAX_SUBMITS
few_next v r (event.Take q (job.Run u i)) fits few = few_by v (q == r) q r u refl fits.2 few
few_next v r _ fits few = few

entry_count : (v : View) (r : ℕ) → length (entries_in v r) ≡ length (replica_in v r).attempts
entry_count v r = length-map (replica_in v r).attempts (λ (p : ℕ × Attempt). p.0)

-- the turn's reply
module _ (v : View) (sane : IsSane v) where
  abbrev IsOf : Fresh → Type 0
  IsOf fresh = IsReplica v fresh.replica × HasEntry v fresh.replica fresh.txn

  fresh_out : (q : ℕ) (o : Option Job) (fresh : Fresh) → IsReplica v q → out_in v q ≡ o → fresh_from q o ≡ Some fresh → IsOf fresh
  fresh_out q (Some (job.Run t i)) fresh near e h = subst IsOf (same_some record { replica = q; txn = t } fresh h) (near, (sane.out q (job.Run t i) e).1)
  fresh_out q (Some (job.Commit t)) fresh near e h = cc h
  fresh_out q (Some (job.Rollback t)) fresh near e h = cc h
  fresh_out q (Some job.Restart) fresh near e h = cc h
  fresh_out q None fresh near e h = cc h

  pub fresh_next : (e : Event) (fresh : Fresh) → Fits v e → fresh_after v e ≡ Some fresh → IsOf fresh
  fresh_next (event.Give q (reply.Ran told)) fresh fits h = fresh_out q (out_in v q) fresh fits.0 refl h
  fresh_next (event.Give q (reply.Ended told)) fresh fits h = cc h
  fresh_next (event.Give q reply.StillLost) fresh fits h = cc h
  fresh_next (event.Begin session txn) fresh fits h = cc h
  fresh_next (event.Submit txn index stmt) fresh fits h = cc h
  fresh_next (event.AskCommit txn) fresh fits h = cc h
  fresh_next (event.AskRollback txn) fresh fits h = cc h
  fresh_next (event.Take q j) fresh fits h = cc h
  fresh_next (event.Restarted q count) fresh fits h = cc h
  fresh_next event.Suspect fresh fits h = cc h
  fresh_next (event.Decide txn) fresh fits h = sane.fresh fresh h
  fresh_next (event.Refuse txn cause) fresh fits h = sane.fresh fresh h
  fresh_next (event.Convict q x) fresh fits h = sane.fresh fresh h
  fresh_next (event.NewPrimary q) fresh fits h = sane.fresh fresh h
  fresh_next (event.Preempt q u) fresh fits h = sane.fresh fresh h

module _ (v : View) (place asks : ℕ) (e : Event) (sane : IsSane v) (fits : Fits v e) where
  abbrev now : View
  now = view_step v place asks e

  pub txns_grow : length v.txns ≤ length now.txns
  txns_grow = omega (arith, length-append (map (txn_after v asks e) (txn_numbers v)) (begun_by e), length-map-range_with_len (txn_after v asks e) 1 (length v.txns))

  pub entry_kept : (r t : ℕ) → HasEntry v r t → HasEntry now r t
  entry_kept r t h = ap (λ ts. has ts t) (entries_at v place asks e sane fits r) ∙ keep_entry r t e (entries_in v r) h

  pub known_now : (r t : ℕ) → HasEntry now r t → IsKnown now t
  known_now r t h = elim (old_or_new r t e (entries_in v r) (sym (ap (λ ts. has ts t) (entries_at v place asks e sane fits r)) ∙ h)) [
    | inl old ↦ more (sane.known r t old)
    | inr new ↦ more (new_known v r t e fits new)
  ]
    where
      more : IsKnown v t → IsKnown now t
      more known = (known.0, omega (arith, known.1, txns_grow))

  pub apart_now : (r : ℕ) → IsTrue (is_distinct (entries_in now r))
  apart_now r = ap is_distinct (entries_at v place asks e sane fits r) ∙ distinct_next r e (entries_in v r) (sane.apart r)

  pub few_now : (r : ℕ) → length (replica_in now r).attempts ≤ MAX_SUBMITS
  few_now r =
      let was : length (entries_in v r) ≤ MAX_SUBMITS = omega (arith, entry_count v r, sane.few r) in
      omega (arith, entry_count now r, ap length (entries_at v place asks e sane fits r), few_next v r e fits was)

  pub fresh_now : (fresh : Fresh) → now.fresh ≡ Some fresh → IsReplica now fresh.replica × HasEntry now fresh.replica fresh.txn
  fresh_now fresh h = let is = fresh_next v sane e fresh fits h in (is.0, entry_kept fresh.replica fresh.txn is.1)
