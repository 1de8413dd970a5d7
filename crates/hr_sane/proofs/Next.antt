-- What one more entry makes of each word of a sane view, where the event fits it.
use Rattle.std.proofs.Common.{◌≡◌, ◌⊎◌, inl, inr, ℕ, zero, suc, ◌+◌, ◌*◌, ◌≤◌, Bool, true, false, not, ◌&&◌, ◌||◌, ◌==◌, nat_eq, nat_le, if◌then◌else◌, Option, Some, None, unwrap_or, option_and_then, List, [], ◌∷◌, ◌++◌, length, map, filter, refl, ap, sym, ◌∙◌, subst, arith, length-append}
use Rattle.std.specs.Map.{lookup}
use Rattle.std.proofs.lemmas.Bool.{leb-true, le-leb, ne_eqb, eq-eqb}
use Rattle.std.proofs.lemmas.List.FromFn.{length-map-range_with_len}
use Rattle.hr_rel.specs.declared.stmt.Stmt.{Stmt}
use Rattle.hr_base.specs.Lists.{has, once}
use Rattle.hr_base.proofs.Tests.{and_false, has_end, or_false}
use Rattle.hr_engine.specs.Journal.{Call, Ran, Committed, RolledBack, Restarted}
use Rattle.hr_engine.specs.Effects.{effect_of}
use Rattle.hr_engine.specs.Waits.{if_all, next_wait, next_standing}
use Rattle.hr_engine.specs.declared.reply.RunReply.TheVariants as run
use Rattle.hr_engine.specs.declared.reply.EndReply.TheVariants as end
use Rattle.hr_history.specs.declared.entry.Event.{Event}
use Rattle.hr_history.specs.declared.entry.Event.TheVariants as event
use Rattle.hr_history.specs.declared.job.Job.{Job}
use Rattle.hr_history.specs.declared.job.Job.TheVariants as job
use Rattle.hr_history.specs.declared.job.JobReply.{JobReply}
use Rattle.hr_history.specs.declared.job.JobReply.TheVariants as reply
use Rattle.hr_history.specs.declared.phase.Phase.TheVariants as phase
use Rattle.hr_history.specs.declared.phase.Last.TheVariants as last
use Rattle.hr_history.specs.Transactions.{is_open, next_phase}
use Rattle.hr_history.specs.Replicas.{any_stmt, call_of, call_if, restart_of, restart_if}
use Rattle.hr_history.specs.Primary.{is_some_of}
use Rattle.hr_history.specs.Given.{Given, Found, next_given, given_by, is_run_of}
use Rattle.hr_history.specs.Attempts.{next_places, next_preempted, ends_attempt, next_dispatched, and_dispatched, still_told, told_by}
use Rattle.hr_history.specs.View.{View, TxnState, Progress, Attempt, is_fresh}
use Rattle.hr_history.specs.Processed.{txn_in, replica_in, attempt_in, runs_in, unknown_txn, idle_replica, no_attempt, named_in, cycle_in}
use Rattle.hr_history.specs.Jobs.{txn_numbers}
use Rattle.hr_history.specs.Step.{answers_after, touched_after, next_count, begun_by, commits_after, out_in, call_in, found_in, fresh_after, txn_after, wait_left, standing_left, runs_after, last_after, attempt_after, replica_after, view_step}
use Rattle.hr_history.proofs.StepLemmas.{mapped}
use Rattle.hr_history.proofs.Quiet.{runs_of, asks}
use Rattle.hr_records.proofs.Places.{same_or_not, numbered_front, numbered_end}
use Rattle.hr_records.proofs.ViewWords.{open_txn}
use Rattle.hr_moves.specs.Kept.{entries_in}
use Rattle.hr_moves.specs.Sane.{IsSane, IsReplica, IsKnown, HasEntry}
use Rattle.hr_moves.specs.Fits.{Fits, IsOpen}
use Rattle.hr_sane.proofs.Lists.{got_none, on_true, on_false, keys_of_made, lookup_made, lookup_absent}
use Rattle.hr_sane.proofs.Elsewhere.{IsElsewhere, no_call, out_stays, convicted_stays, entries_stay}
use Rattle.hr_sane.proofs.Quiet.{IsIdle, quiet, quiet_last}

pub le_or_not : (a b : ℕ) → (a ≤ b) ⊎ (a ≤ b → ⊥)
le_or_not a b = by_test (nat_le a b) refl
  where
    by_test : (c : Bool) → nat_le a b ≡ c → (a ≤ b) ⊎ (a ≤ b → ⊥)
    by_test true e = inl (leb-true a b e)
    by_test false e = inr (λ le. wrong (le-leb a b le) e)
      where
        wrong : nat_le a b ≡ true → nat_le a b ≡ false → ⊥
        wrong d c = cc

pub same_if : {X : Type 0} (b : Bool) (x : X) → (if b then x else x) ≡ x
same_if true x = refl
same_if false x = refl

pub true_false : {b : Bool} → b ≡ true → b ≡ false → ⊥
true_false h k = cc

-- ---- which replicas

pub far_event : (v : View) (r : ℕ) (e : Event) → Fits v e → (IsReplica v r → ⊥) → IsElsewhere r e
far_event v r (event.Take q j) fits far = ne_eqb q r (λ same. far (subst (IsReplica v) same fits.0))
far_event v r (event.Give q told) fits far = ne_eqb q r (λ same. far (subst (IsReplica v) same fits.0))
far_event v r (event.Restarted q count) fits far = ne_eqb q r (λ same. far (subst (IsReplica v) same fits.0))
far_event v r (event.Convict q x) fits far = ne_eqb q r (λ same. far (subst (IsReplica v) same fits))
far_event v r (event.Preempt q t) fits far = ne_eqb q r (λ same. far (subst (IsReplica v) same fits.0))
far_event v r (event.Begin session txn) fits far = tt
far_event v r (event.Submit txn index stmt) fits far = tt
far_event v r (event.AskCommit txn) fits far = tt
far_event v r (event.AskRollback txn) fits far = tt
far_event v r event.Suspect fits far = tt
far_event v r (event.Decide txn) fits far = tt
far_event v r (event.Refuse txn cause) fits far = tt
far_event v r (event.NewPrimary q) fits far = tt

-- ---- what isn't run

asks_of : (t : ℕ) (out : Option Job) (told : JobReply) (stmt : ℕ → ℕ → Stmt) → runs_of t out ≡ false → asks t (call_of out told stmt) ≡ false
asks_of t (Some (job.Run u i)) (reply.Ran x) stmt h = h
asks_of t (Some (job.Commit u)) (reply.Ended x) stmt h = refl
asks_of t (Some (job.Rollback u)) (reply.Ended x) stmt h = refl
asks_of t (Some job.Restart) reply.StillLost stmt h = refl
asks_of t _ _ stmt h = refl

restart_asks : (t : ℕ) (out : Option Job) (count : ℕ) → asks t (restart_of out count) ≡ false
restart_asks t (Some job.Restart) count = refl
restart_asks t _ count = refl

module _ (v : View) (r t : ℕ) (none : runs_of t (out_in v r) ≡ false) where
  asks_if : (b : Bool) (told : JobReply) → asks t (call_if b r told (out_in v) (λ u i. any_stmt)) ≡ false
  asks_if true told = asks_of t (out_in v r) told (λ u i. any_stmt) none
  asks_if false told = refl

  restart_asks_if : (b : Bool) (count : ℕ) → asks t (restart_if b r count (out_in v)) ≡ false
  restart_asks_if true count = restart_asks t (out_in v r) count
  restart_asks_if false count = refl

  asks_none : (e : Event) → asks t (call_in v r e) ≡ false
  asks_none (event.Give q told) = asks_if (q == r) told
  asks_none (event.Restarted q count) = restart_asks_if (q == r) count
  asks_none _ = refl

untouched_by : (t : ℕ) (c : Option Call) → asks t c ≡ false → touched_after t c false ≡ false
untouched_by t None h = refl
untouched_by t (Some (Ran u s (run.Done a))) h = ap (λ b. b || false) h
untouched_by t (Some (Ran u s (run.Blocked named))) h = ap (λ b. b || false) h
untouched_by t (Some (Ran u s (run.Deadlock cycle))) h = ap (λ b. b || false) h
untouched_by t (Some (Ran u s run.Lost)) h = refl
untouched_by t (Some (Ran u s run.NoMemory)) h = refl
untouched_by t (Some (Committed u end.Done)) h = and_false (not (t == u)) false refl
untouched_by t (Some (Committed u end.Lost)) h = refl
untouched_by t (Some (RolledBack u end.Done)) h = and_false (not (t == u)) false refl
untouched_by t (Some (RolledBack u end.Lost)) h = refl
untouched_by t (Some (Restarted told)) h = refl

-- who has no entry after an event had none before
kept_by : (b : Bool) (u t : ℕ) (ts : List ℕ) → has (if b then ts else ts ++ u ∷ []) t ≡ false → has ts t ≡ false
kept_by true u t ts h = h
kept_by false u t ts h = (or_false (has ts t) (u == t) (sym (has_end ts u t) ∙ h)).0

kept_if : (b : Bool) (u t : ℕ) (ts : List ℕ) → has (if b then and_dispatched u ts else ts) t ≡ false → has ts t ≡ false
kept_if true u t ts h = kept_by (has ts u) u t ts h
kept_if false u t ts h = h

pub none_before : (r t : ℕ) (e : Event) (ts : List ℕ) → has (next_dispatched r e ts) t ≡ false → has ts t ≡ false
none_before r t (event.Take q (job.Run u i)) ts h = kept_if (q == r) u t ts h
none_before r t _ ts h = h

-- an untouched attempt isn't preempted
or_none : (a b : Bool) → a ≡ false → b ≡ false → (a || b) ≡ false
or_none true b e d = cc
or_none false b e d = d

unpreempted : (r t : ℕ) (e : Event) (touched was : Bool) → touched ≡ false → was ≡ false → next_preempted r t e None touched was ≡ false
unpreempted r t (event.Preempt q u) touched was e d = or_none ((q == r) && (u == t) && touched) was (and_false ((q == r) && (u == t)) touched e) d
unpreempted r t _ touched was e d = d

pub preempted_by : (v : View) (r t : ℕ) (e : Event) (c : Call) (touched was : Bool) → call_in v r e ≡ Some c → next_preempted r t e (Some c) touched was ≡ (not (ends_attempt t (effect_of c)) && was)
preempted_by v r t (event.Preempt q u) c touched was d = cc d
preempted_by v r t _ c touched was d = refl

-- ---- an unknown transaction stays unknown

stays_given : (t r : ℕ) (told : JobReply) (now : Found) (given : List Given) → now.phase ≡ phase.Refused → given_by t r told now given ≡ given
stays_given t r (reply.Ran (run.Done answer)) now given e =
    ap (λ b. if b then given ++ record { answer = answer; stamp = now.logged } ∷ [] else given)
    (and_false (is_run_of t (length given + 1) (now.out r) && is_some_of r now.primary) (is_open now.phase) (ap is_open e))
stays_given t r (reply.Ran (run.Blocked named)) now given e = refl
stays_given t r (reply.Ran (run.Deadlock cycle)) now given e = refl
stays_given t r (reply.Ran run.Lost) now given e = refl
stays_given t r (reply.Ran run.NoMemory) now given e = refl
stays_given t r (reply.Ended told) now given e = refl
stays_given t r reply.StillLost now given e = refl

module _ (v : View) where
  pub was_unknown : (t : ℕ) → (IsKnown v t → ⊥) → txn_in v t ≡ unknown_txn
  was_unknown zero far = refl
  was_unknown (suc n) far = ap (λ o. unwrap_or o unknown_txn) (got_none v.txns n (past n far))
    where
      past : (n : ℕ) → (IsKnown v (suc n) → ⊥) → length v.txns ≤ n
      past n far = elim (le_or_not (length v.txns) n) [ inl le ↦ le | inr not ↦ absurd (far (omega arith, omega (arith, not))) ]

  pub known_or_not : (t : ℕ) → IsKnown v t ⊎ (IsKnown v t → ⊥)
  known_or_not t = elim (le_or_not 1 t) [
    | inl low ↦ elim (le_or_not t (length v.txns)) [ inl high ↦ inl (low, high) | inr far ↦ inr (λ known. far known.1) ]
    | inr under ↦ inr (λ known. under known.0)
  ]

-- What the event makes of a transaction's statements, given answers and phase.
pub record TxnAt (v : View) (place asks : ℕ) (e : Event) (t : ℕ) : Type 0 where
  pub statements : (txn_in (view_step v place asks e) t).statements ≡ next_count t e (txn_in v t).statements
  pub given : (txn_in (view_step v place asks e) t).given ≡ next_given t e (found_in v t) (txn_in v t).given
  pub phase : (txn_in (view_step v place asks e) t).phase ≡ next_phase t e asks (length v.log) (txn_in v t).phase

module _ (v : View) (place asks : ℕ) where
  -- where all three stay as those of an unknown one
  stays : (e : Event) (t : ℕ) → txn_in (view_step v place asks e) t ≡ unknown_txn → txn_in v t ≡ unknown_txn
      → next_count t e 0 ≡ 0 → next_given t e (found_in v t) [] ≡ [] → next_phase t e asks (length v.log) phase.Refused ≡ phase.Refused → TxnAt v place asks e t
  stays e t is was count given at = record {
    statements = ap (λ (x : TxnState). x.statements) is ∙ sym (ap (λ (x : TxnState). next_count t e x.statements) was ∙ count);
    given = ap (λ (x : TxnState). x.given) is ∙ sym (ap (λ (x : TxnState). next_given t e (found_in v t) x.given) was ∙ given);
    phase = ap (λ (x : TxnState). x.phase) is ∙ sym (ap (λ (x : TxnState). next_phase t e asks (length v.log) x.phase) was ∙ at);
  }

  none_past : (e : Event) (t n : ℕ) → length (begun_by e) ≡ n → (IsKnown v t → ⊥) → (1 ≤ t → t ≤ length v.txns + n → ⊥) → txn_in (view_step v place asks e) t ≡ unknown_txn
  none_past e zero n count far past = refl
  none_past e (suc m) n count far past =
      let all = map (txn_after v asks e) (txn_numbers v) ++ begun_by e in
      let long : length all ≡ length v.txns + n = length-append (map (txn_after v asks e) (txn_numbers v)) (begun_by e) ∙ (λ i. length-map-range_with_len (txn_after v asks e) 1 (length v.txns) i + count i) in
      ap (λ o. unwrap_or o unknown_txn) (got_none all m (elim (le_or_not (suc m) (length v.txns + n)) [ inl le ↦ absurd (past (omega arith) le) | inr not ↦ omega (arith, not, long) ]))

  no_more : (e : Event) (t : ℕ) → begun_by e ≡ [] → (IsKnown v t → ⊥) → txn_in (view_step v place asks e) t ≡ unknown_txn
  no_more e t none far = none_past e t 0 (ap length none) far (λ low high. far (low, omega (arith, high)))

  not_this : (u t : ℕ) → IsKnown v u → (IsKnown v t → ⊥) → (u == t) ≡ false
  not_this u t known far = ne_eqb u t (λ same. far (subst (IsKnown v) same known))

  not_open : (u t : ℕ) → IsOpen v u → (IsKnown v t → ⊥) → (u == t) ≡ false
  not_open u t opened far = not_this u t (open_txn v u opened) far

  begins : (session u t : ℕ) → u ≡ length v.txns + 1 → (IsKnown v t → ⊥) → txn_in v t ≡ unknown_txn → TxnAt v place asks (event.Begin session u) t
  begins session u t next far was = elim (same_or_not u t) [
    | inl same ↦ (
        let e = event.Begin session u in
        let first = map (txn_after v asks e) (txn_numbers v) in
        let fresh : TxnState = record { session = session; statements = 0; given = []; phase = phase.Active } in
        let count = length-map-range_with_len (txn_after v asks e) 1 (length v.txns) in
        let is : txn_in (view_step v place asks e) t ≡ fresh = ap (λ o. unwrap_or o unknown_txn) (numbered_end first fresh t (omega (arith, next, same, count))) in
        let here = eq-eqb u t same in
        record {
          statements = ap (λ (x : TxnState). x.statements) is ∙ sym (on_true (u == t) 0 (txn_in v t).statements here);
          given = ap (λ (x : TxnState). x.given) is ∙ sym (on_true (u == t) [] (txn_in v t).given here);
          phase = ap (λ (x : TxnState). x.phase) is ∙ sym (on_true (u == t) phase.Active (txn_in v t).phase here);
        }
        )
    | inr other ↦ stays (event.Begin session u) t
        (none_past (event.Begin session u) t 1 refl far (λ low high. elim (le_or_not t (length v.txns)) [ inl le ↦ far (low, le) | inr not ↦ other (omega (arith, next, high, not)) ]))
        was (same_if (u == t) 0) (same_if (u == t) []) (on_false (u == t) phase.Active phase.Refused (ne_eqb u t other))
  ]

  pub unknown_at : (e : Event) (t : ℕ) → Fits v e → (IsKnown v t → ⊥) → txn_in v t ≡ unknown_txn → TxnAt v place asks e t
  unknown_at (event.Begin session u) t fits far was = begins session u t fits far was
  unknown_at (event.Submit u index stmt) t fits far was = stays (event.Submit u index stmt) t (no_more (event.Submit u index stmt) t refl far) was (on_false (u == t) (0 + 1) 0 (not_open u t fits far)) refl refl
  unknown_at (event.AskCommit u) t fits far was = stays (event.AskCommit u) t (no_more (event.AskCommit u) t refl far) was refl refl (on_false (u == t) _ phase.Refused (not_open u t fits far))
  unknown_at (event.AskRollback u) t fits far was = stays (event.AskRollback u) t (no_more (event.AskRollback u) t refl far) was refl refl (on_false (u == t) _ phase.Refused (not_open u t fits far))
  unknown_at (event.Give q told) t fits far was =
      stays (event.Give q told) t (no_more (event.Give q told) t refl far) was refl (stays_given t q told (found_in v t) [] (ap (λ (x : TxnState). x.phase) was)) refl
  unknown_at (event.Decide u) t fits far was = stays (event.Decide u) t (no_more (event.Decide u) t refl far) was refl refl (on_false (u == t) _ phase.Refused (not_open u t fits far))
  unknown_at (event.Refuse u cause) t fits far was = stays (event.Refuse u cause) t (no_more (event.Refuse u cause) t refl far) was refl refl (on_false (u == t) _ phase.Refused (not_open u t fits far))
  unknown_at (event.Take q j) t fits far was = stays (event.Take q j) t (no_more (event.Take q j) t refl far) was refl refl refl
  unknown_at (event.Restarted q count) t fits far was = stays (event.Restarted q count) t (no_more (event.Restarted q count) t refl far) was refl refl refl
  unknown_at event.Suspect t fits far was = stays event.Suspect t (no_more event.Suspect t refl far) was refl refl refl
  unknown_at (event.Convict q x) t fits far was = stays (event.Convict q x) t (no_more (event.Convict q x) t refl far) was refl refl refl
  unknown_at (event.NewPrimary q) t fits far was = stays (event.NewPrimary q) t (no_more (event.NewPrimary q) t refl far) was refl refl refl
  unknown_at (event.Preempt q u) t fits far was = stays (event.Preempt q u) t (no_more (event.Preempt q u) t refl far) was refl refl refl

module _ (v : View) (place asks : ℕ) (e : Event) (sane : IsSane v) (fits : Fits v e) where
  abbrev now : View
  now = view_step v place asks e

  pub beyond : (r : ℕ) → (IsReplica v r → ⊥) → replica_in v r ≡ idle_replica
  beyond r far = ap (λ o. unwrap_or o idle_replica) (got_none v.replicas r (omega (arith, sane.replicas, far)))

  idle_after : (r : ℕ) → (IsReplica v r → ⊥) → idle_replica ≡ replica_after v place e r
  idle_after r far =
      let here = beyond r far in
      let away = far_event v r e fits far in
      let none = no_call r v e away in
      let entries : next_dispatched r e (entries_in v r) ≡ [] = entries_stay r e (entries_in v r) away ∙ ap (λ (p : Progress). map (λ (q : ℕ × Attempt). q.0) p.attempts) here in
      let convicted = convicted_stays r e (replica_in v r).convicted away ∙ ap (λ (p : Progress). p.convicted) here in
      let out = out_stays r e (out_in v r) away ∙ ap (λ (p : Progress). p.out) here in
      sym (λ i. record {
        lost = (commits_after (none i) record { lost = (here i).lost; position = (here i).position; doubt = (here i).doubt }).lost;
        convicted = convicted i;
        position = (commits_after (none i) record { lost = (here i).lost; position = (here i).position; doubt = (here i).doubt }).position;
        doubt = (commits_after (none i) record { lost = (here i).lost; position = (here i).position; doubt = (here i).doubt }).doubt;
        out = out i;
        attempts = map (λ t. (t, attempt_after v place e r t)) (entries i);
      })

  pub replica_at : (r : ℕ) → replica_in now r ≡ replica_after v place e r
  replica_at r = by_place (le_or_not r (2 * v.f))
    where
      by_place : (IsReplica v r) ⊎ (IsReplica v r → ⊥) → replica_in now r ≡ replica_after v place e r
      by_place (inl near) = ap (λ o. unwrap_or o idle_replica) (mapped (replica_after v place e) 0 (2 * v.f + 1) r r (omega (arith, near)) (omega arith))
      by_place (inr far) =
          ap (λ o. unwrap_or o idle_replica) (got_none now.replicas r (omega (arith, length-map-range_with_len (replica_after v place e) 0 (2 * v.f + 1), far)))
          ∙ idle_after r far

  pub entries_at : (r : ℕ) → entries_in now r ≡ next_dispatched r e (entries_in v r)
  entries_at r = ap (λ (p : Progress). map (λ (q : ℕ × Attempt). q.0) p.attempts) (replica_at r) ∙ keys_of_made (attempt_after v place e r) (next_dispatched r e (entries_in v r))

  -- ---- attempts

  pub no_entry : (r t : ℕ) → has (entries_in v r) t ≡ false → attempt_in v r t ≡ no_attempt
  no_entry r t h = ap (λ o. unwrap_or o no_attempt) (lookup_absent t (replica_in v r).attempts h)

  no_run : (r t : ℕ) → has (entries_in v r) t ≡ false → (o : Option Job) → out_in v r ≡ o → runs_of t o ≡ false
  no_run r t h None d = refl
  no_run r t h (Some (job.Run u i)) d = ne_eqb t u (λ same. true_false (subst (HasEntry v r) (sym same) (sane.out r (job.Run u i) d).1) h)
  no_run r t h (Some (job.Commit u)) d = refl
  no_run r t h (Some (job.Rollback u)) d = refl
  no_run r t h (Some job.Restart) d = refl

  pub idle : (r t : ℕ) → (attempt_in v r t).touched ≡ false → IsIdle (attempt_in v r t) (wait_left v r t) (standing_left v r t)
  idle r t h =
      let is = sane.untouched r t h in
      record {
        attempt = is;
        wait = (λ i. if is_fresh v.fresh r t then filter (runs_in v r) (once (named_in (is i).last)) else named_in (is i).last) ∙ same_if (is_fresh v.fresh r t) [];
        cycle = (λ i. if is_fresh v.fresh r t then option_and_then (if_all (runs_in v r)) (cycle_in (is i).last) else cycle_in (is i).last) ∙ same_if (is_fresh v.fresh r t) None;
      }

  untouched_with : (r t : ℕ) (c : Option Call) → call_in v r e ≡ c → touched_after t c (attempt_in v r t).touched ≡ false
      → record {
        answers = answers_after t c (attempt_in v r t).answers;
        places = next_places t c place (attempt_in v r t).places;
        last = last_after v e r t c;
        touched = touched_after t c (attempt_in v r t).touched;
        preempted = next_preempted r t e c (attempt_in v r t).touched (attempt_in v r t).preempted;
      } ≡ no_attempt
  untouched_with r t None d h =
      let is = idle r t h in
      let quiet_now = (λ i. if is_fresh (fresh_after v e) r t then (is.attempt i).last else still_told (is.wait i) (is.cycle i)) ∙ same_if (is_fresh (fresh_after v e) r t) last.Answered in
      λ i. record {
        answers = (is.attempt i).answers;
        places = (is.attempt i).places;
        last = quiet_now i;
        touched = h i;
        preempted = unpreempted r t e (attempt_in v r t).touched (attempt_in v r t).preempted h (ap (λ (a : Attempt). a.preempted) is.attempt) i;
      }
  untouched_with r t (Some c) d h =
      let q = quiet t (effect_of c) (attempt_in v r t) (wait_left v r t) (standing_left v r t) (λ was. idle r t was) h in
      λ i. record {
        answers = q.answers i;
        places = q.places place i;
        last = quiet_last (is_fresh (fresh_after v e) r t) (runs_after v r c) (told_by t (effect_of c)) (next_wait t (effect_of c) (wait_left v r t)) (next_standing t (effect_of c) (standing_left v r t)) q.told q.wait q.cycle i;
        touched = h i;
        preempted = (preempted_by v r t e c (attempt_in v r t).touched (attempt_in v r t).preempted d ∙ q.preempted) i;
      }

  -- what has nothing to roll back after an event is as if it had never begun
  pub untouched_after : (r t : ℕ) → touched_after t (call_in v r e) (attempt_in v r t).touched ≡ false → attempt_after v place e r t ≡ no_attempt
  untouched_after r t h = untouched_with r t (call_in v r e) refl h

  never_begun : (r t : ℕ) → has (entries_in v r) t ≡ false → attempt_after v place e r t ≡ no_attempt
  never_begun r t none =
      let was = ap (λ (a : Attempt). a.touched) (no_entry r t none) in
      untouched_after r t (ap (touched_after t (call_in v r e)) was ∙ untouched_by t (call_in v r e) (asks_none v r t (no_run r t none (out_in v r) refl) e))

  pub attempt_at : (r t : ℕ) → attempt_in now r t ≡ attempt_after v place e r t
  attempt_at r t =
      let entries = next_dispatched r e (entries_in v r) in
      ap (λ (p : Progress). unwrap_or (lookup (nat_eq t) p.attempts) no_attempt) (replica_at r)
      ∙ ap (λ o. unwrap_or o no_attempt) (lookup_made (attempt_after v place e r) t entries)
      ∙ by_entry (has entries t) refl
    where
      by_entry : (b : Bool) → has (next_dispatched r e (entries_in v r)) t ≡ b → unwrap_or (if b then Some (attempt_after v place e r t) else None) no_attempt ≡ attempt_after v place e r t
      by_entry true d = refl
      by_entry false d = sym (never_begun r t (none_before r t e (entries_in v r) d))

  -- ---- transactions

  how_many : length (map (txn_after v asks e) (txn_numbers v)) ≡ length v.txns
  how_many = length-map-range_with_len (txn_after v asks e) 1 (length v.txns)

  txn_kept : (t : ℕ) → IsKnown v t → txn_in now t ≡ txn_after v asks e t
  txn_kept zero known = absurd (omega (arith, known.0))
  txn_kept (suc n) known =
      ap (λ o. unwrap_or o unknown_txn) (numbered_front (map (txn_after v asks e) (txn_numbers v)) (begun_by e) (suc n) (txn_after v asks e (suc n))
      (mapped (txn_after v asks e) 1 (length v.txns) n (suc n) (omega (arith, known.1)) (omega arith)))

  known_txn : (t : ℕ) → IsKnown v t → TxnAt v place asks e t
  known_txn t known =
      let is = txn_kept t known in
      record { statements = ap (λ (x : TxnState). x.statements) is; given = ap (λ (x : TxnState). x.given) is; phase = ap (λ (x : TxnState). x.phase) is }

  pub txn_at : (t : ℕ) → TxnAt v place asks e t
  txn_at t = elim (known_or_not v t) [ inl known ↦ known_txn t known | inr far ↦ unknown_at v place asks e t fits far (was_unknown v t far) ]
