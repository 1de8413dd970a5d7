-- What follows in a turn stands there by its rule.
use Rattle.std.proofs.Common.{◌≡◌, inl, inr, ℕ, ◌+◌, ◌*◌, Bool, true, false, not, ◌&&◌, Option, Some, None, is_none, option_and_then, find, filter, List, [], ◌∷◌, ◌++◌, length, refl, ap, arith, IsTrue}
use Rattle.std.proofs.lemmas.Bool.{and_parts}
use Rattle.hr_base.specs.Lists.{has, last_of, when}
use Rattle.hr_base.proofs.ListLaws.{has-filter}
use Rattle.hr_engine.specs.declared.reply.RunReply.{RunReply}
use Rattle.hr_engine.specs.declared.reply.RunReply.TheVariants as run
use Rattle.hr_history.specs.declared.entry.Entry.{Entry}
use Rattle.hr_history.specs.declared.entry.Event.{Event}
use Rattle.hr_history.specs.declared.entry.Event.TheVariants as event
use Rattle.hr_history.specs.declared.cause.CauseAt.{CauseAt}
use Rattle.hr_history.specs.declared.cause.CauseAt.TheVariants as cause
use Rattle.hr_history.specs.declared.phase.Phase.{Phase}
use Rattle.hr_history.specs.declared.phase.Phase.TheVariants as phase
use Rattle.hr_history.specs.declared.phase.Fresh.{Fresh}
use Rattle.hr_history.specs.History.{History, is_call}
use Rattle.hr_history.specs.ReplicaNumbers.{replica_numbers}
use Rattle.hr_history.specs.Transactions.{is_open, is_asked}
use Rattle.hr_history.specs.Turn.{Turn, Contradiction, turn_of}
use Rattle.hr_history.specs.View.{View, view_of}
use Rattle.hr_history.specs.Processed.{phase_in, replica_in, live_in, is_primary, candidate_in, is_caught_up}
use Rattle.hr_history.specs.Votes.{is_decidable, is_contradicted, contradicted_by, difference_at}
use Rattle.hr_history.specs.Ranks.{ranks_before}
use Rattle.hr_history.specs.Jobs.{txn_numbers}
use Rattle.hr_history.specs.Preemption.{preempted_next, is_to_give_way}
use Rattle.hr_history.specs.Evidence.{evidence_of}
use Rattle.hr_history.specs.Rules.{convict_with, owed_conviction, conviction_of, convict, refuse_for, primary_gone, cause_by, refuse_after, primary_reply, decide, refuse_as_differ, differ, answer_place, new_primary, preemption_at, preempt, due_in, due}
use Rattle.hr_history.specs.Faithful.{same_event, is_allowed, is_turn_of, is_next, is_begun, Begun}
use Rattle.hr_records.specs.ByRule.{IsTxn, IsReplica, HasCause, Follows}
use Rattle.hr_records.proofs.Options.{On, on_some, when_on, first_on, then_on, map_on, first_of_on, find_has, first_by_has, has_range, has_round}
use Rattle.hr_records.proofs.SameEvents.{event_exact}

pub txn_has : (v : View) (t : ℕ) → has (txn_numbers v) t ≡ true → IsTxn v t
txn_has v t h = let r = has_range 1 (length v.txns) t h in (r.0, omega (arith, r.1))

pub replica_has : (v : View) (r : ℕ) → has (replica_numbers v.f) r ≡ true → IsReplica v r
replica_has v r h = let w = has_range 0 (2 * v.f + 1) r h in omega (arith, w.1)

pub asked_is_open : (p : Phase) → is_asked p ≡ true → is_open p ≡ true
asked_is_open phase.Active h = refl
asked_is_open (phase.Asked n) h = refl
asked_is_open (phase.Logged place) h = cc
asked_is_open phase.RolledBack h = cc
asked_is_open phase.Refused h = cc

module _ (v : View) (turn : Turn) where
  abbrev P : Event → Type 0
  P e = Follows v turn e

  by_owed : On P (owed_conviction v turn)
  by_owed = then_on P (convict_with v.primary) turn.owed (λ c owed. of_primary v.primary refl c owed)
    where
      of_primary : (o : Option ℕ) → v.primary ≡ o → (c : Contradiction) → turn.owed ≡ Some c → On P (convict_with o c)
      of_primary None e c owed = tt
      of_primary (Some p) e c owed = inr (c, owed, e, refl)

  by_evidence : On P (convict v turn)
  by_evidence = first_of_on P (conviction_of v turn) (replica_numbers v.f) (λ r there.
      then_on P (λ e. when (not (replica_in v r).convicted) (event.Convict r e)) (evidence_of v r turn) (λ e shown.
      when_on P (not (replica_in v r).convicted) (event.Convict r e) (λ un. inl (replica_has v r there, unconvicted (replica_in v r).convicted un, shown))))
    where
      unconvicted : (b : Bool) → not b ≡ true → b ≡ false
      unconvicted true h = cc
      unconvicted false h = refl

  by_gone : On P (primary_gone v turn)
  by_gone = then_on P (refuse_for v turn) turn.went (λ gone went.
      map_on P (λ t. event.Refuse t (cause.PrimaryChanged gone.from gone.why gone.at)) (find (λ t. is_open (phase_in v t)) (txn_numbers v)) (λ t found.
      ((find_has (λ u. is_open (phase_in v u)) (txn_numbers v) t found).1, went)))

  by_reply : On P (primary_reply v turn)
  by_reply = then_on P (refuse_after v turn) v.fresh (λ fresh is. of_reply fresh is (last_of v.replies) refl)
    where
      refused : (fresh : Fresh) → v.fresh ≡ Some fresh → (c : CauseAt)
          → (IsTrue (is_primary v fresh.replica) → HasCause v turn fresh.txn c)
          → On P (when (is_primary v fresh.replica && is_open (phase_in v fresh.txn)) (event.Refuse fresh.txn c))
      refused fresh is c has_cause =
          when_on P (is_primary v fresh.replica && is_open (phase_in v fresh.txn)) (event.Refuse fresh.txn c) (λ both.
          let parts = and_parts (is_primary v fresh.replica) (is_open (phase_in v fresh.txn)) both in (parts.1, has_cause parts.0))

      of_reply : (fresh : Fresh) → v.fresh ≡ Some fresh → (o : Option RunReply) → last_of v.replies ≡ o
          → On P (option_and_then (λ c. when (is_primary v fresh.replica && is_open (phase_in v fresh.txn)) (event.Refuse fresh.txn c)) (cause_by v turn o))
      of_reply fresh is None told = tt
      of_reply fresh is (Some (run.Done answer)) told = tt
      of_reply fresh is (Some (run.Blocked named)) told = tt
      of_reply fresh is (Some run.Lost) told = tt
      of_reply fresh is (Some (run.Deadlock cycle)) told =
          refused fresh is (cause.Deadlock turn.start) (λ p. (cycle, record { fresh = fresh; is_fresh = is; txn = refl; by_primary = p; told = told; place = refl }))
      of_reply fresh is (Some run.NoMemory) told =
          refused fresh is (cause.PrimaryMemory turn.start) (λ p. record { fresh = fresh; is_fresh = is; txn = refl; by_primary = p; told = told; place = refl })

  by_votes : On P (decide v turn)
  by_votes = map_on P (λ t. event.Decide t) _ (λ t first.
      let kept = has-filter (is_decidable v) (txn_numbers v) t (first_by_has (ranks_before v) (filter (is_decidable v) (txn_numbers v)) t first) in
      (txn_has v t kept.1, kept.0))

  by_contradiction : On P (differ v turn)
  by_contradiction = then_on P (refuse_as_differ v turn) _ (λ t first.
      map_on P (λ r. event.Refuse t (cause.Differ (difference_at v r t) r (answer_place v turn r t (difference_at v r t)))) (contradicted_by v t) (λ r by.
      let kept = has-filter (is_contradicted v) (txn_numbers v) t (first_by_has (ranks_before v) (filter (is_contradicted v) (txn_numbers v)) t first) in
      let asked = (and_parts _ _ kept.0).0 in
      (asked_is_open (phase_in v t) asked, (kept.0, by, refl))))

  none_of : (o : Option ℕ) → is_none o ≡ true → o ≡ None
  none_of None h = refl
  none_of (Some p) h = cc

  by_vacancy : primary_gone v turn ≡ None → On P (new_primary v turn)
  by_vacancy settled = then_on P (λ r. when (is_none v.primary && is_caught_up v r) (event.NewPrimary r)) (candidate_in v) (λ r candidate.
      when_on P (is_none v.primary && is_caught_up v r) (event.NewPrimary r) (λ both.
      let parts = and_parts (is_none v.primary) (is_caught_up v r) both in
      let found = find_has (live_in v) _ r candidate in
      record {
        replica = replica_has v r (has_round (v.search_after + 1) (replica_numbers v.f) r found.0);
        vacant = none_of v.primary parts.0;
        settled = settled;
        candidate = candidate;
        live = found.1;
        caught_up = parts.1;
      }))

  by_waits : On P (preempt v turn)
  by_waits = first_of_on P (preemption_at v turn) (replica_numbers v.f) (λ r there.
      map_on P (λ t. event.Preempt r t) (preempted_next v r) (λ t next.
      let found = find_has (λ h. live_in v r && not (is_primary v r) && is_to_give_way v r h) (txn_numbers v) t next in
      let all = and_parts (live_in v r && not (is_primary v r)) (is_to_give_way v r t) found.1 in
      let first = and_parts (live_in v r) (not (is_primary v r)) all.0 in
      record { replica = replica_has v r there; txn = txn_has v t found.0; live = first.0; secondary = secondary (is_primary v r) first.1; gives_way = all.1 }))
    where
      secondary : (b : Bool) → not b ≡ true → b ≡ false
      secondary true h = cc
      secondary false h = refl

  -- each rule, in their order
  pub due_by_rule : On P (due_in v turn)
  due_by_rule =
      first_on P (owed_conviction v turn) _ by_owed (λ a.
      first_on P (convict v turn) _ by_evidence (λ b.
      first_on P (primary_gone v turn) _ by_gone (λ settled.
      first_on P (primary_reply v turn) _ by_reply (λ c.
      first_on P (decide v turn) _ by_votes (λ d.
      first_on P (differ v turn) _ by_contradiction (λ e.
      first_on P (new_primary v turn) _ (by_vacancy settled) (λ g.
      first_on P (preempt v turn) [] by_waits (λ h. tt))))))))

no_call : (d e : Event) → same_event d e ≡ true → is_call e ≡ true → ⊥
no_call (event.Decide t) (event.Decide u) h c = cc
no_call (event.Refuse t x) (event.Refuse u y) h c = cc
no_call (event.Convict r x) (event.Convict s y) h c = cc
no_call (event.NewPrimary r) (event.NewPrimary s) h c = cc
no_call (event.Preempt r t) (event.Preempt s u) h c = cc
no_call _ _ h c = cc

not_allowed : (f s c : ℕ) (e : Event) (h : History) → is_call e ≡ false → is_allowed f s c e h ≡ true → ⊥
not_allowed f s c (event.Begin session txn) h n a = cc n
not_allowed f s c (event.Submit txn index stmt) h n a = cc n
not_allowed f s c (event.AskCommit txn) h n a = cc n
not_allowed f s c (event.AskRollback txn) h n a = cc n
not_allowed f s c (event.Take r j) h n a = cc n
not_allowed f s c (event.Give r told) h n a = cc n
not_allowed f s c (event.Restarted r count) h n a = cc n
not_allowed f s c event.Suspect h n a = cc n
not_allowed f s c (event.Decide t) h n a = cc a
not_allowed f s c (event.Refuse t x) h n a = cc a
not_allowed f s c (event.Convict r x) h n a = cc a
not_allowed f s c (event.NewPrimary r) h n a = cc a
not_allowed f s c (event.Preempt r t) h n a = cc a

follows_next : (f s : ℕ) (d : Option Event) (e : Entry) (h : History) → is_next f s d e h ≡ true → is_call e.event ≡ false → d ≡ Some e.event
follows_next f s None e h next n = absurd (not_allowed f s e.caller e.event h n next)
follows_next f s (Some d) e h next n = ap Some (event_exact d e.event (and_parts (same_event d e.event) (is_turn_of e.caller h) next).0)

call_next : (f s : ℕ) (d : Option Event) (e : Entry) (h : History) → is_next f s d e h ≡ true → is_call e.event ≡ true → d ≡ None
call_next f s None e h next call = refl
call_next f s (Some d) e h next call = absurd (no_call d e.event (and_parts (same_event d e.event) (is_turn_of e.caller h) next).0 call)

module _ (f s : ℕ) (e : Entry) (h : History) (begun : Begun f s (e ∷ h)) where
  pub begun_before : Begun f s h
  begun_before = (and_parts (is_begun f s h) _ begun).0

  pub was_due : is_call e.event ≡ false → due f h ≡ Some e.event
  was_due n = follows_next f s (due f h) e h (and_parts (is_begun f s h) _ begun).1 n

  pub by_rule : is_call e.event ≡ false → Follows (view_of f h) (turn_of h) e.event
  by_rule n = on_some (Follows (view_of f h) (turn_of h)) (due f h) e.event (was_due n) (due_by_rule (view_of f h) (turn_of h))

  pub nothing_due : is_call e.event ≡ true → due f h ≡ None
  nothing_due call = call_next f s (due f h) e h (and_parts (is_begun f s h) _ begun).1 call

pub begun_until : (f s : ℕ) (more : List Entry) (h : History) → Begun f s (more ++ h) → Begun f s h
begun_until f s [] h b = b
begun_until f s (e ∷ more) h b = begun_until f s more h (begun_before f s e (more ++ h) b)
