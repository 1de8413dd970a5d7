-- In a sane view each event changes what its word says.
use Rattle.std.proofs.Common.{◌≡◌, ℕ, zero, suc, ◌+◌, Bool, true, false, not, ◌&&◌, ◌==◌, if◌then◌else◌, Option, Some, None, unwrap_or, List, [], ◌∷◌, ◌++◌, length, map, slice_get, refl, ap, sym, ◌∙◌, arith, append-nil, IsTrue}
use Rattle.std.proofs.lemmas.Bool.{eqb-true, ne_eqb}
use Rattle.hr_base.proofs.Tests.{eq_turn}
use Rattle.hr_rel.specs.declared.answer.Answer.{Answer}
use Rattle.hr_engine.specs.declared.reply.RunReply.{RunReply}
use Rattle.hr_engine.specs.declared.reply.RunReply.TheVariants as run
use Rattle.hr_engine.specs.declared.reply.EndReply.{EndReply}
use Rattle.hr_engine.specs.declared.reply.EndReply.TheVariants as end
use Rattle.hr_history.specs.declared.entry.Event.{Event}
use Rattle.hr_history.specs.declared.entry.Event.TheVariants as event
use Rattle.hr_history.specs.declared.job.Job.{Job}
use Rattle.hr_history.specs.declared.job.Job.TheVariants as job
use Rattle.hr_history.specs.declared.job.JobReply.{JobReply}
use Rattle.hr_history.specs.declared.job.JobReply.TheVariants as reply
use Rattle.hr_history.specs.declared.evidence.Evidence.{Evidence}
use Rattle.hr_history.specs.declared.phase.Phase.{Phase}
use Rattle.hr_history.specs.declared.phase.Phase.TheVariants as phase
use Rattle.hr_history.specs.declared.phase.Last.TheVariants as last
use Rattle.hr_history.specs.ReplicaNumbers.{replica_numbers}
use Rattle.hr_history.specs.Transactions.{is_open}
use Rattle.hr_history.specs.Primary.{is_some_of, other_than, next_search_after}
use Rattle.hr_history.specs.Given.{Given, is_run_of}
use Rattle.hr_history.specs.Turn.{fresh_from}
use Rattle.hr_history.specs.View.{View, TxnState, Progress, is_fresh}
use Rattle.hr_history.specs.Processed.{txn_in, phase_in, replica_in, attempt_in, runs_in, candidate_in, unknown_txn}
use Rattle.hr_history.specs.Jobs.{txn_numbers}
use Rattle.hr_history.specs.Faithful.{fits_job, is_restart}
use Rattle.hr_history.specs.Step.{out_in, fresh_after, txn_after, begun_by, replica_after, view_step}
use Rattle.hr_rel.specs.declared.stmt.Stmt.{Stmt}
use Rattle.hr_history.specs.declared.cause.CauseAt.{CauseAt}
use Rattle.hr_records.proofs.Places.{got_within}
use Rattle.hr_moves.specs.Changes.{map_from, change_at, with_replica, with_attempts, with_attempt}
use Rattle.hr_moves.specs.Sane.{IsSane}
use Rattle.hr_moves.specs.Fits.{Fits}
use Rattle.hr_moves.specs.Moves.{free, with_job, with_answer, with_waits, ended_among, lose, commit, restart, rest_attempt, rested, is_given, with_given, with_reply, after_waits, after_no_memory, after_loss, after_commit, after_rollback, after_still_lost, after_give, view_after}
use Rattle.hr_sane.proofs.Lists.{on_false}
use Rattle.hr_sane.proofs.Elsewhere.{IsElsewhere}
use Rattle.hr_sane.proofs.Maps.{map_is, map_whole, map_twice}
use Rattle.hr_sane.proofs.ReplicaMoves.{each_replica, whole_replicas, one_replica, rests, replica_stays}
use Rattle.hr_sane.proofs.ReplyMoves.{done_here, blocked_here, deadlock_here, nothing_here, lost_here, commit_lost, rollback_lost, committed_here, rolled_back_here, still_lost_here, restarted_here, taken_here, convicted_here, preempted_here}

-- ---- transactions

module _ (v : View) where
  its : (i j : ℕ) (x : TxnState) → 1 + i ≡ j → slice_get v.txns i ≡ Some x → txn_in v j ≡ x
  its i zero x at got = absurd (omega (arith, at))
  its i (suc n) x at got = let same : n ≡ i = omega (arith, at) in ap (λ k. unwrap_or (slice_get v.txns k) unknown_txn) same ∙ ap (λ o. unwrap_or o unknown_txn) got

  whole_txns : (g : ℕ → TxnState) → ((t : ℕ) → g t ≡ txn_in v t) → map g (txn_numbers v) ≡ v.txns
  whole_txns g each = map_whole g 1 v.txns (λ i j x at got. each j ∙ its i j x at got)

  one_txn : (t : ℕ) (g : ℕ → TxnState) (change : TxnState → TxnState) → ((u : ℕ) (b : Bool) → (t == u) ≡ b → g u ≡ (if b then change (txn_in v u) else txn_in v u))
      → map g (txn_numbers v) ≡ map_from (change_at t change) 1 v.txns
  one_txn t g change each = map_is g (change_at t change) 1 v.txns (λ i j x at got. each j (t == j) refl ∙ (λ k. if eq_turn t j k then change (its i j x at got k) else its i j x at got k))

module _ (v : View) (place asks : ℕ) (sane : IsSane v) where
  abbrev Is : Event → Type 0
  Is e = view_step v place asks e ≡ view_after v place asks e

  same_txns : (e : Event) → ((t : ℕ) → txn_after v asks e t ≡ txn_in v t) → begun_by e ≡ [] → map (txn_after v asks e) (txn_numbers v) ++ begun_by e ≡ v.txns
  same_txns e each none = (λ i. whole_txns v (txn_after v asks e) each i ++ none i) ∙ append-nil v.txns

  changed_txns : (e : Event) (t : ℕ) (change : TxnState → TxnState) → ((u : ℕ) (b : Bool) → (t == u) ≡ b → txn_after v asks e u ≡ (if b then change (txn_in v u) else txn_in v u)) → begun_by e ≡ []
      → map (txn_after v asks e) (txn_numbers v) ++ begun_by e ≡ map_from (change_at t change) 1 v.txns
  changed_txns e t change each none = (λ i. one_txn v t (txn_after v asks e) change each i ++ none i) ∙ append-nil (map_from (change_at t change) 1 v.txns)

  -- where the phase is changed
  phase_by : (p : Phase) (u : ℕ) (b c : Bool) → c ≡ b
      → record { session = (txn_in v u).session; statements = (txn_in v u).statements; given = (txn_in v u).given; phase = if c then p else (txn_in v u).phase } ≡ (if b then record (txn_in v u) { phase = p } else txn_in v u)
  phase_by p u true c e = λ i. record (txn_in v u) { phase = if e i then p else (txn_in v u).phase }
  phase_by p u false c e = λ i. record (txn_in v u) { phase = if e i then p else (txn_in v u).phase }

  count_by_one : (u : ℕ) (b c : Bool) → c ≡ b
      → record { session = (txn_in v u).session; statements = if c then (txn_in v u).statements + 1 else (txn_in v u).statements; given = (txn_in v u).given; phase = (txn_in v u).phase } ≡ (if b then record (txn_in v u) { statements = (txn_in v u).statements + 1 } else txn_in v u)
  count_by_one u true c e = λ i. record (txn_in v u) { statements = if e i then (txn_in v u).statements + 1 else (txn_in v u).statements }
  count_by_one u false c e = λ i. record (txn_in v u) { statements = if e i then (txn_in v u).statements + 1 else (txn_in v u).statements }

  -- ---- replicas

  abbrev replicas_after : Event → List Progress
  replicas_after e = map (replica_after v place e) (replica_numbers v.f)

  all_rest : (e : Event) → ((q : ℕ) → IsElsewhere q e) → fresh_after v e ≡ None → replicas_after e ≡ (rested v).replicas
  all_rest e away stale = each_replica v sane (replica_after v place e) (λ q p. with_attempts (rest_attempt v q) p) (λ q. rests v place e sane q (away q) (λ t. ap (λ o. is_fresh o q t) stale))

  all_stay : (e : Event) → ((q : ℕ) → IsElsewhere q e) → fresh_after v e ≡ v.fresh → replicas_after e ≡ v.replicas
  all_stay e away fresh = whole_replicas v sane (replica_after v place e) (λ q. replica_stays v place e sane q (away q) fresh)

  -- one is changed, and the others rest, or stay
  one_of_rested : (e : Event) (r : ℕ) (change : Progress → Progress) → replica_after v place e r ≡ change (with_attempts (rest_attempt v r) (replica_in v r))
      → ((q : ℕ) → (r == q) ≡ false → IsElsewhere q e) → ((q t : ℕ) → (r == q) ≡ false → is_fresh (fresh_after v e) q t ≡ false)
      → replicas_after e ≡ (with_replica r change (rested v)).replicas
  one_of_rested e r change here away stale =
      one_replica v sane (replica_after v place e) r change (λ q p. with_attempts (rest_attempt v q) p) here
      (λ q other. let turned = eq_turn r q ∙ other in rests v place e sane q (away q turned) (λ t. stale q t turned))
      ∙ sym (map_twice (change_at r change) (λ q p. with_attempts (rest_attempt v q) p) 0 v.replicas)

  one_of_all : (e : Event) (r : ℕ) (change : Progress → Progress) → replica_after v place e r ≡ change (replica_in v r) → ((q : ℕ) → (r == q) ≡ false → IsElsewhere q e) → fresh_after v e ≡ v.fresh
      → replicas_after e ≡ (with_replica r change v).replicas
  one_of_all e r change here away fresh =
      one_replica v sane (replica_after v place e) r change (λ q p. p) here (λ q other. replica_stays v place e sane q (away q (eq_turn r q ∙ other)) fresh)

  -- ---- calls of sessions, and suspicions

  begins : (session txn : ℕ) → Fits v (event.Begin session txn) → Is (event.Begin session txn)
  begins session txn next =
      let e = event.Begin session txn in
      let old : map (txn_after v asks e) (txn_numbers v) ≡ v.txns = map_whole (txn_after v asks e) 1 v.txns (λ i j x at got. unborn i j x at got ∙ its v i j x at got) in
      λ i. record {
        f = v.f;
        log = v.log;
        txns = old i ++ record { session = session; statements = 0; given = []; phase = phase.Active } ∷ [];
        replicas = all_rest e (λ q. tt) refl i;
        primary = v.primary;
        search_after = v.search_after;
        replies = v.replies;
        fresh = None;
      }
    where
      unborn : (i j : ℕ) (x : TxnState) → 1 + i ≡ j → slice_get v.txns i ≡ Some x → txn_after v asks (event.Begin session txn) j ≡ txn_in v j
      unborn i j x at got =
          let other : (txn == j) ≡ false = ne_eqb txn j (λ same. omega (arith, next, same, at, got_within v.txns i x got)) in
          λ k. record {
            session = (txn_in v j).session;
            statements = if other k then 0 else (txn_in v j).statements;
            given = if other k then [] else (txn_in v j).given;
            phase = if other k then phase.Active else (txn_in v j).phase;
          }

  submits : (txn index : ℕ) (stmt : Stmt) → Is (event.Submit txn index stmt)
  submits txn index stmt =
      let e = event.Submit txn index stmt in
      λ i. record {
        f = v.f;
        log = v.log;
        txns = changed_txns e txn (λ x. record x { statements = x.statements + 1 }) (λ u b d. count_by_one u b (txn == u) d) refl i;
        replicas = all_rest e (λ q. tt) refl i;
        primary = v.primary;
        search_after = v.search_after;
        replies = v.replies;
        fresh = None;
      }

  asks_commit : (txn : ℕ) → Is (event.AskCommit txn)
  asks_commit txn =
      let e = event.AskCommit txn in
      λ i. record {
        f = v.f;
        log = v.log;
        txns = changed_txns e txn (λ x. record x { phase = phase.Asked (asks + 1) }) (λ u b d. phase_by (phase.Asked (asks + 1)) u b (txn == u) d) refl i;
        replicas = all_rest e (λ q. tt) refl i;
        primary = v.primary;
        search_after = v.search_after;
        replies = v.replies;
        fresh = None;
      }

  asks_rollback : (txn : ℕ) → Is (event.AskRollback txn)
  asks_rollback txn =
      let e = event.AskRollback txn in
      λ i. record {
        f = v.f;
        log = v.log;
        txns = changed_txns e txn (λ x. record x { phase = phase.RolledBack }) (λ u b d. phase_by phase.RolledBack u b (txn == u) d) refl i;
        replicas = all_rest e (λ q. tt) refl i;
        primary = v.primary;
        search_after = v.search_after;
        replies = v.replies;
        fresh = None;
      }

  suspects : Is event.Suspect
  suspects = λ i. record {
    f = v.f;
    log = v.log;
    txns = same_txns event.Suspect (λ t. refl) refl i;
    replicas = all_rest event.Suspect (λ q. tt) refl i;
    primary = None;
    search_after = next_search_after event.Suspect v.primary (candidate_in v) v.search_after;
    replies = v.replies;
    fresh = None;
  }

  -- ---- what follows from calls

  decides : (txn : ℕ) → Is (event.Decide txn)
  decides txn =
      let e = event.Decide txn in
      λ i. record {
        f = v.f;
        log = v.log ++ txn ∷ [];
        txns = changed_txns e txn (λ x. record x { phase = phase.Logged (length v.log + 1) }) (λ u b d. phase_by (phase.Logged (length v.log + 1)) u b (txn == u) d) refl i;
        replicas = all_stay e (λ q. tt) refl i;
        primary = v.primary;
        search_after = v.search_after;
        replies = v.replies;
        fresh = v.fresh;
      }

  refuses : (txn : ℕ) (cause : CauseAt) → Is (event.Refuse txn cause)
  refuses txn cause =
      let e = event.Refuse txn cause in
      λ i. record {
        f = v.f;
        log = v.log;
        txns = changed_txns e txn (λ x. record x { phase = phase.Refused }) (λ u b d. phase_by phase.Refused u b (txn == u) d) refl i;
        replicas = all_stay e (λ q. tt) refl i;
        primary = v.primary;
        search_after = v.search_after;
        replies = v.replies;
        fresh = v.fresh;
      }

  convicts : (r : ℕ) (x : Evidence) → Is (event.Convict r x)
  convicts r x = λ i. record {
    f = v.f;
    log = v.log;
    txns = same_txns (event.Convict r x) (λ t. refl) refl i;
    replicas = one_of_all (event.Convict r x) r (λ p. record p { convicted = true }) (convicted_here v place sane r x) (λ q other. other) refl i;
    primary = other_than r v.primary;
    search_after = v.search_after;
    replies = v.replies;
    fresh = v.fresh;
  }

  elects : (r : ℕ) → Is (event.NewPrimary r)
  elects r = λ i. record {
    f = v.f;
    log = v.log;
    txns = same_txns (event.NewPrimary r) (λ t. refl) refl i;
    replicas = all_stay (event.NewPrimary r) (λ q. tt) refl i;
    primary = Some r;
    search_after = r;
    replies = v.replies;
    fresh = v.fresh;
  }

  preempts : (r t : ℕ) → IsTrue (attempt_in v r t).touched → Is (event.Preempt r t)
  preempts r t touched = λ i. record {
    f = v.f;
    log = v.log;
    txns = same_txns (event.Preempt r t) (λ u. refl) refl i;
    replicas = one_of_all (event.Preempt r t) r (λ p. with_attempt t (λ a. record a { preempted = true }) p) (preempted_here v place sane r t touched) (λ q other. other) refl i;
    primary = v.primary;
    search_after = v.search_after;
    replies = v.replies;
    fresh = v.fresh;
  }

  -- ---- jobs

  takes : (r : ℕ) (j : Job) → Is (event.Take r j)
  takes r j = λ i. record {
    f = v.f;
    log = v.log;
    txns = same_txns (event.Take r j) (λ t. refl) refl i;
    replicas = one_of_rested (event.Take r j) r (with_job j) (taken_here v place sane r j) (λ q other. other) (λ q t other. refl) i;
    primary = v.primary;
    search_after = v.search_after;
    replies = v.replies;
    fresh = None;
  }

  pub restart_out : (o : Option Job) → IsTrue (is_restart o) → o ≡ Some job.Restart
  restart_out (Some job.Restart) h = refl
  restart_out (Some (job.Run t i)) h = cc h
  restart_out (Some (job.Commit t)) h = cc h
  restart_out (Some (job.Rollback t)) h = cc h
  restart_out None h = cc h

  restarts : (r count : ℕ) → IsTrue (is_restart (replica_in v r).out) → Is (event.Restarted r count)
  restarts r count fits = λ i. record {
    f = v.f;
    log = v.log;
    txns = same_txns (event.Restarted r count) (λ t. refl) refl i;
    replicas = one_of_rested (event.Restarted r count) r (restart count) (restarted_here v place sane r count (restart_out (replica_in v r).out fits)) (λ q other. other) (λ q t other. refl) i;
    primary = v.primary;
    search_after = v.search_after;
    replies = v.replies;
    fresh = None;
  }

  -- ---- replies

  pub stale_from : (r q t : ℕ) (o : Option Job) → (r == q) ≡ false → is_fresh (fresh_from r o) q t ≡ false
  stale_from r q t (Some (job.Run u i)) other = ap (λ b. b && (u == t)) other
  stale_from r q t (Some (job.Commit u)) other = refl
  stale_from r q t (Some (job.Rollback u)) other = refl
  stale_from r q t (Some job.Restart) other = refl
  stale_from r q t None other = refl

  module _ (r t n : ℕ) (out : (replica_in v r).out ≡ Some (job.Run t n)) where
    fresh_is : (told : RunReply) → fresh_after v (event.Give r (reply.Ran told)) ≡ Some record { replica = r; txn = t }
    fresh_is told = ap (fresh_from r) out

    ran_replicas : (told : RunReply) (change : Progress → Progress) → replica_after v place (event.Give r (reply.Ran told)) r ≡ change (with_attempts (rest_attempt v r) (replica_in v r))
        → replicas_after (event.Give r (reply.Ran told)) ≡ (with_replica r change (rested v)).replicas
    ran_replicas told change here = one_of_rested (event.Give r (reply.Ran told)) r change here (λ q other. other) (λ q u other. stale_from r q u (out_in v r) other)

    shuffle : (x p o : Bool) → (x && p && o) ≡ (p && o && x)
    shuffle true true true = refl
    shuffle true true false = refl
    shuffle true false o = refl
    shuffle false true true = refl
    shuffle false true false = refl
    shuffle false false o = refl

    test_by : (u : ℕ) (b : Bool) → (t == u) ≡ b → (is_run_of u (length (txn_in v u).given + 1) (Some (job.Run t n)) && is_some_of r v.primary && is_open (phase_in v u)) ≡ (b && is_given v r t n)
    test_by u true e =
        let same : u ≡ t = sym (eqb-true t u e) in
        (λ i. e i && (n == length (txn_in v u).given + 1) && is_some_of r v.primary && is_open (phase_in v u))
        ∙ (λ i. (n == length (txn_in v (same i)).given + 1) && is_some_of r v.primary && is_open (phase_in v (same i)))
        ∙ shuffle (n == length (txn_in v t).given + 1) (is_some_of r v.primary) (is_open (phase_in v t))
    test_by u false e = λ i. e i && (n == length (txn_in v u).given + 1) && is_some_of r v.primary && is_open (phase_in v u)

    module _ (answer : Answer) where
      abbrev e : Event
      e = event.Give r (reply.Ran (run.Done answer))

      abbrev g : Given
      g = record { answer = answer; stamp = length v.log }

      abbrev more : TxnState → TxnState
      more x = record x { given = x.given ++ g ∷ [] }

      given_is : (u : ℕ) (b : Bool) → (t == u) ≡ b → txn_after v asks e u ≡ record (txn_in v u) { given = if b && is_given v r t n then (txn_in v u).given ++ g ∷ [] else (txn_in v u).given }
      given_is u b d =
          let test = (λ i. is_run_of u (length (txn_in v u).given + 1) (out i) && is_some_of r v.primary && is_open (phase_in v u)) ∙ test_by u b d in
          λ i. record (txn_in v u) { given = if test i then (txn_in v u).given ++ g ∷ [] else (txn_in v u).given }

      given_if : (u : ℕ) (b : Bool) → is_given v r t n ≡ true → record (txn_in v u) { given = if b && is_given v r t n then (txn_in v u).given ++ g ∷ [] else (txn_in v u).given } ≡ (if b then more (txn_in v u) else txn_in v u)
      given_if u true h = λ i. record (txn_in v u) { given = if h i then (txn_in v u).given ++ g ∷ [] else (txn_in v u).given }
      given_if u false h = refl

      not_given : (u : ℕ) (b : Bool) → is_given v r t n ≡ false → record (txn_in v u) { given = if b && is_given v r t n then (txn_in v u).given ++ g ∷ [] else (txn_in v u).given } ≡ txn_in v u
      not_given u true h = λ i. record (txn_in v u) { given = if h i then (txn_in v u).given ++ g ∷ [] else (txn_in v u).given }
      not_given u false h = refl

      abbrev base : View
      base = with_replica r (λ p. with_attempt t (with_answer answer place) (free p)) (rested v)

      done_by : (b : Bool) → is_given v r t n ≡ b → view_step v place asks e ≡ with_reply r t (run.Done answer) (if b then with_given t answer base else base)
      done_by true h = λ i. record {
        f = v.f;
        log = v.log;
        txns = changed_txns e t more (λ u b d. given_is u b d ∙ given_if u b h) refl i;
        replicas = ran_replicas (run.Done answer) (λ p. with_attempt t (with_answer answer place) (free p)) (done_here v place sane r t n out answer) i;
        primary = v.primary;
        search_after = v.search_after;
        replies = v.replies ++ run.Done answer ∷ [];
        fresh = fresh_is (run.Done answer) i;
      }
      done_by false h = λ i. record {
        f = v.f;
        log = v.log;
        txns = same_txns e (λ u. given_is u (t == u) refl ∙ not_given u (t == u) h) refl i;
        replicas = ran_replicas (run.Done answer) (λ p. with_attempt t (with_answer answer place) (free p)) (done_here v place sane r t n out answer) i;
        primary = v.primary;
        search_after = v.search_after;
        replies = v.replies ++ run.Done answer ∷ [];
        fresh = fresh_is (run.Done answer) i;
      }

    blocked : (named : List ℕ) → view_step v place asks (event.Give r (reply.Ran (run.Blocked named))) ≡ after_waits v r t (run.Blocked named) (last.Blocked named)
    blocked named = λ i. record {
      f = v.f;
      log = v.log;
      txns = same_txns (event.Give r (reply.Ran (run.Blocked named))) (λ u. refl) refl i;
      replicas = ran_replicas (run.Blocked named) (λ p. with_attempt t (with_waits (last.Blocked named)) (free p)) (blocked_here v place sane r t n out named) i;
      primary = v.primary;
      search_after = v.search_after;
      replies = v.replies ++ run.Blocked named ∷ [];
      fresh = fresh_is (run.Blocked named) i;
    }

    deadlock : (cycle : List ℕ) → view_step v place asks (event.Give r (reply.Ran (run.Deadlock cycle))) ≡ after_waits v r t (run.Deadlock cycle) (last.Deadlock cycle)
    deadlock cycle = λ i. record {
      f = v.f;
      log = v.log;
      txns = same_txns (event.Give r (reply.Ran (run.Deadlock cycle))) (λ u. refl) refl i;
      replicas = ran_replicas (run.Deadlock cycle) (λ p. with_attempt t (with_waits (last.Deadlock cycle)) (free p)) (deadlock_here v place sane r t n out cycle) i;
      primary = v.primary;
      search_after = v.search_after;
      replies = v.replies ++ run.Deadlock cycle ∷ [];
      fresh = fresh_is (run.Deadlock cycle) i;
    }

    no_memory : view_step v place asks (event.Give r (reply.Ran run.NoMemory)) ≡ after_no_memory v r t
    no_memory = λ i. record {
      f = v.f;
      log = v.log;
      txns = same_txns (event.Give r (reply.Ran run.NoMemory)) (λ u. refl) refl i;
      replicas = ran_replicas run.NoMemory free (nothing_here v place sane r t n out) i;
      primary = v.primary;
      search_after = v.search_after;
      replies = v.replies ++ run.NoMemory ∷ [];
      fresh = fresh_is run.NoMemory i;
    }

    run_lost : view_step v place asks (event.Give r (reply.Ran run.Lost)) ≡ with_reply r t run.Lost (after_loss v r false)
    run_lost = λ i. record {
      f = v.f;
      log = v.log;
      txns = same_txns (event.Give r (reply.Ran run.Lost)) (λ u. refl) refl i;
      replicas = ran_replicas run.Lost (lose false) (lost_here v place sane r t n out (sane.out r (job.Run t n) out).0) i;
      primary = other_than r v.primary;
      search_after = v.search_after;
      replies = v.replies ++ run.Lost ∷ [];
      fresh = fresh_is run.Lost i;
    }

  -- replies to a commit and a rollback
  module _ (r t : ℕ) where
    ended_replicas : (told : EndReply) (change : Progress → Progress) → replica_after v place (event.Give r (reply.Ended told)) r ≡ change (with_attempts (rest_attempt v r) (replica_in v r))
        → replicas_after (event.Give r (reply.Ended told)) ≡ (with_replica r change (rested v)).replicas
    ended_replicas told change here = one_of_rested (event.Give r (reply.Ended told)) r change here (λ q other. other) (λ q u other. refl)

    loss : (in_doubt : Bool) → replica_after v place (event.Give r (reply.Ended end.Lost)) r ≡ lose in_doubt (with_attempts (rest_attempt v r) (replica_in v r)) → view_step v place asks (event.Give r (reply.Ended end.Lost)) ≡ after_loss v r in_doubt
    loss in_doubt here = λ i. record {
      f = v.f;
      log = v.log;
      txns = same_txns (event.Give r (reply.Ended end.Lost)) (λ u. refl) refl i;
      replicas = ended_replicas end.Lost (lose in_doubt) here i;
      primary = other_than r v.primary;
      search_after = v.search_after;
      replies = v.replies;
      fresh = None;
    }

    committed : (replica_in v r).out ≡ Some (job.Commit t) → view_step v place asks (event.Give r (reply.Ended end.Done)) ≡ after_commit v r t
    committed out = λ i. record {
      f = v.f;
      log = v.log;
      txns = same_txns (event.Give r (reply.Ended end.Done)) (λ u. refl) refl i;
      replicas = ended_replicas end.Done (λ p. with_attempts (ended_among t (runs_in v r)) (commit p)) (committed_here v place sane r t out) i;
      primary = v.primary;
      search_after = v.search_after;
      replies = v.replies;
      fresh = None;
    }

    rolled_back : (replica_in v r).out ≡ Some (job.Rollback t) → view_step v place asks (event.Give r (reply.Ended end.Done)) ≡ after_rollback v r t
    rolled_back out = λ i. record {
      f = v.f;
      log = v.log;
      txns = same_txns (event.Give r (reply.Ended end.Done)) (λ u. refl) refl i;
      replicas = ended_replicas end.Done (λ p. with_attempts (ended_among t (runs_in v r)) (free p)) (rolled_back_here v place sane r t out) i;
      primary = v.primary;
      search_after = v.search_after;
      replies = v.replies;
      fresh = None;
    }

  -- a replica that is lost isn't the primary
  other_same : (r : ℕ) → IsTrue (replica_in v r).lost → (o : Option ℕ) → v.primary ≡ o → other_than r o ≡ o
  other_same r lost None is = refl
  other_same r lost (Some m) is = on_false (r == m) None (Some m) (ne_eqb r m (λ same. live (replica_in v m).lost (not (replica_in v m).convicted) (sane.primary m is).1 (ap (λ x. (replica_in v x).lost) (sym same) ∙ lost)))
    where
      live : (b c : Bool) → (not b && c) ≡ true → b ≡ true → ⊥
      live true c h d = cc h
      live false c h d = cc d

  still_lost : (r : ℕ) → (replica_in v r).out ≡ Some job.Restart → view_step v place asks (event.Give r reply.StillLost) ≡ after_still_lost v r
  still_lost r out = λ i. record {
    f = v.f;
    log = v.log;
    txns = same_txns (event.Give r reply.StillLost) (λ u. refl) refl i;
    replicas = one_of_rested (event.Give r reply.StillLost) r free (still_lost_here v place sane r out) (λ q other. other) (λ q u other. refl) i;
    primary = other_same r (sane.out r job.Restart out) v.primary refl i;
    search_after = v.search_after;
    replies = v.replies;
    fresh = None;
  }

  replies_by : (r : ℕ) (told : JobReply) (o : Option Job) → (replica_in v r).out ≡ o → IsTrue (fits_job told o) → view_step v place asks (event.Give r told) ≡ after_give v place r o told
  replies_by r (reply.Ran (run.Done answer)) (Some (job.Run t n)) out fits = done_by r t n out answer (is_given v r t n) refl
  replies_by r (reply.Ran (run.Blocked named)) (Some (job.Run t n)) out fits = blocked r t n out named
  replies_by r (reply.Ran (run.Deadlock cycle)) (Some (job.Run t n)) out fits = deadlock r t n out cycle
  replies_by r (reply.Ran run.NoMemory) (Some (job.Run t n)) out fits = no_memory r t n out
  replies_by r (reply.Ran run.Lost) (Some (job.Run t n)) out fits = run_lost r t n out
  replies_by r (reply.Ended end.Done) (Some (job.Commit t)) out fits = committed r t out
  replies_by r (reply.Ended end.Lost) (Some (job.Commit t)) out fits = loss r t true (commit_lost v place sane r t (sane.out r (job.Commit t) out).0 out)
  replies_by r (reply.Ended end.Done) (Some (job.Rollback t)) out fits = rolled_back r t out
  replies_by r (reply.Ended end.Lost) (Some (job.Rollback t)) out fits = loss r t false (rollback_lost v place sane r t (sane.out r (job.Rollback t) out).0 out)
  replies_by r reply.StillLost (Some job.Restart) out fits = still_lost r out
  replies_by r _ _ out fits = cc fits

  pub moves : (e : Event) → Fits v e → Is e
  moves (event.Begin session txn) fits = begins session txn fits
  moves (event.Submit txn index stmt) fits = submits txn index stmt
  moves (event.AskCommit txn) fits = asks_commit txn
  moves (event.AskRollback txn) fits = asks_rollback txn
  moves (event.Take r j) fits = takes r j
  moves (event.Give r told) fits = replies_by r told (replica_in v r).out refl fits.1
  moves (event.Restarted r count) fits = restarts r count fits.1
  moves event.Suspect fits = suspects
  moves (event.Decide txn) fits = decides txn
  moves (event.Refuse txn cause) fits = refuses txn cause
  moves (event.Convict r x) fits = convicts r x
  moves (event.NewPrimary r) fits = elects r
  moves (event.Preempt r t) fits = preempts r t fits.1
