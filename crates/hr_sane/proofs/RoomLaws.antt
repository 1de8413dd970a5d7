-- No call needs more room than it reserves.
use Rattle.std.proofs.Common.{◌≡◌, ℕ, suc, ◌+◌, ◌<◌, ◌≤◌, Bool, true, false, not, ◌&&◌, ◌==◌, cond, if◌then◌else◌, Option, Some, None, is_some, [], length, refl, ap, sym, ◌∙◌, arith, IsTrue}
use Rattle.std.proofs.lemmas.Bool.{eqb-true, eq-eqb, ne_eqb}
use Rattle.hr_base.specs.Lists.{one_to, is_distinct}
use Rattle.hr_base.proofs.Tests.{eq_turn}
use Rattle.hr_rel.specs.declared.answer.Answer.{Answer}
use Rattle.hr_engine.specs.declared.reply.RunReply.{RunReply}
use Rattle.hr_engine.specs.declared.reply.RunReply.TheVariants as run
use Rattle.hr_engine.specs.declared.reply.EndReply.{EndReply}
use Rattle.hr_engine.specs.declared.reply.EndReply.TheVariants as end
use Rattle.hr_history.specs.declared.entry.Event.{Event}
use Rattle.hr_history.specs.declared.entry.Event.TheVariants as event
use Rattle.hr_history.specs.declared.job.Job.{Job}
use Rattle.hr_history.specs.declared.job.Job.TheVariants as job
use Rattle.hr_history.specs.declared.job.JobReply.{JobReply}
use Rattle.hr_history.specs.declared.job.JobReply.TheVariants as reply
use Rattle.hr_history.specs.declared.phase.Phase.TheVariants as phase
use Rattle.hr_history.specs.declared.phase.Last.{Last}
use Rattle.hr_history.specs.declared.phase.Last.TheVariants as last
use Rattle.hr_history.specs.History.{is_call}
use Rattle.hr_history.specs.Transactions.{is_open, next_phase}
use Rattle.hr_history.specs.Primary.{other_than}
use Rattle.hr_history.specs.View.{View, Attempt, Progress, is_fresh}
use Rattle.hr_history.specs.Processed.{phase_in, replica_in, runs_in, no_attempt}
use Rattle.hr_history.specs.Faithful.{fits_job}
use Rattle.hr_history.specs.Step.{out_in, fresh_after, begun_by, replica_after, view_step}
use Rattle.hr_moves.specs.Changes.{change_at, with_attempts, with_attempt}
use Rattle.hr_moves.specs.Sane.{IsSane, IsReplica, cut_to}
use Rattle.hr_moves.specs.Fits.{Fits}
use Rattle.hr_moves.specs.Moves.{free, with_job, with_answer, with_waits, ended_among, lose, commit, restart, rest_attempt}
use Rattle.hr_moves.specs.Measure.{may_be_preempted, room_in, reserved_by}
use Rattle.hr_sane.proofs.Lists.{on_true, on_false}
use Rattle.hr_sane.proofs.Elsewhere.{IsElsewhere}
use Rattle.hr_sane.proofs.Next.{replica_at}
use Rattle.hr_sane.proofs.ReplyMoves.{keys_same, done_here, blocked_here, deadlock_here, nothing_here, lost_here, commit_lost, rollback_lost, committed_here, rolled_back_here, still_lost_here, restarted_here, taken_here}
use Rattle.hr_sane.proofs.MoveLaws.{stale_from, restart_out}
use Rattle.hr_sane.proofs.Totals.{total, one_le, range_le, range_more}
use Rattle.hr_sane.proofs.Rooms.{todo_of, out_of, weight, vacancy, opens, weights, room_total, rest_may, change_may, todo_fewer, todo_one_more, todo_entry, weights_le, weights_at}
use Rattle.hr_sane.proofs.MeasureLaws.{vacancy_most, phase_at, count_with, opens_stay, opens_fall, away_weight, closed_by}

-- an open transaction is asked for
asked_by : (v : View) (b : Bool) (u t n : ℕ) → (u == t) ≡ b → is_open (phase_in v u) ≡ true → is_open (if b then phase.Asked n else phase_in v t) ≡ true → is_open (phase_in v t) ≡ true
asked_by v true u t n e was h = ap (λ x. is_open (phase_in v x)) (sym (eqb-true u t e)) ∙ was
asked_by v false u t n e was h = h

module _ (v : View) (place asks : ℕ) (sane : IsSane v) where
  abbrev next : Event → View
  next e = view_step v place asks e

  abbrev Fit : Event → Type 0
  Fit e = room_in (next e) + 1 ≤ room_in v + reserved_by e

  abbrev at_rest : ℕ → Progress
  at_rest r = with_attempts (rest_attempt v r) (replica_in v r)

  rest_todo : (r : ℕ) → todo_of (at_rest r) ≤ todo_of (replica_in v r)
  rest_todo r = todo_fewer (replica_in v r) (rest_attempt v r) (rest_may v r)

  -- ---- sessions, and suspicions

  all_rest : (e : Event) → Fits v e → ((q : ℕ) → IsElsewhere q e) → fresh_after v e ≡ None → weights (next e) ≤ weights v
  all_rest e fits away stale = weights_le v (next e) refl (λ q. away_weight v place asks sane e fits q (away q) (λ t. ap (λ o. is_fresh o q t) stale))

  begins : (session txn : ℕ) (fits : Fits v (event.Begin session txn)) → Fit (event.Begin session txn)
  begins session txn fits =
      let e = event.Begin session txn in
      let g : ℕ → ℕ = λ t. cond (is_open (phase_in (next e) t)) 1 0 in
      let k : ℕ → ℕ = λ t. cond (is_open (phase_in v t)) 1 0 in
      let count : length (next e).txns ≡ suc (length v.txns) = omega (arith, count_with v place asks sane e fits 1 refl) in
      let old = range_le g k 1 (length v.txns) (λ x low high. one_le (is_open (phase_in (next e) x)) (is_open (phase_in v x)) (λ h. was x high (ap is_open (sym (phase_at v place asks sane e fits x)) ∙ h))) in
      omega (
        arith,
        room_total v,
        room_total (next e),
        ap (λ n. total g (one_to n)) count,
        range_more g 1 (length v.txns),
        one_most (is_open (phase_in (next e) (1 + length v.txns))),
        old,
        all_rest e fits (λ q. tt) refl,
      )
    where
      was : (x : ℕ) → x < 1 + length v.txns → is_open (if txn == x then phase.Active else phase_in v x) ≡ true → is_open (phase_in v x) ≡ true
      was x high h = ap is_open (sym (on_false (txn == x) phase.Active (phase_in v x) (ne_eqb txn x (λ same. omega (arith, fits, same, high))))) ∙ h

      one_most : (b : Bool) → cond b 1 0 ≤ 1
      one_most true = omega arith
      one_most false = omega arith

  submits : (txn index : ℕ) (stmt : _) (fits : Fits v (event.Submit txn index stmt)) → Fit (event.Submit txn index stmt)
  submits txn index stmt fits =
      let e = event.Submit txn index stmt in
      omega (arith, room_total v, room_total (next e), opens_stay v place asks sane e fits refl (λ t h. h), all_rest e fits (λ q. tt) refl)

  asks_commit : (txn : ℕ) (fits : Fits v (event.AskCommit txn)) → Fit (event.AskCommit txn)
  asks_commit txn fits =
      let e = event.AskCommit txn in
      omega (arith, room_total v, room_total (next e), opens_stay v place asks sane e fits refl (λ t h. asked_by v (txn == t) txn t (asks + 1) refl fits h), all_rest e fits (λ q. tt) refl)

  suspects : Fit event.Suspect
  suspects = omega (arith, room_total v, room_total (next event.Suspect), opens_stay v place asks sane event.Suspect tt refl (λ t h. h), all_rest event.Suspect tt (λ q. tt) refl)

  -- ---- a replica's calls

  same_opens : (e : Event) → Fits v e → begun_by e ≡ [] → ((t : ℕ) → next_phase t e asks (length v.log) (phase_in v t) ≡ phase_in v t) → opens (next e) ≤ opens v
  same_opens e fits none same = opens_stay v place asks sane e fits none (λ t h. ap is_open (sym (same t)) ∙ h)

  job_weight : (r : ℕ) (j : Job) → todo_of (with_job j (at_rest r)) ≤ todo_of (replica_in v r)
  job_weight r (job.Run t n) = omega (arith, todo_entry (at_rest r) t, rest_todo r)
  job_weight r (job.Commit t) = rest_todo r
  job_weight r (job.Rollback t) = rest_todo r
  job_weight r job.Restart = rest_todo r

  out_with : (j : Job) (p : Progress) → out_of (with_job j p) ≡ 1
  out_with (job.Run t n) p = refl
  out_with (job.Commit t) p = refl
  out_with (job.Rollback t) p = refl
  out_with job.Restart p = refl

  takes : (r : ℕ) (j : Job) (fits : Fits v (event.Take r j)) → Fit (event.Take r j)
  takes r j fits =
      let e = event.Take r j in
      let same : replica_in (next e) r ≡ with_job j (at_rest r) = replica_at v place asks e sane fits r ∙ taken_here v place sane r j in
      let more : weight (replica_in (next e) r) + 0 ≤ weight (replica_in v r) + 2 = omega (arith, ap weight same, job_weight r j, out_with j (at_rest r)) in
      omega (
        arith,
        room_total v,
        room_total (next e),
        same_opens e fits refl (λ t. refl),
        weights_at v (next e) refl r 0 2 fits.0 more (λ q other. away_weight v place asks sane e fits q (eq_turn r q ∙ other) (λ t. refl)),
      )

  was_out : (r : ℕ) (j : Job) → (replica_in v r).out ≡ Some j → out_of (replica_in v r) ≡ 1
  was_out r j out = ap {B = ℕ} (λ o. cond (is_some o) 1 0) out

  -- the replica's part is this after its reply, in which it may be that the primary goes; all else stays
  reply_fits : (r c : ℕ) (e : Event) (p : Progress) (j : Job) → Fits v e → IsReplica v r → (replica_in v r).out ≡ Some j → begun_by e ≡ [] → ((t : ℕ) → next_phase t e asks (length v.log) (phase_in v t) ≡ phase_in v t)
      → ((q : ℕ) → (r == q) ≡ false → IsElsewhere q e) → ((q t : ℕ) → (r == q) ≡ false → is_fresh (fresh_after v e) q t ≡ false)
      → replica_after v place e r ≡ p → p.out ≡ None → todo_of p + c ≤ todo_of (replica_in v r) + 1 → vacancy (next e).primary ≤ vacancy v.primary + c → room_in (next e) + 1 ≤ room_in v
  reply_fits r c e p j fits near out none same away stale is free_ less gone =
      let now : replica_in (next e) r ≡ p = replica_at v place asks e sane fits r ∙ is in
      let here : weight (replica_in (next e) r) + (c + 1) ≤ weight (replica_in v r) + 0 = omega (arith, ap weight now, ap {B = ℕ} (λ o. cond (is_some o) 1 0) free_, was_out r j out, less) in
      omega (
        arith,
        room_total v,
        room_total (next e),
        same_opens e fits none same,
        weights_at v (next e) refl r (c + 1) 0 near here (λ q other. let turned = eq_turn r q ∙ other in away_weight v place asks sane e fits q (away q turned) (λ t. stale q t turned)),
        gone,
      )

  -- a reply to a run that was out
  ran : (r c : ℕ) (told : RunReply) (p : Progress) (j : Job) → Fits v (event.Give r (reply.Ran told)) → (replica_in v r).out ≡ Some j
      → replica_after v place (event.Give r (reply.Ran told)) r ≡ p → p.out ≡ None → todo_of p + c ≤ todo_of (replica_in v r) + 1 → vacancy (next (event.Give r (reply.Ran told))).primary ≤ vacancy v.primary + c → Fit (event.Give r (reply.Ran told))
  ran r c told p j fits out is free_ less gone =
      omega (arith, reply_fits r c (event.Give r (reply.Ran told)) p j fits fits.0 out refl (λ t. refl) (λ q other. other) (λ q t other. stale_from v place asks sane r q t (out_in v r) other) is free_ less gone)

  ended : (r c : ℕ) (told : EndReply) (p : Progress) (j : Job) → Fits v (event.Give r (reply.Ended told)) → (replica_in v r).out ≡ Some j
      → replica_after v place (event.Give r (reply.Ended told)) r ≡ p → p.out ≡ None → todo_of p + c ≤ todo_of (replica_in v r) + 1 → vacancy (next (event.Give r (reply.Ended told))).primary ≤ vacancy v.primary + c → Fit (event.Give r (reply.Ended told))
  ended r c told p j fits out is free_ less gone = omega (arith, reply_fits r c (event.Give r (reply.Ended told)) p j fits fits.0 out refl (λ t. refl) (λ q other. other) (λ q t other. refl) is free_ less gone)

  -- what the changes make of what may follow at the replica
  answer_may : (answer : Answer) (t u : ℕ) (a : Attempt) → (u == t) ≡ false → may_be_preempted (u, change_at t (with_answer answer place) u a) ≡ true → may_be_preempted (u, a) ≡ true
  answer_may answer t u a other h = ap (λ x. may_be_preempted (u, x)) (sym (on_false (u == t) (with_answer answer place a) a other)) ∙ h

  waits_may : (told : Last) (t u : ℕ) (a : Attempt) → may_be_preempted (u, change_at t (with_waits told) u a) ≡ true → may_be_preempted (u, a) ≡ true
  waits_may told t u a h = change_may t u (with_waits told) a (λ d. d) h

  ended_may : (t r u : ℕ) (a : Attempt) → may_be_preempted (u, ended_among t (runs_in v r) u a) ≡ true → may_be_preempted (u, a) ≡ true
  ended_may t r u a h = by_test (u == t) h
    where
      by_test : (b : Bool) → may_be_preempted (u, if b then no_attempt else record a { last = cut_to (λ w. not (w == t) && runs_in v r w) a.last }) ≡ true → may_be_preempted (u, a) ≡ true
      by_test true h = cc h
      by_test false h = h

  lose_less : (r : ℕ) (b : Bool) → todo_of (lose b (at_rest r)) ≤ todo_of (replica_in v r)
  lose_less r b = omega (arith, todo_fewer (at_rest r) (λ t a. no_attempt) (λ t a h. cc h), rest_todo r)

  ended_less : (t r : ℕ) (p : Progress) → todo_of p ≡ todo_of (at_rest r) → todo_of (with_attempts (ended_among t (runs_in v r)) p) ≤ todo_of (replica_in v r)
  ended_less t r p same = omega (arith, todo_fewer p (ended_among t (runs_in v r)) (ended_may t r), same, rest_todo r)

  waits_less : (told : Last) (t r : ℕ) → todo_of (with_attempt t (with_waits told) (free (at_rest r))) ≤ todo_of (replica_in v r)
  waits_less told t r = omega (arith, todo_fewer (free (at_rest r)) (change_at t (with_waits told)) (waits_may told t), rest_todo r)

  answer_less : (answer : Answer) (t r : ℕ) → todo_of (with_attempt t (with_answer answer place) (free (at_rest r))) ≤ todo_of (replica_in v r) + 1
  answer_less answer t r =
      let distinct = ap is_distinct (keys_same v place sane r (rest_attempt v r) (replica_in v r).attempts) ∙ sane.apart r in
      omega (arith, todo_one_more (free (at_rest r)) (change_at t (with_answer answer place)) t distinct (answer_may answer t), rest_todo r)

  replies : (r : ℕ) (told : JobReply) (o : Option Job) → (replica_in v r).out ≡ o → IsTrue (fits_job told o) → Fits v (event.Give r told) → Fit (event.Give r told)
  replies r (reply.Ran (run.Done answer)) (Some (job.Run t n)) out ok fits =
      ran r 0 (run.Done answer) _ (job.Run t n) fits out (done_here v place sane r t n out answer) refl (omega (arith, answer_less answer t r)) (omega arith)
  replies r (reply.Ran (run.Blocked named)) (Some (job.Run t n)) out ok fits =
      ran r 0 (run.Blocked named) _ (job.Run t n) fits out (blocked_here v place sane r t n out named) refl (omega (arith, waits_less (last.Blocked named) t r)) (omega arith)
  replies r (reply.Ran (run.Deadlock cycle)) (Some (job.Run t n)) out ok fits =
      ran r 0 (run.Deadlock cycle) _ (job.Run t n) fits out (deadlock_here v place sane r t n out cycle) refl (omega (arith, waits_less (last.Deadlock cycle) t r)) (omega arith)
  replies r (reply.Ran run.NoMemory) (Some (job.Run t n)) out ok fits = ran r 0 run.NoMemory (free (at_rest r)) (job.Run t n) fits out (nothing_here v place sane r t n out) refl (omega (arith, rest_todo r)) (omega arith)
  replies r (reply.Ran run.Lost) (Some (job.Run t n)) out ok fits =
      ran r 1 run.Lost (lose false (at_rest r)) (job.Run t n) fits out (lost_here v place sane r t n out (sane.out r (job.Run t n) out).0) refl (omega (arith, lose_less r false)) (omega (arith, vacancy_most (other_than r v.primary)))
  replies r (reply.Ended end.Done) (Some (job.Commit t)) out ok fits =
      ended r 0 end.Done _ (job.Commit t) fits out (committed_here v place sane r t out) refl (omega (arith, ended_less t r (commit (at_rest r)) refl)) (omega arith)
  replies r (reply.Ended end.Lost) (Some (job.Commit t)) out ok fits =
      ended r 1 end.Lost (lose true (at_rest r)) (job.Commit t) fits out (commit_lost v place sane r t (sane.out r (job.Commit t) out).0 out) refl (omega (arith, lose_less r true)) (omega (arith, vacancy_most (other_than r v.primary)))
  replies r (reply.Ended end.Done) (Some (job.Rollback t)) out ok fits =
      ended r 0 end.Done _ (job.Rollback t) fits out (rolled_back_here v place sane r t out) refl (omega (arith, ended_less t r (free (at_rest r)) refl)) (omega arith)
  replies r (reply.Ended end.Lost) (Some (job.Rollback t)) out ok fits =
      ended r 1 end.Lost (lose false (at_rest r)) (job.Rollback t) fits out (rollback_lost v place sane r t (sane.out r (job.Rollback t) out).0 out) refl (omega (arith, lose_less r false)) (omega (arith, vacancy_most (other_than r v.primary)))
  replies r reply.StillLost (Some job.Restart) out ok fits =
      omega (
        arith,
        reply_fits r 1 (event.Give r reply.StillLost) (free (at_rest r)) job.Restart fits fits.0 out refl (λ t. refl) (λ q other. other) (λ q t other. refl)
            (still_lost_here v place sane r out) refl (omega (arith, rest_todo r)) (omega (arith, vacancy_most (other_than r v.primary))),
      )
  replies r _ _ out ok fits = cc ok

  restarts : (r count : ℕ) → Fits v (event.Restarted r count) → Fit (event.Restarted r count)
  restarts r count fits =
      let out = restart_out v place asks sane (replica_in v r).out fits.1 in
      omega (
        arith,
        reply_fits r 0 (event.Restarted r count) (restart count (at_rest r)) job.Restart fits fits.0 out refl (λ t. refl) (λ q other. other) (λ q t other. refl)
            (restarted_here v place sane r count out) refl (omega (arith, rest_todo r)) (omega arith),
      )

  asks_rollback : (txn : ℕ) (fits : Fits v (event.AskRollback txn)) → Fit (event.AskRollback txn)
  asks_rollback txn fits =
      let e = event.AskRollback txn in
      let shut = opens_fall v place asks sane e fits txn refl fits (ap is_open (on_true (txn == txn) phase.RolledBack (phase_in v txn) (eq-eqb txn txn refl))) (λ t h. closed_by (txn == t) phase.RolledBack (phase_in v t) refl h) in
      omega (arith, room_total v, room_total (next e), shut, all_rest e fits (λ q. tt) refl)

  pub call_fits : (e : Event) → Fits v e → is_call e ≡ true → Fit e
  call_fits (event.Begin session txn) fits call = begins session txn fits
  call_fits (event.Submit txn index stmt) fits call = submits txn index stmt fits
  call_fits (event.AskCommit txn) fits call = asks_commit txn fits
  call_fits (event.AskRollback txn) fits call = asks_rollback txn fits
  call_fits (event.Take r j) fits call = takes r j fits
  call_fits (event.Give r told) fits call = replies r told (replica_in v r).out refl fits.1 fits
  call_fits (event.Restarted r count) fits call = restarts r count fits
  call_fits event.Suspect fits call = suspects
  call_fits (event.Decide txn) fits call = cc call
  call_fits (event.Refuse txn c) fits call = cc call
  call_fits (event.Convict r x) fits call = cc call
  call_fits (event.NewPrimary r) fits call = cc call
  call_fits (event.Preempt r t) fits call = cc call
