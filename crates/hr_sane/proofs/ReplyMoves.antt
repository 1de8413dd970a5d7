-- What a reply makes of its replica in a sane view.
use Rattle.std.proofs.Common.{◌≡◌, ℕ, ◌+◌, Bool, true, false, ◌==◌, if◌then◌else◌, Option, Some, None, unwrap_or, Ok, Err, List, [], ◌∷◌, ◌++◌, map, refl, ap, sym, ◌∙◌, IsTrue}
use Rattle.std.proofs.lemmas.Bool.{eqb-true, eq-eqb, or_left}
use Rattle.std.proofs.lemmas.List.{map-append}
use Rattle.hr_base.specs.Lists.{has}
use Rattle.hr_rel.specs.declared.answer.Answer.{Answer}
use Rattle.hr_engine.specs.Journal.{Call, Ran, Committed, RolledBack, Restarted}
use Rattle.hr_engine.specs.declared.reply.RunReply.{RunReply}
use Rattle.hr_engine.specs.declared.reply.RunReply.TheVariants as run
use Rattle.hr_engine.specs.declared.reply.EndReply.TheVariants as end
use Rattle.hr_history.specs.declared.entry.Event.{Event}
use Rattle.hr_history.specs.declared.entry.Event.TheVariants as event
use Rattle.hr_history.specs.declared.job.Job.{Job}
use Rattle.hr_history.specs.declared.job.Job.TheVariants as job
use Rattle.hr_history.specs.declared.job.JobReply.{JobReply}
use Rattle.hr_history.specs.declared.job.JobReply.TheVariants as reply
use Rattle.hr_history.specs.declared.evidence.Evidence.{Evidence}
use Rattle.hr_history.specs.declared.phase.Last.TheVariants as last
use Rattle.hr_history.specs.Replicas.{any_stmt, call_of, call_if, restart_of, restart_if}
use Rattle.hr_history.specs.Attempts.{next_dispatched, and_dispatched}
use Rattle.hr_history.specs.Turn.{fresh_from}
use Rattle.hr_history.specs.View.{View, Attempt, Progress, is_fresh}
use Rattle.hr_history.specs.Processed.{replica_in, attempt_in, runs_in, no_attempt}
use Rattle.hr_history.specs.Step.{Commits, commits_after, commits_in, out_in, call_in, fresh_after, attempt_after, replica_after, last_if}
use Rattle.hr_moves.specs.Changes.{change_at, with_attempts, with_attempt}
use Rattle.hr_moves.specs.Kept.{entries_in}
use Rattle.hr_moves.specs.Sane.{IsSane}
use Rattle.hr_moves.specs.Moves.{free, and_entry, with_job, with_answer, with_waits, ended_among, lose, commit, restart, rest_attempt}
use Rattle.hr_sane.proofs.Lists.{on_true, on_false, lookup_absent}
use Rattle.hr_sane.proofs.AttemptMoves.{attempt_with, none_rested, none_same, preempt_at, done_at, blocked_at, deadlock_at, nothing_at, ended_at}
use Rattle.hr_sane.proofs.ReplicaMoves.{each_attempt, whole_attempts}

module _ (v : View) (place : ℕ) (sane : IsSane v) (r : ℕ) where
  abbrev p : Progress
  p = replica_in v r

  self : (r == r) ≡ true
  self = eq-eqb r r refl

  -- ---- replies

  module _ (told : JobReply) (j : Job) (out : out_in v r ≡ Some j) where
    abbrev e : Event
    e = event.Give r told

    given_call : call_in v r e ≡ call_of (Some j) told (λ t i. any_stmt)
    given_call = ap (λ b. call_if b r told (out_in v) (λ t i. any_stmt)) self ∙ ap (λ o. call_of o told (λ t i. any_stmt)) out

    -- the commits are these after it, and the attempts are changed so
    reply_by : (c : Option Call) (s : Commits) (k : ℕ → Attempt → Attempt) → call_of (Some j) told (λ t i. any_stmt) ≡ c → commits_after c (commits_in v r) ≡ s
        → ((t : ℕ) → attempt_with v place e r t c ≡ k t (attempt_in v r t))
        → replica_after v place e r ≡ record {
          lost = s.lost;
          convicted = p.convicted;
          position = s.position;
          doubt = s.doubt;
          out = None;
          attempts = map {B = ℕ × Attempt} (λ (entry : ℕ × Attempt). (entry.0, k entry.0 entry.1)) p.attempts;
        }
    reply_by c s k is commits each =
        let call = given_call ∙ is in
        let now = (λ i. commits_after (call i) (commits_in v r)) ∙ commits in
        λ i. record {
          lost = (now i).lost;
          convicted = p.convicted;
          position = (now i).position;
          doubt = (now i).doubt;
          out = on_true (r == r) None (out_in v r) self i;
          attempts = each_attempt v sane r (attempt_after v place e r) k (λ t there. ap (attempt_with v place e r t) call ∙ each t) i;
        }

  -- two changes of attempts are one
  twice : (k l : ℕ → Attempt → Attempt) (es : List (ℕ × Attempt))
      → map {B = ℕ × Attempt} (λ (entry : ℕ × Attempt). (entry.0, k entry.0 entry.1)) (map {B = ℕ × Attempt} (λ (entry : ℕ × Attempt). (entry.0, l entry.0 entry.1)) es) ≡ map {B = ℕ × Attempt} (λ (entry : ℕ × Attempt). (entry.0, k entry.0 (l entry.0 entry.1))) es
  twice k l [] = refl
  twice k l (x ∷ es) = ap (λ xs. (x.0, k x.0 (l x.0 x.1)) ∷ xs) (twice k l es)

  -- a replica of which the attempts are changed, once and once more
  rested_twice : (k : ℕ → Attempt → Attempt) → with_attempts (λ t a. k t (rest_attempt v r t a)) p ≡ with_attempts k (with_attempts (rest_attempt v r) p)
  rested_twice k = λ i. record p { attempts = sym (twice k (rest_attempt v r) p.attempts) i }

  abbrev at_rest : Progress
  at_rest = with_attempts (rest_attempt v r) p

  cleared : (in_doubt : Bool) → lose in_doubt p ≡ lose in_doubt at_rest
  cleared in_doubt = λ i. record p { lost = true; doubt = in_doubt; out = None; attempts = sym (twice (λ u a. no_attempt) (rest_attempt v r) p.attempts) i }

  module _ (t n : ℕ) (out : out_in v r ≡ Some (job.Run t n)) where
    fresh_at : (told : RunReply) → fresh_after v (event.Give r (reply.Ran told)) ≡ Some record { replica = r; txn = t }
    fresh_at told = ap (fresh_from r) out

    pub done_here : (answer : Answer) → replica_after v place (event.Give r (reply.Ran (run.Done answer))) r ≡ with_attempt t (with_answer answer place) (free at_rest)
    done_here answer =
        reply_by (reply.Ran (run.Done answer)) (job.Run t n) out (Some (Ran t any_stmt (run.Done answer))) (commits_in v r) (λ u a. change_at t (with_answer answer place) u (rest_attempt v r u a)) refl refl (λ u. done_at v sane r u place t answer)
        ∙ ap free (rested_twice (change_at t (with_answer answer place)))

    pub blocked_here : (named : List ℕ) → replica_after v place (event.Give r (reply.Ran (run.Blocked named))) r ≡ with_attempt t (with_waits (last.Blocked named)) (free at_rest)
    blocked_here named =
        reply_by (reply.Ran (run.Blocked named)) (job.Run t n) out (Some (Ran t any_stmt (run.Blocked named))) (commits_in v r) (λ u a. change_at t (with_waits (last.Blocked named)) u (rest_attempt v r u a)) refl refl
        (λ u. blocked_at v sane r u place t named (fresh_at (run.Blocked named)))
        ∙ ap free (rested_twice (change_at t (with_waits (last.Blocked named))))

    pub deadlock_here : (cycle : List ℕ) → replica_after v place (event.Give r (reply.Ran (run.Deadlock cycle))) r ≡ with_attempt t (with_waits (last.Deadlock cycle)) (free at_rest)
    deadlock_here cycle =
        reply_by (reply.Ran (run.Deadlock cycle)) (job.Run t n) out (Some (Ran t any_stmt (run.Deadlock cycle))) (commits_in v r) (λ u a. change_at t (with_waits (last.Deadlock cycle)) u (rest_attempt v r u a)) refl refl
        (λ u. deadlock_at v sane r u place t cycle (fresh_at (run.Deadlock cycle)))
        ∙ ap free (rested_twice (change_at t (with_waits (last.Deadlock cycle))))

    pub nothing_here : replica_after v place (event.Give r (reply.Ran run.NoMemory)) r ≡ free at_rest
    nothing_here = reply_by (reply.Ran run.NoMemory) (job.Run t n) out (Some (Ran t any_stmt run.NoMemory)) (commits_in v r) (rest_attempt v r) refl refl (λ u. nothing_at v sane r u place t)

    pub lost_here : p.lost ≡ false → replica_after v place (event.Give r (reply.Ran run.Lost)) r ≡ lose false at_rest
    lost_here live =
        reply_by (reply.Ran run.Lost) (job.Run t n) out (Some (Ran t any_stmt run.Lost)) record { lost = true; position = p.position; doubt = false } (λ u a. no_attempt) refl
        (λ i. record { lost = true; position = p.position; doubt = on_false p.lost p.doubt false live i }) (λ u. by_told (is_fresh (fresh_after v (event.Give r (reply.Ran run.Lost))) r u))
        ∙ cleared false
      where
        by_told : (b : Bool) → record { answers = []; places = []; last = last_if b None last.Answered; touched = false; preempted = false } ≡ no_attempt
        by_told true = refl
        by_told false = refl

  -- a loss at an end
  loss_by : (told : JobReply) (j : Job) → out_in v r ≡ Some j → (c : Call) → call_of (Some j) told (λ t i. any_stmt) ≡ Some c → (in_doubt : Bool)
      → commits_after (Some c) (commits_in v r) ≡ record { lost = true; position = p.position; doubt = in_doubt } → ((u : ℕ) → attempt_with v place (event.Give r told) r u (Some c) ≡ no_attempt)
      → replica_after v place (event.Give r told) r ≡ lose in_doubt at_rest
  loss_by told j out c is in_doubt commits all =
      reply_by told j out (Some c) record { lost = true; position = p.position; doubt = in_doubt } (λ u a. no_attempt) is commits all ∙ cleared in_doubt

  module _ (t : ℕ) (live : p.lost ≡ false) where
    pub commit_lost : out_in v r ≡ Some (job.Commit t) → replica_after v place (event.Give r (reply.Ended end.Lost)) r ≡ lose true at_rest
    commit_lost out =
        loss_by (reply.Ended end.Lost) (job.Commit t) out (Committed t end.Lost) refl true (λ i. record { lost = true; position = p.position; doubt = on_false p.lost p.doubt true live i }) (λ u. refl)

    pub rollback_lost : out_in v r ≡ Some (job.Rollback t) → replica_after v place (event.Give r (reply.Ended end.Lost)) r ≡ lose false at_rest
    rollback_lost out =
        loss_by (reply.Ended end.Lost) (job.Rollback t) out (RolledBack t end.Lost) refl false (λ i. record { lost = true; position = p.position; doubt = on_false p.lost p.doubt false live i }) (λ u. refl)

  pub committed_here : (t : ℕ) → out_in v r ≡ Some (job.Commit t) → replica_after v place (event.Give r (reply.Ended end.Done)) r ≡ with_attempts (ended_among t (runs_in v r)) (commit at_rest)
  committed_here t out =
      reply_by (reply.Ended end.Done) (job.Commit t) out (Some (Committed t end.Done)) record { lost = p.lost; position = p.position + 1; doubt = p.doubt } (λ u a. ended_among t (runs_in v r) u (rest_attempt v r u a)) refl refl
      (λ u. ended_at v sane r u place t end.Done)
      ∙ ap commit (rested_twice (ended_among t (runs_in v r)))

  pub rolled_back_here : (t : ℕ) → out_in v r ≡ Some (job.Rollback t) → replica_after v place (event.Give r (reply.Ended end.Done)) r ≡ with_attempts (ended_among t (runs_in v r)) (free at_rest)
  rolled_back_here t out =
      reply_by (reply.Ended end.Done) (job.Rollback t) out (Some (RolledBack t end.Done)) (commits_in v r) (λ u a. ended_among t (runs_in v r) u (rest_attempt v r u a)) refl refl (λ u. ended_at v sane r u place t end.Done)
      ∙ ap free (rested_twice (ended_among t (runs_in v r)))

  -- ---- restarts, at which nothing is left to end

  rest_none : (u : ℕ) → (attempt_in v r u).touched ≡ false → no_attempt ≡ rest_attempt v r u (attempt_in v r u)
  rest_none u h = sym (ap (rest_attempt v r u) (sane.untouched r u h) ∙ none_by (is_fresh v.fresh r u))
    where
      none_by : (b : Bool) → (if b then no_attempt else no_attempt) ≡ no_attempt
      none_by true = refl
      none_by false = refl

  pub still_lost_here : out_in v r ≡ Some job.Restart → replica_after v place (event.Give r reply.StillLost) r ≡ free at_rest
  still_lost_here out =
      let lost : p.lost ≡ true = sane.out r job.Restart out in
      reply_by reply.StillLost job.Restart out (Some (Restarted (Err record {}))) (commits_in v r) (rest_attempt v r) refl
      (λ i. record { lost = sym lost i; position = p.position; doubt = on_true p.lost p.doubt false lost i }) (λ u. rest_none u (sane.stopped r u lost))

  pub restarted_here : (count : ℕ) → out_in v r ≡ Some job.Restart → replica_after v place (event.Restarted r count) r ≡ restart count at_rest
  restarted_here count out =
      let lost : p.lost ≡ true = sane.out r job.Restart out in
      let e = event.Restarted r count in
      let call : call_in v r e ≡ Some (Restarted (Ok count)) = ap (λ b. restart_if b r count (out_in v)) self ∙ ap (λ o. restart_of o count) out in
      λ i. record {
        lost = (commits_after (call i) (commits_in v r)).lost;
        convicted = p.convicted;
        position = (commits_after (call i) (commits_in v r)).position;
        doubt = (commits_after (call i) (commits_in v r)).doubt;
        out = on_true (r == r) None (out_in v r) self i;
        attempts = each_attempt v sane r (attempt_after v place e r) (rest_attempt v r) (λ t there. ap (attempt_with v place e r t) call ∙ rest_none t (sane.stopped r t lost)) i;
      }

  -- ---- a job, a conviction, a preemption

  pub keys_same : (k : ℕ → Attempt → Attempt) (es : List (ℕ × Attempt)) → map (λ (entry : ℕ × Attempt). entry.0) (map {B = ℕ × Attempt} (λ (entry : ℕ × Attempt). (entry.0, k entry.0 entry.1)) es) ≡ map (λ (entry : ℕ × Attempt). entry.0) es
  keys_same k [] = refl
  keys_same k (x ∷ es) = ap (λ ts. x.0 ∷ ts) (keys_same k es)

  module _ (j : Job) where
    abbrev take : Event
    take = event.Take r j

    old_entries : map {B = ℕ × Attempt} (λ t. (t, attempt_after v place take r t)) (entries_in v r) ≡ at_rest.attempts
    old_entries = each_attempt v sane r (attempt_after v place take r) (rest_attempt v r) (λ t there. none_rested v sane r t place take refl refl)

    new_entry : (t : ℕ) → has (entries_in v r) t ≡ false → attempt_after v place take r t ≡ no_attempt
    new_entry t none =
        let absent : attempt_in v r t ≡ no_attempt = ap (λ o. unwrap_or o no_attempt) (lookup_absent t p.attempts none) in
        none_rested v sane r t place take refl refl ∙ sym (rest_none t (ap (λ (a : Attempt). a.touched) absent))

    entries_by : (t : ℕ) (b : Bool) → has (entries_in v r) t ≡ b
        → map {B = ℕ × Attempt} (λ u. (u, attempt_after v place take r u)) (if b then entries_in v r else entries_in v r ++ t ∷ []) ≡ (if b then at_rest.attempts else at_rest.attempts ++ (t, no_attempt) ∷ [])
    entries_by t true e = old_entries
    entries_by t false e = map-append (λ u. (u, attempt_after v place take r u)) (entries_in v r) (t ∷ []) ∙ (λ i. old_entries i ++ (t, new_entry t e i) ∷ [])

    entries_with : (t : ℕ) → map {B = ℕ × Attempt} (λ u. (u, attempt_after v place take r u)) (and_dispatched t (entries_in v r)) ≡ and_entry t at_rest.attempts
    entries_with t = entries_by t (has (entries_in v r) t) refl ∙ ap (λ b. if b then at_rest.attempts else at_rest.attempts ++ (t, no_attempt) ∷ []) (ap (λ ts. has ts t) (sym (keys_same (rest_attempt v r) p.attempts)))

  taken_by : (j : Job) (es : List (ℕ × Attempt)) → map {B = ℕ × Attempt} (λ t. (t, attempt_after v place (event.Take r j) r t)) (next_dispatched r (event.Take r j) (entries_in v r)) ≡ es
      → replica_after v place (event.Take r j) r ≡ record p { attempts = es; out = Some j }
  taken_by j es is = λ i. record { lost = p.lost; convicted = p.convicted; position = p.position; doubt = p.doubt; out = on_true (r == r) (Some j) (out_in v r) self i; attempts = is i }

  pub taken_here : (j : Job) → replica_after v place (event.Take r j) r ≡ with_job j at_rest
  taken_here (job.Run t n) =
      taken_by (job.Run t n) (and_entry t at_rest.attempts)
      (ap (map {B = ℕ × Attempt} (λ u. (u, attempt_after v place (event.Take r (job.Run t n)) r u))) (on_true (r == r) (and_dispatched t (entries_in v r)) (entries_in v r) self) ∙ entries_with (job.Run t n) t)
  taken_here (job.Commit t) = taken_by (job.Commit t) at_rest.attempts (old_entries (job.Commit t))
  taken_here (job.Rollback t) = taken_by (job.Rollback t) at_rest.attempts (old_entries (job.Rollback t))
  taken_here job.Restart = taken_by job.Restart at_rest.attempts (old_entries job.Restart)

  pub convicted_here : (x : Evidence) → replica_after v place (event.Convict r x) r ≡ record p { convicted = true }
  convicted_here x = λ i. record {
    lost = p.lost;
    convicted = or_left (r == r) p.convicted self i;
    position = p.position;
    doubt = p.doubt;
    out = p.out;
    attempts = whole_attempts v sane r (attempt_after v place (event.Convict r x) r) (λ t. none_same v sane r t place (event.Convict r x) refl refl) i;
  }

  pub preempted_here : (t : ℕ) → IsTrue (attempt_in v r t).touched → replica_after v place (event.Preempt r t) r ≡ with_attempt t (λ a. record a { preempted = true }) p
  preempted_here t touched = λ i. record {
    lost = p.lost;
    convicted = p.convicted;
    position = p.position;
    doubt = p.doubt;
    out = p.out;
    attempts = each_attempt v sane r (attempt_after v place (event.Preempt r t) r) (change_at t (λ a. record a { preempted = true }))
        (λ u there. preempt_at v sane r u place t (λ same. ap (λ x. (attempt_in v r x).touched) (eqb-true u t same) ∙ touched)) i;
  }
