-- Of a transaction that a replica was given no statement of, the replica's journal tells nothing.
use Rattle.std.proofs.Common.{◌≡◌, ℕ, Bool, true, false, not, ◌&&◌, ◌||◌, ◌==◌, if◌then◌else◌, Option, Some, None, List, [], ◌∷◌, ◌++◌, filter, option_and_then, length, refl, ap, sym, ◌∙◌}
use Rattle.std.proofs.lemmas.Bool.Decides.{Decides-eqb}
use Rattle.hr_rel.specs.declared.stmt.Stmt.{Stmt}
use Rattle.hr_engine.specs.Journal.{Call, Ran, Committed, RolledBack, Restarted, Journal}
use Rattle.hr_engine.specs.Effects.{effect_of}
use Rattle.hr_engine.specs.Attempts.{attempt, is_running}
use Rattle.hr_engine.specs.Waits.{wait, standing, if_all}
use Rattle.hr_base.specs.Lists.{has}
use Rattle.hr_engine.specs.declared.reply.RunReply.TheVariants as run
use Rattle.hr_engine.specs.declared.reply.EndReply.TheVariants as end
use Rattle.hr_history.specs.declared.entry.Event.{Event}
use Rattle.hr_history.specs.declared.entry.Event.TheVariants as event
use Rattle.hr_history.specs.declared.job.Job.{Job}
use Rattle.hr_history.specs.declared.job.Job.TheVariants as job
use Rattle.hr_history.specs.declared.job.JobReply.{JobReply}
use Rattle.hr_history.specs.declared.job.JobReply.TheVariants as reply
use Rattle.hr_history.specs.declared.phase.Fresh.{Fresh}
use Rattle.hr_history.specs.History.{History}
use Rattle.hr_history.specs.Replicas.{out_at, next_out, call_of, call_if, restart_of, restart_if, call_at, stmt_at, next_journal, journal_of}
use Rattle.hr_history.specs.Attempts.{is_touched, is_preempted, next_preempted, unless_ended, ends_attempt, places_told, next_places, dispatched, next_dispatched, and_dispatched}
use Rattle.hr_history.specs.Turn.{fresh_of, next_fresh, fresh_from}
use Rattle.hr_history.specs.View.{is_fresh}
use Rattle.hr_base.proofs.Tests.{eq_turn, if_false, if_same, or_false, and_false, has_end}

-- whether the job is to run a statement of t
abbrev pub runs_of : ℕ → Option Job → Bool
runs_of t (Some (job.Run u i)) = t == u
runs_of t _ = false

-- whether the call ran a statement of t
abbrev pub asks : ℕ → Option Call → Bool
asks t (Some (Ran u stmt told)) = t == u
asks t _ = false

-- t is none of the dispatched ones with u, so it was none of them before, and isn't u
split_dispatched : (b : Bool) (u t : ℕ) (ts : List ℕ) → has ts u ≡ b → has (if b then ts else ts ++ u ∷ []) t ≡ false → (has ts t ≡ false) × ((t == u) ≡ false)
split_dispatched true u t ts e h = (h, not_there (t == u) refl)
  where
    not_there : (b : Bool) → (t == u) ≡ b → (t == u) ≡ false
    not_there true d = cc (sym e ∙ ap (has ts) (sym ((Decides-eqb t u).0 d)) ∙ h)
    not_there false d = d
split_dispatched false u t ts e h =
    let both = or_false (has ts t) (u == t) (sym (has_end ts u t) ∙ h) in
    (both.0, eq_turn t u ∙ both.1)

dispatched_before_if : (b : Bool) (u t : ℕ) (ts : List ℕ) → has (if b then and_dispatched u ts else ts) t ≡ false → has ts t ≡ false
dispatched_before_if true u t ts h = (split_dispatched (has ts u) u t ts refl h).0
dispatched_before_if false u t ts h = h

dispatched_before : (r t : ℕ) (e : Event) (ts : List ℕ) → has (next_dispatched r e ts) t ≡ false → has ts t ≡ false
dispatched_before r t (event.Take q (job.Run u i)) ts h = dispatched_before_if (q == r) u t ts h
dispatched_before r t _ ts h = h

out_taken : (b : Bool) (u i t : ℕ) (out : Option Job) (ts : List ℕ) → has (if b then and_dispatched u ts else ts) t ≡ false → runs_of t out ≡ false → runs_of t (if b then Some (job.Run u i) else out) ≡ false
out_taken true u i t out ts h before = (split_dispatched (has ts u) u t ts refl h).1
out_taken false u i t out ts h before = before

out_other : (b : Bool) (t : ℕ) (j : Job) (out : Option Job) → runs_of t (Some j) ≡ false → runs_of t out ≡ false → runs_of t (if b then Some j else out) ≡ false
out_other true t j out e before = e
out_other false t j out e before = before

out_gone : (b : Bool) (t : ℕ) (out : Option Job) → runs_of t out ≡ false → runs_of t (if b then None else out) ≡ false
out_gone true t out before = refl
out_gone false t out before = before

out_step : (r t : ℕ) (e : Event) (out : Option Job) (ts : List ℕ) → has (next_dispatched r e ts) t ≡ false → runs_of t out ≡ false → runs_of t (next_out r e out) ≡ false
out_step r t (event.Take q (job.Run u i)) out ts h before = out_taken (q == r) u i t out ts h before
out_step r t (event.Take q (job.Commit u)) out ts h before = out_other (q == r) t (job.Commit u) out refl before
out_step r t (event.Take q (job.Rollback u)) out ts h before = out_other (q == r) t (job.Rollback u) out refl before
out_step r t (event.Take q job.Restart) out ts h before = out_other (q == r) t job.Restart out refl before
out_step r t (event.Give q told) out ts h before = out_gone (q == r) t out before
out_step r t (event.Restarted q count) out ts h before = out_gone (q == r) t out before
out_step r t _ out ts h before = before

-- so no statement of it is out
pub none_out : (r t : ℕ) (h : History) → has (dispatched r h) t ≡ false → runs_of t (out_at r h) ≡ false
none_out r t [] h = refl
none_out r t (e ∷ before) h = out_step r t e.event (out_at r before) (dispatched r before) h (none_out r t before (dispatched_before r t e.event (dispatched r before) h))

-- and none is replied to
asks_of : (t : ℕ) (out : Option Job) (told : JobReply) (stmt : ℕ → ℕ → Stmt) → runs_of t out ≡ false → asks t (call_of out told stmt) ≡ false
asks_of t (Some (job.Run u i)) (reply.Ran x) stmt h = h
asks_of t (Some (job.Commit u)) (reply.Ended x) stmt h = refl
asks_of t (Some (job.Rollback u)) (reply.Ended x) stmt h = refl
asks_of t (Some job.Restart) reply.StillLost stmt h = refl
asks_of t _ _ stmt h = refl

restart_asks : (t : ℕ) (out : Option Job) (count : ℕ) → asks t (restart_of out count) ≡ false
restart_asks t (Some job.Restart) count = refl
restart_asks t _ count = refl

asks_if : (b : Bool) (r t : ℕ) (told : JobReply) (h : History) → runs_of t (out_at r h) ≡ false → asks t (call_if b r told (λ q. out_at q h) (stmt_at h)) ≡ false
asks_if true r t told h out = asks_of t (out_at r h) told (stmt_at h) out
asks_if false r t told h out = refl

restart_asks_if : (b : Bool) (r t count : ℕ) (h : History) → asks t (restart_if b r count (λ q. out_at q h)) ≡ false
restart_asks_if true r t count h = restart_asks t (out_at r h) count
restart_asks_if false r t count h = refl

asks_none : (r t : ℕ) (e : Event) (h : History) → runs_of t (out_at r h) ≡ false → asks t (call_at r e h) ≡ false
asks_none r t (event.Give q told) h out = asks_if (q == r) r t told h out
asks_none r t (event.Restarted q count) h out = restart_asks_if (q == r) r t count h
asks_none r t _ h out = refl

-- what a journal tells of a transaction is nothing
pub record Quiet (t : ℕ) (j : Journal) : Type 0 where
  pub attempt_none : attempt t j ≡ []
  pub wait_none : wait t j ≡ []
  pub standing_none : standing t j ≡ None
  pub untouched : is_touched t j ≡ false

quiet_step : (t : ℕ) (c : Call) (j : Journal) → asks t (Some c) ≡ false → Quiet t j → Quiet t (c ∷ j)
quiet_step t (Ran u s (run.Done a)) j other q = record {
  attempt_none = if_false (t == u) _ (attempt t j) other ∙ q.attempt_none;
  wait_none = ap (filter (λ w. is_running w (Ran u s (run.Done a) ∷ j))) (if_false (t == u) [] (wait t j) other ∙ q.wait_none);
  standing_none = ap (option_and_then (if_all (λ w. is_running w (Ran u s (run.Done a) ∷ j)))) (if_false (t == u) None (standing t j) other ∙ q.standing_none);
  untouched = ap (λ b. b || is_touched t j) other ∙ q.untouched;
}
quiet_step t (Ran u s (run.Blocked named)) j other q = record {
  attempt_none = q.attempt_none;
  wait_none = ap (filter (λ w. is_running w (Ran u s (run.Blocked named) ∷ j))) (if_false (t == u) _ (wait t j) other ∙ q.wait_none);
  standing_none = ap (option_and_then (if_all (λ w. is_running w (Ran u s (run.Blocked named) ∷ j)))) (if_false (t == u) None (standing t j) other ∙ q.standing_none);
  untouched = ap (λ b. b || is_touched t j) other ∙ q.untouched;
}
quiet_step t (Ran u s (run.Deadlock cycle)) j other q = record {
  attempt_none = q.attempt_none;
  wait_none = ap (filter (λ w. is_running w (Ran u s (run.Deadlock cycle) ∷ j))) (if_false (t == u) [] (wait t j) other ∙ q.wait_none);
  standing_none = ap (option_and_then (if_all (λ w. is_running w (Ran u s (run.Deadlock cycle) ∷ j)))) (if_false (t == u) (Some cycle) (standing t j) other ∙ q.standing_none);
  untouched = ap (λ b. b || is_touched t j) other ∙ q.untouched;
}
quiet_step t (Ran u s run.Lost) j other q = record { attempt_none = refl; wait_none = refl; standing_none = refl; untouched = refl }
quiet_step t (Ran u s run.NoMemory) j other q = record {
  attempt_none = q.attempt_none;
  wait_none = ap (filter (λ w. is_running w (Ran u s run.NoMemory ∷ j))) q.wait_none;
  standing_none = ap (option_and_then (if_all (λ w. is_running w (Ran u s run.NoMemory ∷ j)))) q.standing_none;
  untouched = q.untouched;
}
quiet_step t (Committed u end.Done) j other q = record {
  attempt_none = if_same (t == u) [] (attempt t j) q.attempt_none;
  wait_none = ap (filter (λ w. is_running w (Committed u end.Done ∷ j))) (if_same (t == u) [] (wait t j) q.wait_none);
  standing_none = ap (option_and_then (if_all (λ w. is_running w (Committed u end.Done ∷ j)))) (if_same (t == u) None (standing t j) q.standing_none);
  untouched = and_false (not (t == u)) (is_touched t j) q.untouched;
}
quiet_step t (Committed u end.Lost) j other q = record { attempt_none = refl; wait_none = refl; standing_none = refl; untouched = refl }
quiet_step t (RolledBack u end.Done) j other q = record {
  attempt_none = if_same (t == u) [] (attempt t j) q.attempt_none;
  wait_none = ap (filter (λ w. is_running w (RolledBack u end.Done ∷ j))) (if_same (t == u) [] (wait t j) q.wait_none);
  standing_none = ap (option_and_then (if_all (λ w. is_running w (RolledBack u end.Done ∷ j)))) (if_same (t == u) None (standing t j) q.standing_none);
  untouched = and_false (not (t == u)) (is_touched t j) q.untouched;
}
quiet_step t (RolledBack u end.Lost) j other q = record { attempt_none = refl; wait_none = refl; standing_none = refl; untouched = refl }
quiet_step t (Restarted told) j other q = record { attempt_none = refl; wait_none = refl; standing_none = refl; untouched = refl }

quiet_more : (t : ℕ) (c : Option Call) (j : Journal) → asks t c ≡ false → Quiet t j → Quiet t (next_journal c j)
quiet_more t None j other q = q
quiet_more t (Some c) j other q = quiet_step t c j other q

pub quiet : (r t : ℕ) (h : History) → has (dispatched r h) t ≡ false → Quiet t (journal_of r h)
quiet r t [] h = record { attempt_none = refl; wait_none = refl; standing_none = refl; untouched = refl }
quiet r t (e ∷ before) h =
    let earlier = dispatched_before r t e.event (dispatched r before) h in
    quiet_more t (call_at r e.event before) (journal_of r before) (asks_none r t e.event before (none_out r t before earlier)) (quiet r t before earlier)

-- no place either
places_by : (t : ℕ) (c : Call) (place : ℕ) (places : List ℕ) → asks t (Some c) ≡ false → places ≡ [] → next_places t (Some c) place places ≡ []
places_by t (Ran u s (run.Done a)) place places other e = if_false (t == u) (places ++ place ∷ []) places other ∙ e
places_by t (Ran u s (run.Blocked named)) place places other e = e
places_by t (Ran u s (run.Deadlock cycle)) place places other e = e
places_by t (Ran u s run.Lost) place places other e = refl
places_by t (Ran u s run.NoMemory) place places other e = e
places_by t (Committed u end.Done) place places other e = if_same (t == u) [] places e
places_by t (Committed u end.Lost) place places other e = refl
places_by t (RolledBack u end.Done) place places other e = if_same (t == u) [] places e
places_by t (RolledBack u end.Lost) place places other e = refl
places_by t (Restarted told) place places other e = refl

places_step : (t : ℕ) (c : Option Call) (place : ℕ) (places : List ℕ) → asks t c ≡ false → places ≡ [] → next_places t c place places ≡ []
places_step t None place places other e = e
places_step t (Some c) place places other e = places_by t c place places other e

pub places_none : (r t : ℕ) (h : History) → has (dispatched r h) t ≡ false → places_told r t h ≡ []
places_none r t [] h = refl
places_none r t (e ∷ before) h =
    let earlier = dispatched_before r t e.event (dispatched r before) h in
    places_step t (call_at r e.event before) (length before) (places_told r t before) (asks_none r t e.event before (none_out r t before earlier)) (places_none r t before earlier)

-- nor was it preempted
unless_none : (t : ℕ) (c : Option Call) (was : Bool) → was ≡ false → unless_ended t c was ≡ false
unless_none t None was e = e
unless_none t (Some c) was e = and_false (not (ends_attempt t (effect_of c))) was e

or_none : (a b : Bool) → a ≡ false → b ≡ false → (a || b) ≡ false
or_none true b e d = cc
or_none false b e d = d

preempted_step : (r t : ℕ) (e : Event) (c : Option Call) (touched was : Bool) → touched ≡ false → was ≡ false → next_preempted r t e c touched was ≡ false
preempted_step r t (event.Preempt q u) c touched was e d = or_none ((q == r) && (u == t) && touched) was (and_false ((q == r) && (u == t)) touched e) d
preempted_step r t _ c touched was e d = unless_none t c was d

pub preempted_none : (r t : ℕ) (h : History) → has (dispatched r h) t ≡ false → is_preempted r t h ≡ false
preempted_none r t [] h = refl
preempted_none r t (e ∷ before) h =
    let earlier = dispatched_before r t e.event (dispatched r before) h in
    preempted_step r t e.event (call_at r e.event before) (is_touched t (journal_of r before)) (is_preempted r t before) ((quiet r t before earlier).untouched) (preempted_none r t before earlier)

-- nor is it the one that was just replied to
fresh_at_job : (q r t : ℕ) (out : Option Job) → ((q ≡ r) → runs_of t out ≡ false) → is_fresh (fresh_from q out) r t ≡ false
fresh_at_job q r t (Some (job.Run u i)) none = by_test (q == r) refl
  where
    by_test : (b : Bool) → (q == r) ≡ b → ((q == r) && (u == t)) ≡ false
    by_test true e = ap (λ b. b && (u == t)) e ∙ eq_turn u t ∙ none ((Decides-eqb q r).0 e)
    by_test false e = ap (λ b. b && (u == t)) e
fresh_at_job q r t _ none = refl

fresh_none_by : (r t : ℕ) (e : Event) (before : History) (fresh : Option Fresh) → runs_of t (out_at r before) ≡ false → is_fresh fresh r t ≡ false
    → is_fresh (next_fresh e (λ q. out_at q before) fresh) r t ≡ false
fresh_none_by r t (event.Give q (reply.Ran told)) before fresh none e = fresh_at_job q r t (out_at q before) (λ same. ap (λ x. runs_of t (out_at x before)) same ∙ none)
fresh_none_by r t (event.Give q (reply.Ended told)) before fresh none e = refl
fresh_none_by r t (event.Give q reply.StillLost) before fresh none e = refl
fresh_none_by r t (event.Begin session txn) before fresh none e = refl
fresh_none_by r t (event.Submit txn index stmt) before fresh none e = refl
fresh_none_by r t (event.AskCommit txn) before fresh none e = refl
fresh_none_by r t (event.AskRollback txn) before fresh none e = refl
fresh_none_by r t (event.Take q j) before fresh none e = refl
fresh_none_by r t (event.Restarted q count) before fresh none e = refl
fresh_none_by r t event.Suspect before fresh none e = refl
fresh_none_by r t _ before fresh none e = e

pub fresh_none : (r t : ℕ) (h : History) → has (dispatched r h) t ≡ false → is_fresh (fresh_of h) r t ≡ false
fresh_none r t [] h = refl
fresh_none r t (e ∷ before) h =
    let earlier = dispatched_before r t e.event (dispatched r before) h in
    fresh_none_by r t e.event before (fresh_of before) (none_out r t before earlier) (fresh_none r t before earlier)
