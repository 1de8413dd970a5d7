-- What a call makes of a transaction and of a replica doesn't depend on which statement was run.
use Rattle.std.proofs.Common.{◌≡◌, ℕ, ◌+◌, ◌*◌, ◌<◌, Bool, true, false, not, ◌&&◌, ◌==◌, if◌then◌else◌, Option, Some, None, is_some, option_map, List, [], ◌∷◌, ◌++◌, length, refl, ap, sym, ◌∙◌}
use Rattle.std.proofs.lemmas.List.{length-append, map-append}
use Rattle.hr_base.specs.Lists.{when}
use Rattle.hr_base.specs.Counters.{shown}
use Rattle.hr_rel.specs.declared.stmt.Stmt.{Stmt}
use Rattle.hr_rel.specs.declared.answer.Answer.{Answer}
use Rattle.hr_engine.specs.Journal.{Call, Ran, Committed, RolledBack, Restarted, Journal}
use Rattle.hr_engine.specs.Effects.{Effect, effect_of, next_items, Settling, settling_of}
use Rattle.hr_engine.specs.Effects as does
use Rattle.hr_engine.specs.Attempts.{RanStmt, attempt, next_attempt, answers, statements}
use Rattle.hr_engine.specs.Base as base
use Rattle.hr_engine.specs.Waits.{next_wait, next_standing}
use Rattle.hr_engine.specs.declared.reply.RunReply.TheVariants as run
use Rattle.hr_history.specs.declared.entry.Event.{Event}
use Rattle.hr_history.specs.declared.entry.Event.TheVariants as event
use Rattle.hr_history.specs.declared.job.Job.{Job}
use Rattle.hr_history.specs.declared.job.Job.TheVariants as job
use Rattle.hr_history.specs.declared.job.JobReply.{JobReply}
use Rattle.hr_history.specs.declared.job.JobReply.TheVariants as reply
use Rattle.hr_history.specs.declared.phase.Last.{Last}
use Rattle.hr_history.specs.History.{History}
use Rattle.hr_history.specs.Replicas.{any_stmt, call_of, call_if, restart_of, restart_if, call_at, stmt_at, next_journal, out_at}
use Rattle.hr_history.specs.Attempts.{is_touched, next_touched, ends_attempt, next_places, next_preempted, unless_ended, told_by}
use Rattle.hr_history.specs.View.{view_of}
use Rattle.hr_history.specs.Step.{Commits, next_answers, answers_after, touched_after, next_commits, commits_after, call_in, out_in}
use Rattle.hr_history.proofs.TxnSteps.{out_same}

abbrev pub bare : Call → Call
bare (Ran t stmt told) = Ran t any_stmt told
bare (Committed t told) = Committed t told
bare (RolledBack t told) = RolledBack t told
bare (Restarted told) = Restarted told

-- the words of a call
pub record Words : Type 0 where
  pub answers : ℕ → List Answer → List Answer
  pub places : ℕ → ℕ → List ℕ → List ℕ
  pub touched : ℕ → Bool → Bool
  pub ends : ℕ → Bool
  pub wait : ℕ → List ℕ → List ℕ
  pub standing : ℕ → Option (List ℕ) → Option (List ℕ)
  pub told : ℕ → Option Last
  pub commits : Commits → Commits

abbrev pub words : Call → Words
words c = record {
  answers = λ t xs. next_answers t (effect_of c) xs;
  places = λ t place xs. next_items t (λ stmt answer. place) (effect_of c) xs;
  touched = λ t b. next_touched t (effect_of c) b;
  ends = λ t. ends_attempt t (effect_of c);
  wait = λ t w. next_wait t (effect_of c) w;
  standing = λ t s. next_standing t (effect_of c) s;
  told = λ t. told_by t (effect_of c);
  commits = λ s. next_commits (settling_of c) s;
}

pub bare_words : (c : Call) → words (bare c) ≡ words c
bare_words (Ran t stmt (run.Done answer)) = refl
bare_words (Ran t stmt (run.Blocked named)) = refl
bare_words (Ran t stmt (run.Deadlock cycle)) = refl
bare_words (Ran t stmt run.Lost) = refl
bare_words (Ran t stmt run.NoMemory) = refl
bare_words (Committed t told) = refl
bare_words (RolledBack t told) = refl
bare_words (Restarted told) = refl

-- the view's call is the history's, but for the statement
bare_of : (out : Option Job) (told : JobReply) (stmt : ℕ → ℕ → Stmt) → call_of out told (λ t i. any_stmt) ≡ option_map bare (call_of out told stmt)
bare_of (Some (job.Run t i)) (reply.Ran x) stmt = refl
bare_of (Some (job.Commit t)) (reply.Ended x) stmt = refl
bare_of (Some (job.Rollback t)) (reply.Ended x) stmt = refl
bare_of (Some job.Restart) reply.StillLost stmt = refl
bare_of _ _ stmt = refl

bare_restart : (out : Option Job) (count : ℕ) → restart_of out count ≡ option_map bare (restart_of out count)
bare_restart (Some job.Restart) count = refl
bare_restart _ count = refl

bare_if : (b : Bool) (f r : ℕ) (told : JobReply) (h : History) → out_at r h ≡ out_in (view_of f h) r
    → call_if b r told (out_in (view_of f h)) (λ t i. any_stmt) ≡ option_map bare (call_if b r told (λ q. out_at q h) (stmt_at h))
bare_if true f r told h e = ap (λ o. call_of o told (λ t i. any_stmt)) (sym e) ∙ bare_of (out_at r h) told (stmt_at h)
bare_if false f r told h e = refl

bare_restart_if : (b : Bool) (f r count : ℕ) (h : History) → out_at r h ≡ out_in (view_of f h) r
    → restart_if b r count (out_in (view_of f h)) ≡ option_map bare (restart_if b r count (λ q. out_at q h))
bare_restart_if true f r count h e = ap (λ o. restart_of o count) (sym e) ∙ bare_restart (out_at r h) count
bare_restart_if false f r count h e = refl

call_by : (f r : ℕ) (e : Event) (h : History) → out_at r h ≡ out_in (view_of f h) r → call_in (view_of f h) r e ≡ option_map bare (call_at r e h)
call_by f r (event.Give q told) h same = bare_if (q == r) f r told h same
call_by f r (event.Restarted q count) h same = bare_restart_if (q == r) f r count h same
call_by f r _ h same = refl

pub call_same : (f r : ℕ) (e : Event) (h : History) → r < 2 * f + 1 → call_in (view_of f h) r e ≡ option_map bare (call_at r e h)
call_same f r e h lt = call_by f r e h (out_same f r h lt)

-- the answers of the attempt
answers_more : (b : Bool) (s : RanStmt) (steps : List RanStmt) → answers (if b then steps ++ s ∷ [] else steps) ≡ (if b then answers steps ++ s.answer ∷ [] else answers steps)
answers_more true s steps = map-append _ steps (s ∷ [])
answers_more false s steps = refl

answers_none : (b : Bool) (steps : List RanStmt) → answers (if b then [] else steps) ≡ (if b then [] else answers steps)
answers_none true steps = refl
answers_none false steps = refl

pub answers_step : (t : ℕ) (effect : Effect) (steps : List RanStmt) → answers (next_attempt t effect steps) ≡ next_answers t effect (answers steps)
answers_step t (does.Runs u s a) steps = answers_more (t == u) record { stmt = s; answer = a } steps
answers_step t (does.Waits u named) steps = refl
answers_step t (does.Closes u cycle) steps = refl
answers_step t (does.Ends u) steps = answers_none (t == u) steps
answers_step t does.EndsAll steps = refl
answers_step t does.Nothing steps = refl

pub answers_same : (t : ℕ) (c : Option Call) (j : Journal) → answers (attempt t (next_journal c j)) ≡ answers_after t (option_map bare c) (answers (attempt t j))
answers_same t None j = refl
answers_same t (Some c) j = answers_step t (effect_of c) (attempt t j) ∙ sym (ap (λ (w : Words). w.answers t (answers (attempt t j))) (bare_words c))

pub touched_same : (t : ℕ) (c : Option Call) (j : Journal) → is_touched t (next_journal c j) ≡ touched_after t (option_map bare c) (is_touched t j)
touched_same t None j = refl
touched_same t (Some c) j = sym (ap (λ (w : Words). w.touched t (is_touched t j)) (bare_words c))

pub places_same : (t : ℕ) (c : Option Call) (place : ℕ) (places : List ℕ) → next_places t c place places ≡ next_places t (option_map bare c) place places
places_same t None place places = refl
places_same t (Some c) place places = sym (ap (λ (w : Words). w.places t place places) (bare_words c))

unless_same : (t : ℕ) (c : Option Call) (was : Bool) → unless_ended t c was ≡ unless_ended t (option_map bare c) was
unless_same t None was = refl
unless_same t (Some c) was = sym (ap (λ (w : Words). not (w.ends t) && was) (bare_words c))

pub preempted_same : (r t : ℕ) (e : Event) (c : Option Call) (touched was : Bool) → next_preempted r t e c touched was ≡ next_preempted r t e (option_map bare c) touched was
preempted_same r t (event.Preempt q u) c touched was = refl
preempted_same r t _ c touched was = unless_same t c was

-- what is settled
abbrev pub seen_commits : base.Settled → Commits
seen_commits s = record { lost = s.lost; position = length s.commits; doubt = is_some s.doubt }

some_if : (b : Bool) (x y : Option (List Stmt)) → is_some (if b then x else y) ≡ (if b then is_some x else is_some y)
some_if true x y = refl
some_if false x y = refl

some_when : (b : Bool) (stmts : List Stmt) → is_some (when b stmts) ≡ b
some_when true stmts = refl
some_when false stmts = refl

more_if : (b : Bool) (xs : List Stmt) (commits : List (List Stmt)) → length (if b then commits ++ xs ∷ [] else commits) ≡ (if b then length commits + 1 else length commits)
more_if true xs commits = length-append commits (xs ∷ [])
more_if false xs commits = refl

doubt_counts : (told : ℕ) (doubt : Option (List Stmt)) (commits : List (List Stmt))
    → length (base.with_doubt told doubt commits) ≡ (if is_some doubt && (told == shown (length commits + 1)) then length commits + 1 else length commits)
doubt_counts told None commits = refl
doubt_counts told (Some xs) commits = more_if (told == shown (length commits + 1)) xs commits

commits_step : (settling : Settling) (stmts : List Stmt) (s : base.Settled) → seen_commits (base.next_settled settling stmts s) ≡ next_commits settling (seen_commits s)
commits_step does.Counts stmts s = λ i. record { lost = s.lost; position = length-append s.commits (stmts ∷ []) i; doubt = is_some s.doubt }
commits_step (does.Loses at_commit) stmts s =
    λ i. record { lost = true; position = length s.commits; doubt = (some_if s.lost s.doubt (when at_commit stmts) ∙ ap (λ b. if s.lost then is_some s.doubt else b) (some_when at_commit stmts)) i }
commits_step (does.Tells told) stmts s = λ i. record { lost = false; position = doubt_counts told s.doubt s.commits i; doubt = false }
commits_step does.Keeps stmts s = refl

pub commits_same : (c : Option Call) (j : Journal) → seen_commits (base.settled (next_journal c j)) ≡ commits_after (option_map bare c) (seen_commits (base.settled j))
commits_same None j = refl
commits_same (Some c) j =
    commits_step (settling_of c) (statements (base.attempt_at c j)) (base.settled j) ∙ sym (ap (λ (w : Words). w.commits (seen_commits (base.settled j))) (bare_words c))
