-- A transaction at a replica, one entry later.
use Rattle.std.proofs.Common.{◌≡◌, ℕ, ◌+◌, ◌*◌, ◌<◌, Bool, true, false, not, ◌&&◌, ◌||◌, ◌==◌, nat_eq, cond, if◌then◌else◌, Option, Some, None, unwrap_or, option_map, option_and_then, List, [], ◌∷◌, length, map, filter, refl, ap, sym, ◌∙◌}
use Rattle.std.specs.Map.{lookup}
use Rattle.std.proofs.lemmas.Bool.Decides.{Decides-eqb}
use Rattle.hr_engine.specs.Journal.{Call, Journal}
use Rattle.hr_engine.specs.Attempts.{RanStmt, attempt, next_attempt, answers, is_running}
use Rattle.hr_engine.specs.Effects.{effect_of}
use Rattle.hr_engine.specs.Waits.{wait, next_wait, standing, next_standing, if_all}
use Rattle.hr_base.specs.Lists.{has, is_empty, once}
use Rattle.hr_history.specs.declared.entry.Event.{Event}
use Rattle.hr_history.specs.declared.entry.Event.TheVariants as event
use Rattle.hr_history.specs.declared.job.Job.{Job}
use Rattle.hr_history.specs.declared.job.Job.TheVariants as job
use Rattle.hr_history.specs.declared.job.JobReply.{JobReply}
use Rattle.hr_history.specs.declared.job.JobReply.TheVariants as reply
use Rattle.hr_history.specs.declared.phase.Last.{Last}
use Rattle.hr_history.specs.declared.phase.Last.TheVariants as last
use Rattle.hr_history.specs.declared.phase.Fresh.{Fresh}
use Rattle.hr_history.specs.History.{History}
use Rattle.hr_history.specs.Replicas.{out_at, journal_of, next_journal, call_at, call_of, call_if, stmt_at}
use Rattle.hr_history.specs.Attempts.{is_touched, is_preempted, places_told, next_places, next_preempted, dispatched, still_told, told_by, as_told, or_still, last_told}
use Rattle.hr_history.specs.Turn.{fresh_of, next_fresh}
use Rattle.hr_history.specs.View.{Attempt, view_of, attempt_state, is_fresh}
use Rattle.hr_history.specs.Processed.{attempt_in, no_attempt, named_in, cycle_in}
use Rattle.hr_history.specs.Step.{next_answers, answers_after, touched_after, wait_left, standing_left, runs_after, last_if, last_after, fresh_after, attempt_after}
use Rattle.hr_history.proofs.StepLemmas.{replica_lookup}
use Rattle.hr_base.proofs.Tests.{eq_turn}
use Rattle.hr_history.proofs.Quiet.{quiet, places_none, preempted_none, fresh_none}
use Rattle.hr_history.proofs.WaitLaws.{wait_of_last, standing_of_last}
use Rattle.hr_history.proofs.CallWords.{Words, bare, bare_words, call_same, answers_step, answers_same, touched_same, places_same, preempted_same}

-- a look-up in entries made from a list of keys
module _ {X : Type 0} (g : ℕ → X) where
  by_key : (b : Bool) (t u : ℕ) (ts : List ℕ) → (t == u) ≡ b → lookup (nat_eq t) (map (λ v. (v, g v)) ts) ≡ (if has ts t then Some (g t) else None)
      → cond b (Some (g u)) (lookup (nat_eq t) (map (λ v. (v, g v)) ts)) ≡ (if (u == t) || has ts t then Some (g t) else None)
  by_key true t u ts e ih =
      let same : t ≡ u = (Decides-eqb t u).0 e in
      ap (λ v. Some (g v)) (sym same) ∙ ap (λ b. if b || has ts t then Some (g t) else None) (sym e ∙ eq_turn t u)
  by_key false t u ts e ih = ih ∙ ap (λ b. if b || has ts t then Some (g t) else None) (sym e ∙ eq_turn t u)

  lookup_mapped : (t : ℕ) (ts : List ℕ) → lookup (nat_eq t) (map (λ v. (v, g v)) ts) ≡ (if has ts t then Some (g t) else None)
  lookup_mapped t [] = refl
  lookup_mapped t (u ∷ ts) = by_key (t == u) t u ts refl (lookup_mapped t ts)

-- a transaction that wasn't dispatched has no attempt
nothing_known : (r t : ℕ) (h : History) → has (dispatched r h) t ≡ false → no_attempt ≡ attempt_state r (journal_of r h) h t
nothing_known r t h none =
    let q = quiet r t h none in
    let told : last_told (is_fresh (fresh_of h) r t) t (journal_of r h) ≡ last.Answered =
    ap (λ b. last_told b t (journal_of r h)) (fresh_none r t h none) ∙ (λ i. still_told (q.wait_none i) (q.standing_none i)) in
    λ i. record {
      answers = sym (ap answers q.attempt_none) i;
      places = sym (places_none r t h none) i;
      last = sym told i;
      touched = sym q.untouched i;
      preempted = sym (preempted_none r t h none) i;
    }

by_dispatched : (b : Bool) (r t : ℕ) (h : History) → has (dispatched r h) t ≡ b
    → unwrap_or (if b then Some (attempt_state r (journal_of r h) h t) else None) no_attempt ≡ attempt_state r (journal_of r h) h t
by_dispatched true r t h e = refl
by_dispatched false r t h e = nothing_known r t h e

-- the view's attempt is the history's, of every transaction
pub attempt_lookup : (f r t : ℕ) (h : History) → r < 2 * f + 1 → attempt_in (view_of f h) r t ≡ attempt_state r (journal_of r h) h t
attempt_lookup f r t h lt =
    ap (λ p. unwrap_or (lookup (nat_eq t) p.attempts) no_attempt) (replica_lookup f r h lt)
    ∙ ap (λ o. unwrap_or o no_attempt) (lookup_mapped (λ u. attempt_state r (journal_of r h) h u) t (dispatched r h))
    ∙ by_dispatched (has (dispatched r h) t) r t h refl

empty_answers : (steps : List RanStmt) → is_empty (answers steps) ≡ is_empty steps
empty_answers [] = refl
empty_answers (s ∷ steps) = refl

module _ (f r : ℕ) (h : History) (lt : r < 2 * f + 1) where
  runs_same : (u : ℕ) → not (is_empty (attempt_in (view_of f h) r u).answers) ≡ is_running u (journal_of r h)
  runs_same u = ap (λ (a : Attempt). not (is_empty a.answers)) (attempt_lookup f r u h lt) ∙ ap not (empty_answers (attempt u (journal_of r h)))

  -- the waits that are left are the journal's
  wait_same : (t : ℕ) → wait_left (view_of f h) r t ≡ wait t (journal_of r h)
  wait_same t =
      let fresh = is_fresh (fresh_of h) r t in
      (λ i. if fresh then filter (λ u. runs_same u i) (once (named_in (attempt_lookup f r t h lt i).last)) else named_in (attempt_lookup f r t h lt i).last)
      ∙ wait_of_last fresh t (journal_of r h)

  standing_same : (t : ℕ) → standing_left (view_of f h) r t ≡ standing t (journal_of r h)
  standing_same t =
      let fresh = is_fresh (fresh_of h) r t in
      (λ i. if fresh then option_and_then (if_all (λ u. runs_same u i)) (cycle_in (attempt_lookup f r t h lt i).last) else cycle_in (attempt_lookup f r t h lt i).last)
      ∙ standing_of_last fresh t (journal_of r h)

  runs_after_same : (c : Call) (u : ℕ) → runs_after (view_of f h) r (bare c) u ≡ is_running u (c ∷ journal_of r h)
  runs_after_same c u =
      ap (λ (w : Words). not (is_empty (w.answers u (attempt_in (view_of f h) r u).answers))) (bare_words c)
      ∙ ap (λ (a : Attempt). not (is_empty (next_answers u (effect_of c) a.answers))) (attempt_lookup f r u h lt)
      ∙ ap (λ xs. not (is_empty xs)) (sym (answers_step u (effect_of c) (attempt u (journal_of r h))))
      ∙ ap not (empty_answers (next_attempt u (effect_of c) (attempt u (journal_of r h))))

  -- after a call
  still_same : (c : Call) (t : ℕ)
      → still_told (filter (runs_after (view_of f h) r (bare c)) (next_wait t (effect_of (bare c)) (wait_left (view_of f h) r t)))
      (option_and_then (if_all (runs_after (view_of f h) r (bare c))) (next_standing t (effect_of (bare c)) (standing_left (view_of f h) r t)))
      ≡ still_told (wait t (c ∷ journal_of r h)) (standing t (c ∷ journal_of r h))
  still_same c t =
      let w = bare_words c in
      λ i. still_told (filter (λ u. runs_after_same c u i) ((w i).wait t (wait_same t i))) (option_and_then (if_all (λ u. runs_after_same c u i)) ((w i).standing t (standing_same t i)))

last_by : (b : Bool) (o : Option Last) (t : ℕ) (j : Journal) → as_told t j ≡ o → last_told b t j ≡ last_if b o (still_told (wait t j) (standing t j))
last_by true None t j e = ap (λ p. or_still p t j) e
last_by true (Some l) t j e = ap (λ p. or_still p t j) e
last_by false o t j e = refl

-- where an entry tells no call of r, the reply that is fresh after it was fresh before it
fresh_kept_by : (b : Bool) (q r t : ℕ) (told : JobReply) (out : Option Job) (h : History) → (q == r) ≡ b → out ≡ out_at q h → call_if b r told (λ p. out_at p h) (stmt_at h) ≡ None
    → is_fresh (next_fresh (event.Give q told) (λ p. out) None) r t ≡ true → ⊥
fresh_kept_by true q r t (reply.Ran x) (Some (job.Run u i)) h e out none fresh =
    let here : out_at r h ≡ Some (job.Run u i) = ap (λ p. out_at p h) (sym ((Decides-eqb q r).0 e)) ∙ sym out in
    cc (sym (ap (λ o. call_of o (reply.Ran x) (stmt_at h)) here) ∙ none)
fresh_kept_by false q r t (reply.Ran x) (Some (job.Run u i)) h e out none fresh = cc (sym (ap (λ b. b && (u == t)) e) ∙ fresh)
fresh_kept_by _ q r t _ _ h e out none fresh = cc

fresh_kept : (r t : ℕ) (e : Event) (h : History) (fresh : Option Fresh) → call_at r e h ≡ None → is_fresh (next_fresh e (λ q. out_at q h) fresh) r t ≡ true → is_fresh fresh r t ≡ true
fresh_kept r t (event.Give q told) h fresh none now = absurd (fresh_kept_by (q == r) q r t told (out_at q h) h refl refl none now)
fresh_kept r t (event.Begin session txn) h fresh none now = cc
fresh_kept r t (event.Submit txn index stmt) h fresh none now = cc
fresh_kept r t (event.AskCommit txn) h fresh none now = cc
fresh_kept r t (event.AskRollback txn) h fresh none now = cc
fresh_kept r t (event.Take q j) h fresh none now = cc
fresh_kept r t (event.Restarted q count) h fresh none now = cc
fresh_kept r t event.Suspect h fresh none now = cc
fresh_kept r t _ h fresh none now = now

module _ (f r : ℕ) (e : Event) (h : History) (lt : r < 2 * f + 1) (fresh_too : next_fresh e (λ q. out_at q h) (fresh_of h) ≡ fresh_after (view_of f h) e) where
  no_call_by : (b : Bool) (t : ℕ) → is_fresh (next_fresh e (λ q. out_at q h) (fresh_of h)) r t ≡ b → call_at r e h ≡ None
      → last_told b t (journal_of r h) ≡ (if b then (attempt_in (view_of f h) r t).last else still_told (wait_left (view_of f h) r t) (standing_left (view_of f h) r t))
  no_call_by true t now none =
      ap (λ b. last_told b t (journal_of r h)) (sym (fresh_kept r t e h (fresh_of h) none now)) ∙ sym (ap (λ (a : Attempt). a.last) (attempt_lookup f r t h lt))
  no_call_by false t now none = λ i. still_told (sym (wait_same f r h lt t) i) (sym (standing_same f r h lt t) i)

  last_step : (t : ℕ) (c : Option Call) → call_at r e h ≡ c
      → last_told (is_fresh (next_fresh e (λ q. out_at q h) (fresh_of h)) r t) t (next_journal c (journal_of r h)) ≡ last_after (view_of f h) e r t (option_map bare c)
  last_step t None none =
      let fresh = is_fresh (next_fresh e (λ q. out_at q h) (fresh_of h)) r t in
      no_call_by fresh t refl none
      ∙ ap (λ o. if is_fresh o r t then (attempt_in (view_of f h) r t).last else still_told (wait_left (view_of f h) r t) (standing_left (view_of f h) r t)) fresh_too
  last_step t (Some c) some =
      let fresh = is_fresh (next_fresh e (λ q. out_at q h) (fresh_of h)) r t in
      last_by fresh (told_by t (effect_of c)) t (c ∷ journal_of r h) refl
      ∙ (λ i. last_if (is_fresh (fresh_too i) r t) (sym (ap (λ (w : Words). w.told t) (bare_words c)) i) (sym (still_same f r h lt c t) i))

  -- a transaction at the replica, one entry later
  pub attempt_same : (caller t : ℕ) → attempt_state r (journal_of r (record { caller = caller; event = e } ∷ h)) (record { caller = caller; event = e } ∷ h) t ≡ attempt_after (view_of f h) (length h) e r t
  attempt_same caller t =
      let c = call_at r e h in
      let it = attempt_lookup f r t h lt in
      let call = sym (call_same f r e h lt) in
      λ i. record {
        answers = (answers_same t c (journal_of r h) ∙ (λ k. answers_after t (call k) (sym it k).answers)) i;
        places = (places_same t c (length h) (places_told r t h) ∙ (λ k. next_places t (call k) (length h) (sym it k).places)) i;
        last = (last_step t c refl ∙ (λ k. last_after (view_of f h) e r t (call k))) i;
        touched = (touched_same t c (journal_of r h) ∙ (λ k. touched_after t (call k) (sym it k).touched)) i;
        preempted = (preempted_same r t e c (is_touched t (journal_of r h)) (is_preempted r t h) ∙ (λ k. next_preempted r t e (call k) (sym it k).touched (sym it k).preempted)) i;
      }
