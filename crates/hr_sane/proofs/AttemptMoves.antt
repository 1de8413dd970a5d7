-- What each event makes of one attempt in a sane view.
use Rattle.std.proofs.Common.{◌≡◌, ℕ, Bool, true, false, not, ◌&&◌, ◌||◌, ◌==◌, cond, if◌then◌else◌, Option, Some, None, option_and_then, List, [], ◌∷◌, ◌++◌, filter, refl, ap, sym, ◌∙◌, IsTrue}
use Rattle.std.specs.List.{list_all}
use Rattle.std.proofs.lemmas.Bool.{and_parts, and_from, eq-eqb, or_left}
use Rattle.hr_rel.specs.declared.answer.Answer.{Answer}
use Rattle.hr_base.specs.Lists.{is_empty, once}
use Rattle.hr_base.proofs.Tests.{eq_turn}
use Rattle.hr_engine.specs.Journal.{Call, Ran, Committed}
use Rattle.hr_engine.specs.Waits.{if_all}
use Rattle.hr_engine.specs.declared.reply.RunReply.TheVariants as run
use Rattle.hr_engine.specs.declared.reply.EndReply.{EndReply}
use Rattle.hr_engine.specs.declared.reply.EndReply.TheVariants as end
use Rattle.hr_history.specs.declared.entry.Event.{Event}
use Rattle.hr_history.specs.declared.entry.Event.TheVariants as event
use Rattle.hr_history.specs.declared.job.JobReply.TheVariants as reply
use Rattle.hr_history.specs.declared.phase.Last.{Last}
use Rattle.hr_history.specs.declared.phase.Last.TheVariants as last
use Rattle.hr_history.specs.declared.phase.Fresh.{Fresh}
use Rattle.hr_history.specs.Replicas.{any_stmt}
use Rattle.hr_history.specs.Attempts.{next_places, next_preempted, still_told}
use Rattle.hr_history.specs.View.{View, Attempt, is_fresh}
use Rattle.hr_history.specs.Processed.{attempt_in, runs_in, no_attempt, named_in, cycle_in}
use Rattle.hr_history.specs.Step.{answers_after, touched_after, last_if, last_after, fresh_after, wait_left, standing_left, runs_after}
use Rattle.hr_moves.specs.Changes.{change_at}
use Rattle.hr_moves.specs.Sane.{IsSane, cut_to}
use Rattle.hr_moves.specs.Moves.{with_answer, with_waits, ended_among, rest_attempt}
use Rattle.hr_sane.proofs.Lists.{on_true}
use Rattle.hr_sane.proofs.Cuts.{apart_cut, apart_last, named_still, cycle_still, once_cut, wait_is, cycle_is, left_is_cut}

-- ---- who passes a test passes a wider one

module _ (p q : ℕ → Bool) (wider : (u : ℕ) → p u ≡ true → q u ≡ true) where
  head_wider : (b : Bool) (x : ℕ) (xs : List ℕ) → p x ≡ b → filter q (filter p xs) ≡ filter p xs → filter q (cond b (x ∷ filter p xs) (filter p xs)) ≡ cond b (x ∷ filter p xs) (filter p xs)
  head_wider true x xs e ih = ap (λ b. cond b (x ∷ filter q (filter p xs)) (filter q (filter p xs))) (wider x e) ∙ ap (λ ys. x ∷ ys) ih
  head_wider false x xs e ih = ih

  filter_wider : (xs : List ℕ) → filter q (filter p xs) ≡ filter p xs
  filter_wider [] = refl
  filter_wider (x ∷ xs) = head_wider (p x) x xs refl (filter_wider xs)

  all_wider : (xs : List ℕ) → list_all p xs ≡ true → list_all q xs ≡ true
  all_wider [] h = refl
  all_wider (x ∷ xs) h = let both = and_parts (p x) (list_all p xs) h in and_from (q x) (list_all q xs) (wider x both.0) (all_wider xs both.1)

  list_wider : (b : Bool) (xs : List ℕ) → list_all p xs ≡ b → option_and_then (if_all q) (if b then Some xs else None) ≡ (if b then Some xs else None)
  list_wider true xs e = on_true (list_all q xs) (Some xs) None (all_wider xs e)
  list_wider false xs e = refl

  if_all_wider : (o : Option (List ℕ)) → option_and_then (if_all q) (option_and_then (if_all p) o) ≡ option_and_then (if_all p) o
  if_all_wider None = refl
  if_all_wider (Some xs) = list_wider (list_all p xs) xs refl

last_untold : (b : Bool) (still : Last) → last_if b None still ≡ still
last_untold true still = refl
last_untold false still = refl

module _ (v : View) (place : ℕ) (e : Event) where
  -- one attempt after this call, if any
  abbrev pub attempt_with : ℕ → ℕ → Option Call → Attempt
  attempt_with r t c = record {
    answers = answers_after t c (attempt_in v r t).answers;
    places = next_places t c place (attempt_in v r t).places;
    last = last_after v e r t c;
    touched = touched_after t c (attempt_in v r t).touched;
    preempted = next_preempted r t e c (attempt_in v r t).touched (attempt_in v r t).preempted;
  }

module _ (v : View) (sane : IsSane v) (r u : ℕ) where
  abbrev a : Attempt
  a = attempt_in v r u

  abbrev cut : Last
  cut = cut_to (runs_in v r) a.last

  rest_by : (b : Bool) → is_fresh v.fresh r u ≡ b → record a { last = cut } ≡ (if b then record a { last = cut } else a)
  rest_by true e = refl
  rest_by false e = λ i. record a { last = sym (sane.cut r u e) i }

  -- in a sane view only the turn's reply is cut
  pub rest_is : record a { last = cut } ≡ rest_attempt v r u a
  rest_is = rest_by (is_fresh v.fresh r u) refl

  -- ---- no call

  pub none_rested : (place : ℕ) (e : Event) → is_fresh (fresh_after v e) r u ≡ false → next_preempted r u e None a.touched a.preempted ≡ a.preempted → attempt_with v place e r u None ≡ rest_attempt v r u a
  none_rested place e stale pre =
      let told = ap (λ b. if b then a.last else still_told (wait_left v r u) (standing_left v r u)) stale ∙ left_is_cut v sane r u in
      (λ i. record { answers = a.answers; places = a.places; last = told i; touched = a.touched; preempted = pre i }) ∙ rest_is

  last_by : (b : Bool) → is_fresh v.fresh r u ≡ b → (if b then a.last else still_told (wait_left v r u) (standing_left v r u)) ≡ a.last
  last_by true e = refl
  last_by false e = left_is_cut v sane r u ∙ sym (sane.cut r u e)

  pub last_stays : (e : Event) → fresh_after v e ≡ v.fresh → last_after v e r u None ≡ a.last
  last_stays e fresh = ap (λ o. if is_fresh o r u then a.last else still_told (wait_left v r u) (standing_left v r u)) fresh ∙ last_by (is_fresh v.fresh r u) refl

  pub none_same : (place : ℕ) (e : Event) → fresh_after v e ≡ v.fresh → next_preempted r u e None a.touched a.preempted ≡ a.preempted → attempt_with v place e r u None ≡ a
  none_same place e fresh pre = λ i. record { answers = a.answers; places = a.places; last = last_stays e fresh i; touched = a.touched; preempted = pre i }

  preempted_by : (place t : ℕ) (b self : Bool) → (u == t) ≡ b → (r == r) ≡ self → self ≡ true → (b ≡ true → IsTrue a.touched)
      → record { answers = a.answers; places = a.places; last = a.last; touched = a.touched; preempted = (self && (t == u) && a.touched) || a.preempted } ≡ (if b then record a { preempted = true } else a)
  preempted_by place t true self e s is touched =
      let now = or_left (self && (t == u) && a.touched) a.preempted (and_from (self && (t == u)) a.touched (and_from self (t == u) is (eq_turn t u ∙ e)) (touched refl)) in
      λ i. record { answers = a.answers; places = a.places; last = a.last; touched = a.touched; preempted = now i }
  preempted_by place t false self e s is touched =
      let not_it = eq_turn t u ∙ e in
      (λ i. record { answers = a.answers; places = a.places; last = a.last; touched = a.touched; preempted = (self && not_it i && a.touched) || a.preempted })
      ∙ (λ i. record { answers = a.answers; places = a.places; last = a.last; touched = a.touched; preempted = (and_no self i && a.touched) || a.preempted })
    where
      and_no : (b : Bool) → (b && false) ≡ false
      and_no true = refl
      and_no false = refl

  -- a preemption
  pub preempt_at : (place t : ℕ) → ((u == t) ≡ true → IsTrue a.touched) → attempt_with v place (event.Preempt r t) r u None ≡ change_at t (λ x. record x { preempted = true }) u a
  preempt_at place t touched =
      (λ i. record { answers = a.answers; places = a.places; last = last_stays (event.Preempt r t) refl i; touched = a.touched; preempted = ((r == r) && (t == u) && a.touched) || a.preempted })
      ∙ preempted_by place t (u == t) (r == r) refl refl (eq-eqb r r refl) touched

  -- ---- replies to runs

  abbrev left : (ℕ → Bool) → Last
  left runs = still_told (filter runs (wait_left v r u)) (option_and_then (if_all runs) (standing_left v r u))

  -- where those that ran still run, the cut is left
  left_by : (runs : ℕ → Bool) → ((w : ℕ) → runs_in v r w ≡ true → runs w ≡ true) → left runs ≡ cut
  left_by runs wider =
      (λ i. still_told (filter runs (wait_is v sane r u i)) (option_and_then (if_all runs) (cycle_is v sane r u i)))
      ∙ (λ i. still_told (filter_wider (runs_in v r) runs wider (once (named_in a.last)) i) (if_all_wider (runs_in v r) runs wider (cycle_in a.last) i))

  module _ (place : ℕ) (t : ℕ) where
    some_more : (xs : List Answer) (x : Answer) → not (is_empty (xs ++ x ∷ [])) ≡ true
    some_more [] x = refl
    some_more (y ∷ xs) x = refl

    answer_wider : (answer : Answer) (w : ℕ) (b : Bool) → runs_in v r w ≡ true → not (is_empty (if b then (attempt_in v r w).answers ++ answer ∷ [] else (attempt_in v r w).answers)) ≡ true
    answer_wider answer w true h = some_more (attempt_in v r w).answers answer
    answer_wider answer w false h = h

    done_by : (answer : Answer) (e : Event) (b : Bool) → (u == t) ≡ b → next_preempted r u e (Some (Ran t any_stmt (run.Done answer))) a.touched a.preempted ≡ a.preempted
        → attempt_with v place e r u (Some (Ran t any_stmt (run.Done answer))) ≡ (if b then with_answer answer place (rest_attempt v r u a) else rest_attempt v r u a)
    done_by answer e true d pre =
        let runs = runs_after v r (Ran t any_stmt (run.Done answer)) in
        let told = last_untold (is_fresh (fresh_after v e) r u) _ ∙ (λ i. still_told (filter runs (if d i then [] else wait_left v r u)) (option_and_then (if_all runs) (if d i then None else standing_left v r u))) in
        (λ i. record { answers = if d i then a.answers ++ answer ∷ [] else a.answers; places = if d i then a.places ++ place ∷ [] else a.places; last = told i; touched = d i || a.touched; preempted = pre i })
        ∙ ap (with_answer answer place) rest_is
    done_by answer e false d pre =
        let runs = runs_after v r (Ran t any_stmt (run.Done answer)) in
        let told = last_untold (is_fresh (fresh_after v e) r u) _ ∙ (λ i. still_told (filter runs (if d i then [] else wait_left v r u)) (option_and_then (if_all runs) (if d i then None else standing_left v r u)))
        ∙ left_by runs (λ w h. answer_wider answer w (w == t) h) in
        (λ i. record { answers = if d i then a.answers ++ answer ∷ [] else a.answers; places = if d i then a.places ++ place ∷ [] else a.places; last = told i; touched = d i || a.touched; preempted = pre i })
        ∙ rest_is

    pub done_at : (answer : Answer) → attempt_with v place (event.Give r (reply.Ran (run.Done answer))) r u (Some (Ran t any_stmt (run.Done answer))) ≡ change_at t (with_answer answer place) u (rest_attempt v r u a)
    done_at answer = done_by answer (event.Give r (reply.Ran (run.Done answer))) (u == t) refl refl

    -- told of waits
    fresh_here : (fresh : Option Fresh) → fresh ≡ Some record { replica = r; txn = t } → (u == t) ≡ true → is_fresh fresh r u ≡ true
    fresh_here fresh is d = ap (λ o. is_fresh o r u) is ∙ and_from (r == r) (t == u) (eq-eqb r r refl) (eq_turn t u ∙ d)

    blocked_by : (named : List ℕ) (e : Event) (b : Bool) → (u == t) ≡ b → fresh_after v e ≡ Some record { replica = r; txn = t } → next_preempted r u e (Some (Ran t any_stmt (run.Blocked named))) a.touched a.preempted ≡ a.preempted
        → attempt_with v place e r u (Some (Ran t any_stmt (run.Blocked named))) ≡ (if b then with_waits (last.Blocked named) (rest_attempt v r u a) else rest_attempt v r u a)
    blocked_by named e true d fresh pre =
        (λ i. record {
          answers = a.answers;
          places = a.places;
          last = last_if (fresh_here (fresh_after v e) fresh d i) (if d i then Some (last.Blocked named) else None)
              (still_told (filter (runs_in v r) (if d i then once named else wait_left v r u)) (option_and_then (if_all (runs_in v r)) (if d i then None else standing_left v r u)));
          touched = d i || a.touched;
          preempted = pre i;
        }) ∙ ap (with_waits (last.Blocked named)) rest_is
    blocked_by named e false d fresh pre =
        let told = (λ i. last_if (is_fresh (fresh_after v e) r u) (if d i then Some (last.Blocked named) else None)
        (still_told (filter (runs_in v r) (if d i then once named else wait_left v r u)) (option_and_then (if_all (runs_in v r)) (if d i then None else standing_left v r u))))
        ∙ last_untold (is_fresh (fresh_after v e) r u) (left (runs_in v r)) ∙ left_by (runs_in v r) (λ w h. h) in
        (λ i. record { answers = a.answers; places = a.places; last = told i; touched = d i || a.touched; preempted = pre i }) ∙ rest_is

    pub blocked_at : (named : List ℕ) → fresh_after v (event.Give r (reply.Ran (run.Blocked named))) ≡ Some record { replica = r; txn = t }
        → attempt_with v place (event.Give r (reply.Ran (run.Blocked named))) r u (Some (Ran t any_stmt (run.Blocked named))) ≡ change_at t (with_waits (last.Blocked named)) u (rest_attempt v r u a)
    blocked_at named fresh = blocked_by named (event.Give r (reply.Ran (run.Blocked named))) (u == t) refl fresh refl

    deadlock_by : (cycle : List ℕ) (e : Event) (b : Bool) → (u == t) ≡ b → fresh_after v e ≡ Some record { replica = r; txn = t } → next_preempted r u e (Some (Ran t any_stmt (run.Deadlock cycle))) a.touched a.preempted ≡ a.preempted
        → attempt_with v place e r u (Some (Ran t any_stmt (run.Deadlock cycle))) ≡ (if b then with_waits (last.Deadlock cycle) (rest_attempt v r u a) else rest_attempt v r u a)
    deadlock_by cycle e true d fresh pre =
        (λ i. record {
          answers = a.answers;
          places = a.places;
          last = last_if (fresh_here (fresh_after v e) fresh d i) (if d i then Some (last.Deadlock cycle) else None)
              (still_told (filter (runs_in v r) (if d i then [] else wait_left v r u)) (option_and_then (if_all (runs_in v r)) (if d i then Some cycle else standing_left v r u)));
          touched = d i || a.touched;
          preempted = pre i;
        }) ∙ ap (with_waits (last.Deadlock cycle)) rest_is
    deadlock_by cycle e false d fresh pre =
        let told = (λ i. last_if (is_fresh (fresh_after v e) r u) (if d i then Some (last.Deadlock cycle) else None)
        (still_told (filter (runs_in v r) (if d i then [] else wait_left v r u)) (option_and_then (if_all (runs_in v r)) (if d i then Some cycle else standing_left v r u))))
        ∙ last_untold (is_fresh (fresh_after v e) r u) (left (runs_in v r)) ∙ left_by (runs_in v r) (λ w h. h) in
        (λ i. record { answers = a.answers; places = a.places; last = told i; touched = d i || a.touched; preempted = pre i }) ∙ rest_is

    pub deadlock_at : (cycle : List ℕ) → fresh_after v (event.Give r (reply.Ran (run.Deadlock cycle))) ≡ Some record { replica = r; txn = t }
        → attempt_with v place (event.Give r (reply.Ran (run.Deadlock cycle))) r u (Some (Ran t any_stmt (run.Deadlock cycle))) ≡ change_at t (with_waits (last.Deadlock cycle)) u (rest_attempt v r u a)
    deadlock_at cycle fresh = deadlock_by cycle (event.Give r (reply.Ran (run.Deadlock cycle))) (u == t) refl fresh refl

    -- no memory
    pub nothing_at : attempt_with v place (event.Give r (reply.Ran run.NoMemory)) r u (Some (Ran t any_stmt run.NoMemory)) ≡ rest_attempt v r u a
    nothing_at =
        let told = last_untold (is_fresh (fresh_after v (event.Give r (reply.Ran run.NoMemory))) r u) (left (runs_in v r)) ∙ left_by (runs_in v r) (λ w h. h) in
        (λ i. record { answers = a.answers; places = a.places; last = told i; touched = a.touched; preempted = a.preempted }) ∙ rest_is

    -- ---- an end

    runs_else : (b : Bool) (xs : List Answer) → not (is_empty (if b then [] else xs)) ≡ (not b && not (is_empty xs))
    runs_else true xs = refl
    runs_else false xs = refl

    abbrev others : ℕ → Bool
    others w = not (w == t) && runs_in v r w

    ended_by : (told : EndReply) (b : Bool) → (u == t) ≡ b
        → attempt_with v place (event.Give r (reply.Ended told)) r u (Some (Committed t end.Done)) ≡ (if b then no_attempt else record (rest_attempt v r u a) { last = cut_to others (rest_attempt v r u a).last })
    ended_by told true d =
        let runs = runs_after v r (Committed t end.Done) in
        λ i. record {
          answers = if d i then [] else a.answers;
          places = if d i then [] else a.places;
          last = still_told (filter runs (if d i then [] else wait_left v r u)) (option_and_then (if_all runs) (if d i then None else standing_left v r u));
          touched = not (d i) && a.touched;
          preempted = not (d i) && a.preempted;
        }
    ended_by told false d =
        let runs = runs_after v r (Committed t end.Done) in
        let w = filter (runs_in v r) (once (named_in a.last)) in
        let s = option_and_then (if_all (runs_in v r)) (cycle_in a.last) in
        let same : runs ≡ others = λ i x. runs_else (x == t) (attempt_in v r x).answers i in
        let named = ap once (named_still w s) ∙ once_cut (runs_in v r) (named_in a.last) in
        let cycle = cycle_still w s (apart_cut (runs_in v r) (once (named_in a.last)) (cycle_in a.last) (apart_last a.last)) in
        let told : still_told (filter runs (if u == t then [] else wait_left v r u)) (option_and_then (if_all runs) (if u == t then None else standing_left v r u)) ≡ cut_to others cut =
        (λ i. still_told (filter runs (if d i then [] else wait_left v r u)) (option_and_then (if_all runs) (if d i then None else standing_left v r u)))
        ∙ (λ i. still_told (filter (same i) (wait_is v sane r u i)) (option_and_then (if_all (same i)) (cycle_is v sane r u i)))
        ∙ (λ i. still_told (filter others (sym named i)) (option_and_then (if_all others) (sym cycle i))) in
        (λ i. record { answers = if d i then [] else a.answers; places = if d i then [] else a.places; last = told i; touched = not (d i) && a.touched; preempted = not (d i) && a.preempted })
        ∙ (λ i. record (rest_is i) { last = cut_to others (rest_is i).last })

    pub ended_at : (told : EndReply) → attempt_with v place (event.Give r (reply.Ended told)) r u (Some (Committed t end.Done)) ≡ ended_among t (runs_in v r) u (rest_attempt v r u a)
    ended_at told = ended_by told (u == t) refl
