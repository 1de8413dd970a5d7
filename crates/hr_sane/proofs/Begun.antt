-- In a history that has begun rightly each entry fits the view before it, so all its views are sane.
use Rattle.std.proofs.Common.{◌≡◌, ◌⊎◌, inl, inr, ℕ, suc, ◌+◌, ◌*◌, ◌<◌, ◌≤◌, Bool, true, false, not, ◌&&◌, ◌||◌, ◌==◌, nat_lt, if◌then◌else◌, List, [], ◌∷◌, ◌++◌, length, map, refl, ap, sym, ◌∙◌, subst, arith, IsTrue}
use Rattle.std.proofs.lemmas.Bool.{and_parts, or_cases, or_left, or_right, eqb-true, eq-eqb, ltb-true}
use Rattle.hr_base.specs.Lists.{has, is_distinct, is_empty}
use Rattle.hr_base.specs.declared.limits.TheConstants.{MAX_SUBMITS, MAX_STATEMENTS}
use Rattle.hr_base.proofs.Tests.{has_end}
use Rattle.hr_rel.specs.declared.stmt.Stmt.{Stmt}
use Rattle.hr_history.specs.declared.entry.Entry.{Entry}
use Rattle.hr_history.specs.declared.entry.Event.{Event}
use Rattle.hr_history.specs.declared.entry.Event.TheVariants as event
use Rattle.hr_history.specs.declared.job.Job.{Job}
use Rattle.hr_history.specs.declared.job.Job.TheVariants as job
use Rattle.hr_history.specs.declared.evidence.Evidence.{Evidence}
use Rattle.hr_history.specs.History.{History, is_call}
use Rattle.hr_history.specs.Transactions.{begun, asks, submits, next_submits, submitted, next_submitted, is_open, is_asked}
use Rattle.hr_history.specs.Attempts.{dispatched, next_dispatched, and_dispatched}
use Rattle.hr_history.specs.Turn.{turn_of}
use Rattle.hr_history.specs.View.{View, Attempt, Progress, view_of, attempt_state}
use Rattle.hr_history.specs.Replicas.{journal_of}
use Rattle.hr_history.specs.Processed.{phase_in, attempt_in, runs_in}
use Rattle.hr_history.specs.Jobs.{job_in}
use Rattle.hr_history.specs.Preemption.{stays}
use Rattle.hr_history.specs.Faithful.{is_allowed, may_go_on_with, is_replica, is_job, fits_job, is_restart, Begun}
use Rattle.hr_history.proofs.StepLemmas.{replica_lookup, call_allowed}
use Rattle.hr_history.proofs.TxnSteps.{out_same}
use Rattle.hr_history.proofs.ViewSteps.{view_same}
use Rattle.hr_records.specs.ByRule.{HasEvidence, Follows}
use Rattle.hr_records.proofs.SameEvents.{job_is}
use Rattle.hr_records.proofs.RuleLemmas.{asked_is_open, begun_before, by_rule}
use Rattle.hr_records.proofs.Places.{numbered_born}
use Rattle.hr_records.proofs.ViewWords.{how_many, phase_seen, statements_seen, txn_born}
use Rattle.hr_records.proofs.Allowed.{GoesOn, may_go_on, begin_allowed, submit_allowed, take_allowed, give_allowed, restart_allowed}
use Rattle.hr_records.specs.Numbers.{IsBorn}
use Rattle.hr_moves.specs.Kept.{entries_in}
use Rattle.hr_moves.specs.Sane.{IsSane, IsReplica, IsKnown}
use Rattle.hr_moves.specs.Fits.{Fits, HasRoom}
use Rattle.hr_sane.proofs.Lists.{keys_of_made, distinct_more}
use Rattle.hr_sane.proofs.Next.{true_false}
use Rattle.hr_sane.proofs.Entries.{distinct_if}
use Rattle.hr_sane.proofs.Outs.{by_run}
use Rattle.hr_sane.proofs.First.{first_sane}
use Rattle.hr_sane.proofs.Stays.{stays_sane}

-- ---- a list of different numbers is no longer than one that has them all

without : ℕ → List ℕ → List ℕ
without x [] = []
without x (y ∷ ys) = if y == x then ys else y ∷ without x ys

one_less_by : (b : Bool) (x y : ℕ) (ys : List ℕ) → (y == x) ≡ b → (has ys x ≡ true → suc (length (without x ys)) ≡ length ys) → (b || has ys x) ≡ true → suc (length (if b then ys else y ∷ without x ys)) ≡ suc (length ys)
one_less_by true x y ys e less h = refl
one_less_by false x y ys e less h = ap suc (less h)

one_less : (x : ℕ) (ys : List ℕ) → has ys x ≡ true → suc (length (without x ys)) ≡ length ys
unfolding without
one_less x [] h = cc h
one_less x (y ∷ ys) h = one_less_by (y == x) x y ys refl (λ d. one_less x ys d) h

still_by : (b : Bool) (x y z : ℕ) (ys : List ℕ) → (y == x) ≡ b → (x ≡ z → ⊥) → (has ys z ≡ true → has (without x ys) z ≡ true) → ((y == z) ≡ true) ⊎ (has ys z ≡ true) → has (if b then ys else y ∷ without x ys) z ≡ true
still_by true x y z ys e other still (inl same) = absurd (other (sym (eqb-true y x e) ∙ eqb-true y z same))
still_by true x y z ys e other still (inr later) = later
still_by false x y z ys e other still (inl same) = or_left (y == z) (has (without x ys) z) same
still_by false x y z ys e other still (inr later) = or_right (y == z) (has (without x ys) z) (still later)

still_has : (x z : ℕ) (ys : List ℕ) → (x ≡ z → ⊥) → has ys z ≡ true → has (without x ys) z ≡ true
unfolding without
still_has x z [] other h = cc h
still_has x z (y ∷ ys) other h = still_by (y == x) x y z ys refl other (λ d. still_has x z ys other d) (or_cases (y == z) (has ys z) h)

no_longer : (xs ys : List ℕ) → is_distinct xs ≡ true → ((x : ℕ) → has xs x ≡ true → has ys x ≡ true) → length xs ≤ length ys
no_longer [] ys d all = omega arith
no_longer (x ∷ xs) ys d all =
    let both = and_parts (not (has xs x)) (is_distinct xs) d in
    let there = all x (or_left (x == x) (has xs x) (eq-eqb x x refl)) in
    let rest = no_longer xs (without x ys) both.1 (λ z h. still_has x z ys (λ same. alone (has xs x) both.0 (ap (has xs) same ∙ h)) (all z (or_right (x == z) (has xs z) h))) in
    omega (arith, rest, one_less x ys there)
  where
    alone : (b : Bool) → not b ≡ true → b ≡ true → ⊥
    alone true n h = cc n
    alone false n h = cc h

-- ---- as many entries as statements at most

next_asked : Event → List ℕ → List ℕ
next_asked (event.Submit txn index stmt) ts = txn ∷ ts
next_asked _ ts = ts

-- the transactions of all statements
asked_of : History → List ℕ
asked_of [] = []
asked_of (e ∷ before) = next_asked e.event (asked_of before)

count_asked : (e : Event) (ts : List ℕ) (n : ℕ) → length ts ≡ n → length (next_asked e ts) ≡ next_submitted e n
unfolding next_asked
count_asked (event.Submit txn index stmt) ts n h = omega (arith, h)
count_asked _ ts n h = h

asked_count : (h : History) → length (asked_of h) ≡ submitted h
unfolding asked_of
asked_count [] = refl
asked_count (e ∷ before) = count_asked e.event (asked_of before) (submitted before) (asked_count before)

none_before : (b : Bool) (xs : List Stmt) → 1 ≤ length (if b then [] else xs) → 1 ≤ length xs
none_before true xs h = absurd (omega (arith, h))
none_before false xs h = h

has_more : (b : Bool) (txn t : ℕ) (stmt : Stmt) (xs : List Stmt) (ts : List ℕ) → (txn == t) ≡ b → 1 ≤ length (if b then xs ++ stmt ∷ [] else xs) → (1 ≤ length xs → has ts t ≡ true) → ((txn == t) || has ts t) ≡ true
has_more true txn t stmt xs ts e h earlier = or_left (txn == t) (has ts t) e
has_more false txn t stmt xs ts e h earlier = or_right (txn == t) (has ts t) (earlier h)

next_has : (t : ℕ) (e : Event) (xs : List Stmt) (ts : List ℕ) → 1 ≤ length (next_submits t e xs) → (1 ≤ length xs → has ts t ≡ true) → has (next_asked e ts) t ≡ true
unfolding next_asked
next_has t (event.Begin session txn) xs ts h earlier = earlier (none_before (txn == t) xs h)
next_has t (event.Submit txn index stmt) xs ts h earlier = has_more (txn == t) txn t stmt xs ts refl h earlier
next_has t _ xs ts h earlier = earlier h

asked_has : (t : ℕ) (h : History) → 1 ≤ length (submits t h) → has (asked_of h) t ≡ true
unfolding asked_of
asked_has t [] h = absurd (omega (arith, h))
asked_has t (e ∷ before) h = next_has t e.event (submits t before) (asked_of before) h (asked_has t before)

keeps_asked : (t : ℕ) (e : Event) (ts : List ℕ) → has ts t ≡ true → has (next_asked e ts) t ≡ true
unfolding next_asked
keeps_asked t (event.Submit txn index stmt) ts h = or_right (txn == t) (has ts t) h
keeps_asked t _ ts h = h

module _ (f s : ℕ) where
  -- a statement to run was submitted
  run_asked : (c q t i : ℕ) (h : History) → Begun f s (record { caller = c; event = event.Take q (job.Run t i) } ∷ h) → IsSane (view_of f h) → has (asked_of h) t ≡ true
  run_asked c q t i h start sane =
      let rule = (take_allowed f s c h q (job.Run t i) (call_allowed f s record { caller = c; event = event.Take q (job.Run t i) } h start refl)).1.rule in
      let it = by_run (view_of f h) q t i sane rule.2 in
      asked_has t h (omega (arith, it.0, it.1, statements_seen f t h (txn_born f t h rule.1)))

  dispatched_if : (b : Bool) (r u t : ℕ) (ts us : List ℕ) → has us u ≡ true → (has ts t ≡ true → has us t ≡ true) → has (if b then and_dispatched u ts else ts) t ≡ true → has us t ≡ true
  dispatched_if true r u t ts us there earlier h = by_old (has ts u) h
    where
      by_old : (b : Bool) → has (if b then ts else ts ++ u ∷ []) t ≡ true → has us t ≡ true
      by_old true h = earlier h
      by_old false h = elim (or_cases (has ts t) (u == t) (sym (has_end ts u t) ∙ h)) [ inl old ↦ earlier old | inr same ↦ ap (has us) (sym (eqb-true u t same)) ∙ there ]
  dispatched_if false r u t ts us there earlier h = earlier h

  next_all : (c r t : ℕ) (e : Event) (h : History) → Begun f s (record { caller = c; event = e } ∷ h) → IsSane (view_of f h) → (has (dispatched r h) t ≡ true → has (asked_of h) t ≡ true)
      → has (next_dispatched r e (dispatched r h)) t ≡ true → has (next_asked e (asked_of h)) t ≡ true
  unfolding next_asked
  next_all c r t (event.Take q (job.Run u i)) h start sane earlier there = dispatched_if (q == r) r u t (dispatched r h) (asked_of h) (run_asked c q u i h start sane) earlier there
  next_all c r t (event.Submit txn index stmt) h start sane earlier there = or_right (txn == t) (has (asked_of h) t) (earlier there)
  next_all c r t _ h start sane earlier there = earlier there

  next_distinct : (r : ℕ) (e : Event) (ts : List ℕ) → is_distinct ts ≡ true → is_distinct (next_dispatched r e ts) ≡ true
  next_distinct r (event.Take q (job.Run u i)) ts d = distinct_if (q == r) u ts d
  next_distinct r _ ts d = d

  -- the statements are no more than may be
  limit : (c n : ℕ) (e : Event) (h : History) → (is_call e ≡ true → is_allowed f s c e h ≡ true) → submitted h ≤ MAX_SUBMITS → next_submitted e (submitted h) ≤ MAX_SUBMITS
  limit c n (event.Submit txn index stmt) h allowed few =
      let more = (and_parts (may_go_on_with f c txn h && (index == length (submits txn h) + 1) && nat_lt (submitted h) MAX_SUBMITS) (nat_lt (length (submits txn h)) MAX_STATEMENTS) (allowed refl)).0 in
      let lt = ltb-true (submitted h) MAX_SUBMITS (and_parts (may_go_on_with f c txn h && (index == length (submits txn h) + 1)) (nat_lt (submitted h) MAX_SUBMITS) more).1 in
      omega (arith, lt)
  limit c n _ h allowed few = few

  pub submitted_limit : (h : History) → Begun f s h → submitted h ≤ MAX_SUBMITS
  submitted_limit [] start = omega arith
  submitted_limit (e ∷ h) start = limit e.caller 0 e.event h (call_allowed f s e h start) (submitted_limit h (begun_before f s e h start))

  entries_seen : (r : ℕ) (h : History) → r < 2 * f + 1 → entries_in (view_of f h) r ≡ dispatched r h
  entries_seen r h lt = ap (λ (p : Progress). map (λ (q : ℕ × Attempt). q.0) p.attempts) (replica_lookup f r h lt) ∙ keys_of_made (λ t. attempt_state r (journal_of r h) h t) (dispatched r h)

  -- The view is sane, and each replica's entries are of transactions with a statement.
  record Kept (h : History) : Type 0 where
    sane : IsSane (view_of f h)
    asked : (r t : ℕ) → has (dispatched r h) t ≡ true → has (asked_of h) t ≡ true

  module _ (c : ℕ) (h : History) (kept : Kept h) where
    abbrev v : View
    v = view_of f h

    abbrev Starts : Event → Type 0
    Starts e = Begun f s (record { caller = c; event = e } ∷ h)

    allowed : (e : Event) → Starts e → is_call e ≡ true → is_allowed f s c e h ≡ true
    allowed e start call = call_allowed f s record { caller = c; event = e } h start call

    follows : (e : Event) → Starts e → is_call e ≡ false → Follows v (turn_of h) e
    follows e start call = by_rule f s record { caller = c; event = e } h start call

    room : (q t i : ℕ) → q < 2 * f + 1 → Starts (event.Take q (job.Run t i)) → length (and_dispatched t (entries_in v q)) ≤ MAX_SUBMITS
    room q t i lt start =
        let seen = entries_seen q h lt in
        let distinct = distinct_more t (dispatched q h) (ap is_distinct (sym seen) ∙ kept.sane.apart q) in
        let there = run_asked c q t i h start kept.sane in
        let short = no_longer (and_dispatched t (dispatched q h)) (asked_of h) distinct (λ x at. dispatched_if true q t x (dispatched q h) (asked_of h) there (kept.asked q x) at) in
        omega (arith, ap (λ ts. length (and_dispatched t ts)) seen, short, asked_count h, submitted_limit h (begun_before f s record { caller = c; event = event.Take q (job.Run t i) } h start))

    job_room : (q : ℕ) (j : Job) → q < 2 * f + 1 → Starts (event.Take q j) → HasRoom v q j
    job_room q (job.Run t i) lt start = room q t i lt start
    job_room q (job.Commit t) lt start = tt
    job_room q (job.Rollback t) lt start = tt
    job_room q job.Restart lt start = tt

    known : (t : ℕ) → IsBorn (length (begun h)) t → IsKnown v t
    known t born = (born.0, omega (arith, born.1, how_many f h))

    goes_open : (t : ℕ) → GoesOn t h → IsTrue (is_open (phase_in v t))
    goes_open t g = ap is_open (phase_seen f t h (numbered_born (begun h) t g.session g.its)) ∙ g.is_open

    convicted_near : (r : ℕ) (x : Evidence) → HasEvidence v (turn_of h) r x → IsReplica v r
    convicted_near r x (inl shown) = omega (arith, shown.0)
    convicted_near r x (inr owed) = (kept.sane.primary r owed.2).0

    touched_by : (r t : ℕ) (b : Bool) → (attempt_in v r t).touched ≡ b → runs_in v r t ≡ true → (attempt_in v r t).touched ≡ true
    touched_by r t true e runs = e
    touched_by r t false e runs = absurd (true_false runs (ap (λ (a : Attempt). not (is_empty a.answers)) (kept.sane.untouched r t e)))

    fits_next : (e : Event) → Starts e → Fits v e
    fits_next (event.Begin session txn) start = omega (arith, (begin_allowed f s c h session txn (allowed (event.Begin session txn) start refl)).0, how_many f h)
    fits_next (event.Submit txn index stmt) start = goes_open txn (submit_allowed f s c h txn index stmt (allowed (event.Submit txn index stmt) start refl)).0
    fits_next (event.AskCommit txn) start = goes_open txn (may_go_on f c txn h (allowed (event.AskCommit txn) start refl))
    fits_next (event.AskRollback txn) start = goes_open txn (may_go_on f c txn h (allowed (event.AskRollback txn) start refl))
    fits_next (event.Take q j) start =
        let may = allowed (event.Take q j) start refl in
        let near = (take_allowed f s c h q j may).0 in
        (omega (arith, near), job_is j (job_in v q) (and_parts (is_replica f c q) (is_job j (job_in v q)) may).1, job_room q j near start)
    fits_next (event.Give q told) start =
        let may = give_allowed f s c h q told (allowed (event.Give q told) start refl) in
        (omega (arith, may.0), ap (fits_job told) (sym (out_same f q h may.0)) ∙ may.1)
    fits_next (event.Restarted q count) start =
        let may = restart_allowed f s c h q count (allowed (event.Restarted q count) start refl) in
        (omega (arith, may.0), ap is_restart (sym (out_same f q h may.0) ∙ may.1))
    fits_next event.Suspect start = tt
    fits_next (event.Decide txn) start = asked_is_open (phase_in v txn) (and_parts (is_asked (phase_in v txn)) _ (follows (event.Decide txn) start refl).1).0
    fits_next (event.Refuse txn cause) start = (follows (event.Refuse txn cause) start refl).0
    fits_next (event.Convict q x) start = convicted_near q x (follows (event.Convict q x) start refl)
    fits_next (event.NewPrimary q) start = let rule = follows (event.NewPrimary q) start refl in (omega (arith, rule.replica), rule.live)
    fits_next (event.Preempt q t) start =
        let rule = follows (event.Preempt q t) start refl in
        let runs = (and_parts (runs_in v q t) (stays v q t) (and_parts (runs_in v q t && stays v q t) _ rule.gives_way).0).0 in
        (omega (arith, rule.replica), touched_by q t (attempt_in v q t).touched refl runs)

  kept_all : (h : History) → Begun f s h → Kept h
  unfolding asked_of
  kept_all [] start = record { sane = first_sane f; asked = λ r t h. cc h }
  kept_all (e ∷ h) start =
      let before = kept_all h (begun_before f s e h start) in
      let fits = fits_next e.caller h before e.event start in
      record {
        sane = subst IsSane (sym (view_same f s e h start)) (stays_sane (view_of f h) (length h) (asks h) e.event before.sane fits);
        asked = λ r t there. next_all e.caller r t e.event h start before.sane (before.asked r t) there;
      }

  pub begun_sane : (h : History) → Begun f s h → IsSane (view_of f h)
  begun_sane h start = (kept_all h start).sane

  pub begun_fits : (e : Entry) (h : History) → Begun f s (e ∷ h) → Fits (view_of f h) e.event
  begun_fits e h start = fits_next e.caller h (kept_all h (begun_before f s e h start)) e.event start
