-- The measure falls with each entry that is due, and no call needs more room than it reserves.
use Rattle.std.proofs.Common.{◌≡◌, inl, inr, ℕ, ◌+◌, ◌≤◌, Bool, true, false, not, ◌&&◌, ◌==◌, nat_eq, if◌then◌else◌, Option, Some, None, unwrap_or, [], length, map, refl, ap, sym, ◌∙◌, arith, length-append, IsTrue}
use Rattle.std.specs.Map.{lookup}
use Rattle.std.proofs.lemmas.Bool.{and_parts, and_from, eq-eqb}
use Rattle.std.proofs.lemmas.List.FromFn.{length-map-range_with_len}
use Rattle.hr_base.specs.Lists.{is_empty}
use Rattle.hr_base.proofs.Tests.{eq_turn, and_false}
use Rattle.hr_history.specs.declared.entry.Event.{Event}
use Rattle.hr_history.specs.declared.entry.Event.TheVariants as event
use Rattle.hr_history.specs.declared.cause.CauseAt.{CauseAt}
use Rattle.hr_history.specs.declared.evidence.Evidence.{Evidence}
use Rattle.hr_history.specs.declared.phase.Phase.{Phase}
use Rattle.hr_history.specs.declared.phase.Phase.TheVariants as phase
use Rattle.hr_history.specs.Transactions.{is_open, is_asked, is_ended, next_phase}
use Rattle.hr_history.specs.Turn.{Turn}
use Rattle.hr_history.specs.View.{View, Attempt, is_fresh}
use Rattle.hr_history.specs.Processed.{phase_in, replica_in, attempt_in, runs_in, live_in, no_attempt}
use Rattle.hr_history.specs.Jobs.{txn_numbers}
use Rattle.hr_history.specs.Preemption.{stays}
use Rattle.hr_history.specs.Rules.{due_in}
use Rattle.hr_history.specs.Step.{fresh_after, txn_after, begun_by, replica_after, view_step}
use Rattle.hr_records.specs.ByRule.{HasEvidence, GivesWay, Follows}
use Rattle.hr_records.proofs.Options.{on_some}
use Rattle.hr_records.proofs.RuleLemmas.{asked_is_open, due_by_rule}
use Rattle.hr_records.proofs.ViewWords.{open_txn}
use Rattle.hr_moves.specs.Changes.{change_at, with_attempts, with_attempt}
use Rattle.hr_moves.specs.Sane.{IsSane, IsReplica}
use Rattle.hr_moves.specs.Fits.{Fits}
use Rattle.hr_moves.specs.Moves.{rest_attempt}
use Rattle.hr_moves.specs.Measure.{may_be_preempted, todo_in}
use Rattle.hr_sane.proofs.Lists.{on_true}
use Rattle.hr_sane.proofs.Elsewhere.{IsElsewhere}
use Rattle.hr_sane.proofs.Next.{true_false, replica_at, txn_at}
use Rattle.hr_sane.proofs.ReplicaMoves.{rests, replica_stays}
use Rattle.hr_sane.proofs.ReplyMoves.{convicted_here, preempted_here}
use Rattle.hr_sane.proofs.Rooms.{todo_of, weight, vacancy, opens, todo_total, rest_may, change_may, todo_fewer, todo_one_less, todos_le, todos_at, opens_le, opens_less}

pub vacancy_most : (o : Option ℕ) → vacancy o ≤ 1
vacancy_most None = omega arith
vacancy_most (Some p) = omega arith

-- ---- what is due fits

module _ (v : View) (sane : IsSane v) (turn : Turn) where
  near_of : (r : ℕ) (x : Evidence) → HasEvidence v turn r x → IsReplica v r × ((replica_in v r).convicted ≡ false)
  near_of r x (inl shown) = (omega (arith, shown.0), shown.1)
  near_of r x (inr owed) =
      let is = sane.primary r owed.2 in
      (is.0, unconvicted (replica_in v r).convicted (and_parts (not (replica_in v r).lost) (not (replica_in v r).convicted) is.1).1)
    where
      unconvicted : (b : Bool) → not b ≡ true → b ≡ false
      unconvicted true h = cc h
      unconvicted false h = refl

  touched_by : (r t : ℕ) (b : Bool) → (attempt_in v r t).touched ≡ b → runs_in v r t ≡ true → (attempt_in v r t).touched ≡ true
  touched_by r t true e runs = e
  touched_by r t false e runs = absurd (true_false runs (ap (λ (a : Attempt). not (is_empty a.answers)) (sane.untouched r t e)))

  -- who is to give way runs, and wasn't preempted
  gives_way : (r t : ℕ) → GivesWay v r t → (runs_in v r t ≡ true) × ((attempt_in v r t).preempted ≡ false)
  gives_way r t rule =
      let both = and_parts (runs_in v r t) (stays v r t) (and_parts (runs_in v r t && stays v r t) _ rule.gives_way).0 in
      (both.0, unpreempted (attempt_in v r t).preempted (and_parts (not (is_ended (phase_in v t))) (not (attempt_in v r t).preempted) both.1).1)
    where
      unpreempted : (b : Bool) → not b ≡ true → b ≡ false
      unpreempted true h = cc h
      unpreempted false h = refl

  pub follow_fits : (e : Event) → Follows v turn e → Fits v e
  follow_fits (event.Decide t) rule = asked_is_open (phase_in v t) (and_parts (is_asked (phase_in v t)) _ rule.1).0
  follow_fits (event.Refuse t c) rule = rule.0
  follow_fits (event.Convict r x) rule = (near_of r x rule).0
  follow_fits (event.NewPrimary r) rule = (omega (arith, rule.replica), rule.live)
  follow_fits (event.Preempt r t) rule = (omega (arith, rule.replica), touched_by r t (attempt_in v r t).touched refl (gives_way r t rule).0)
  follow_fits (event.Begin session txn) rule = absurd rule
  follow_fits (event.Submit txn index stmt) rule = absurd rule
  follow_fits (event.AskCommit txn) rule = absurd rule
  follow_fits (event.AskRollback txn) rule = absurd rule
  follow_fits (event.Take r j) rule = absurd rule
  follow_fits (event.Give r told) rule = absurd rule
  follow_fits (event.Restarted r count) rule = absurd rule
  follow_fits event.Suspect rule = absurd rule

-- ---- the parts of the measure after an event

module _ (v : View) (place asks : ℕ) (sane : IsSane v) (e : Event) (fits : Fits v e) where
  abbrev now : View
  now = view_step v place asks e

  here : (r : ℕ) → replica_in now r ≡ replica_after v place e r
  here r = replica_at v place asks e sane fits r

  pub phase_at : (t : ℕ) → phase_in now t ≡ next_phase t e asks (length v.log) (phase_in v t)
  phase_at t = (txn_at v place asks e sane fits t).phase

  pub count_with : (n : ℕ) → length (begun_by e) ≡ n → length now.txns ≡ length v.txns + n
  count_with n is = length-append (map (txn_after v asks e) (txn_numbers v)) (begun_by e) ∙ (λ i. length-map-range_with_len (txn_after v asks e) 1 (length v.txns) i + is i)

  -- no more are open, and one less
  pub opens_stay : begun_by e ≡ [] → ((t : ℕ) → is_open (next_phase t e asks (length v.log) (phase_in v t)) ≡ true → is_open (phase_in v t) ≡ true) → opens now ≤ opens v
  opens_stay none each = opens_le v now refl (omega (arith, count_with 0 (ap length none))) (λ t h. each t (ap is_open (sym (phase_at t)) ∙ h))

  pub opens_fall : (u : ℕ) → begun_by e ≡ [] → is_open (phase_in v u) ≡ true → is_open (next_phase u e asks (length v.log) (phase_in v u)) ≡ false
      → ((t : ℕ) → is_open (next_phase t e asks (length v.log) (phase_in v t)) ≡ true → is_open (phase_in v t) ≡ true) → opens now + 1 ≤ opens v
  opens_fall u none was gone each =
      opens_less v now refl u (omega (arith, count_with 0 (ap length none))) (open_txn v u was) was (ap is_open (phase_at u) ∙ gone) (λ t h. each t (ap is_open (sym (phase_at t)) ∙ h))

  -- replicas that stay, and rest
  pub stays_todo : (q : ℕ) → IsElsewhere q e → fresh_after v e ≡ v.fresh → todo_of (replica_in now q) ≤ todo_of (replica_in v q)
  stays_todo q away fresh = omega (arith, ap todo_of (here q ∙ replica_stays v place e sane q away fresh))

  pub rests_weight : (q : ℕ) → weight (with_attempts (rest_attempt v q) (replica_in v q)) ≤ weight (replica_in v q)
  rests_weight q = omega (arith, todo_fewer (replica_in v q) (rest_attempt v q) (rest_may v q))

  pub away_weight : (q : ℕ) → IsElsewhere q e → ((t : ℕ) → is_fresh (fresh_after v e) q t ≡ false) → weight (replica_in now q) ≤ weight (replica_in v q)
  away_weight q away stale = omega (arith, ap weight (here q ∙ rests v place e sane q away stale), rests_weight q)

pub closed_by : (b : Bool) (x p : Phase) → is_open x ≡ false → is_open (if b then x else p) ≡ true → is_open p ≡ true
closed_by true x p shut h = absurd (true_false h shut)
closed_by false x p shut h = h

module _ (v : View) (place asks : ℕ) (sane : IsSane v) (turn : Turn) where
  abbrev Falls : Event → Type 0
  Falls e = todo_in (view_step v place asks e) + 1 ≤ todo_in v

  ends : (t : ℕ) → is_open (phase_in v t) ≡ true → Falls (event.Decide t)
  ends t fits =
      let e = event.Decide t in
      let now = view_step v place asks e in
      let shut = opens_fall v place asks sane e fits t refl fits (ap is_open (on_true (t == t) (phase.Logged (length v.log + 1)) (phase_in v t) (eq-eqb t t refl)))
      (λ u h. closed_by (t == u) (phase.Logged (length v.log + 1)) (phase_in v u) refl h) in
      omega (arith, todo_total v, todo_total now, shut, todos_le v now refl (λ q. stays_todo v place asks sane e fits q tt refl))

  refuses : (t : ℕ) (c : CauseAt) → is_open (phase_in v t) ≡ true → Falls (event.Refuse t c)
  refuses t c fits =
      let e = event.Refuse t c in
      let now = view_step v place asks e in
      let shut = opens_fall v place asks sane e fits t refl fits (ap is_open (on_true (t == t) phase.Refused (phase_in v t) (eq-eqb t t refl))) (λ u h. closed_by (t == u) phase.Refused (phase_in v u) refl h) in
      omega (arith, todo_total v, todo_total now, shut, todos_le v now refl (λ q. stays_todo v place asks sane e fits q tt refl))

  convicts : (r : ℕ) (x : Evidence) → IsReplica v r → (replica_in v r).convicted ≡ false → Falls (event.Convict r x)
  convicts r x near free_ =
      let e = event.Convict r x in
      let now = view_step v place asks e in
      let same : replica_in now r ≡ record (replica_in v r) { convicted = true } = replica_at v place asks e sane near r ∙ convicted_here v place sane r x in
      let less : todo_of (replica_in now r) + 2 ≤ todo_of (replica_in v r) + 0 = omega (arith, ap todo_of same, ap {B = ℕ} (λ b. if b then 0 else 2) free_) in
      omega (
        arith,
        todo_total v,
        todo_total now,
        vacancy_most now.primary,
        opens_stay v place asks sane e near refl (λ t h. h),
        todos_at v now refl r 2 0 near less (λ q other. stays_todo v place asks sane e near q (eq_turn r q ∙ other) refl),
      )

  elects : (r : ℕ) (fits : IsReplica v r × IsTrue (live_in v r)) → v.primary ≡ None → Falls (event.NewPrimary r)
  elects r fits vacant =
      let e = event.NewPrimary r in
      let now = view_step v place asks e in
      omega (arith, todo_total v, todo_total now, ap vacancy vacant, opens_stay v place asks sane e fits refl (λ t h. h), todos_le v now refl (λ q. stays_todo v place asks sane e fits q tt refl))

  found : (r t : ℕ) (o : Option Attempt) → lookup (nat_eq t) (replica_in v r).attempts ≡ o → not (is_empty (unwrap_or o no_attempt).answers) ≡ true → (a : Attempt) × (lookup (nat_eq t) (replica_in v r).attempts ≡ Some a)
  found r t None got runs = cc runs
  found r t (Some a) got runs = (a, got)

  preempts : (r t : ℕ) (fits : Fits v (event.Preempt r t)) → runs_in v r t ≡ true → (attempt_in v r t).preempted ≡ false → Falls (event.Preempt r t)
  preempts r t fits runs un =
      let e = event.Preempt r t in
      let now = view_step v place asks e in
      let mark : Attempt → Attempt = λ a. record a { preempted = true } in
      let it = found r t (lookup (nat_eq t) (replica_in v r).attempts) refl runs in
      let its : attempt_in v r t ≡ it.0 = ap (λ o. unwrap_or o no_attempt) it.1 in
      let was : may_be_preempted (t, it.0) ≡ true = ap (λ a. may_be_preempted (t, a)) (sym its) ∙ and_from (runs_in v r t) (not (attempt_in v r t).preempted) runs (ap not un) in
      let gone : may_be_preempted (t, change_at t mark t it.0) ≡ false = ap (λ a. may_be_preempted (t, a)) (on_true (t == t) (mark it.0) it.0 (eq-eqb t t refl)) ∙ and_false (not (is_empty it.0.answers)) false refl in
      let less : todo_of (with_attempt t mark (replica_in v r)) + 1 ≤ todo_of (replica_in v r) =
      todo_one_less (replica_in v r) (change_at t mark) t it.0 it.1 was gone (λ u a h. change_may t u mark a (λ d. never a d) h) in
      let same : replica_in now r ≡ with_attempt t mark (replica_in v r) = replica_at v place asks e sane fits r ∙ preempted_here v place sane r t fits.1 in
      let less_now : todo_of (replica_in now r) + 1 ≤ todo_of (replica_in v r) + 0 = omega (arith, ap todo_of same, less) in
      omega (
        arith,
        todo_total v,
        todo_total now,
        opens_stay v place asks sane e fits refl (λ u h. h),
        todos_at v now refl r 1 0 fits.0 less_now (λ q other. stays_todo v place asks sane e fits q (eq_turn r q ∙ other) refl),
      )
    where
      never : (a : Attempt) → (not (is_empty a.answers) && false) ≡ true → (not (is_empty a.answers) && not a.preempted) ≡ true
      never a h = absurd (true_false h (and_false (not (is_empty a.answers)) false refl))

  falls_by : (e : Event) → Follows v turn e → Falls e
  falls_by (event.Decide t) rule = ends t (follow_fits v sane turn (event.Decide t) rule)
  falls_by (event.Refuse t c) rule = refuses t c rule.0
  falls_by (event.Convict r x) rule = let is = near_of v sane turn r x rule in convicts r x is.0 is.1
  falls_by (event.NewPrimary r) rule = elects r (follow_fits v sane turn (event.NewPrimary r) rule) rule.vacant
  falls_by (event.Preempt r t) rule = let is = gives_way v sane turn r t rule in preempts r t (follow_fits v sane turn (event.Preempt r t) rule) is.0 is.1
  falls_by (event.Begin session txn) rule = absurd rule
  falls_by (event.Submit txn index stmt) rule = absurd rule
  falls_by (event.AskCommit txn) rule = absurd rule
  falls_by (event.AskRollback txn) rule = absurd rule
  falls_by (event.Take r j) rule = absurd rule
  falls_by (event.Give r told) rule = absurd rule
  falls_by (event.Restarted r count) rule = absurd rule
  falls_by event.Suspect rule = absurd rule

  pub due_follows : (e : Event) → due_in v turn ≡ Some e → Follows v turn e
  due_follows e due = on_some (Follows v turn) (due_in v turn) e due (due_by_rule v turn)

  -- what is due fits, and makes the measure smaller
  pub due_fits : (e : Event) → due_in v turn ≡ Some e → Fits v e
  due_fits e due = follow_fits v sane turn e (due_follows e due)

  pub due_falls : (e : Event) → due_in v turn ≡ Some e → Falls e
  due_falls e due = falls_by e (due_follows e due)
