-- The next call of a session's script is allowed.
use Rattle.std.proofs.Common.{◌≡◌, inl, inr, ℕ, ◌+◌, ◌≤◌, ◌==◌, Bool, true, false, cond, ◌&&◌, not, nat_le, nat_lt, Option, Some, None, List, [], ◌∷◌, length, refl, ap, sym, ◌∙◌, subst}
use Rattle.std.specs.Prelude.{slice_get, option_and_then, is_some}
use Rattle.std.specs.List.{list_any}
use Rattle.std.proofs.lemmas.Bool.{and_parts, and_from, or_cases, eq-eqb, eqb-true, le-leb}
use Rattle.hr_base.specs.Lists.{numbered, one_to, when}
use Rattle.hr_base.specs.declared.limits.TheConstants.{MAX_SUBMITS, MAX_STATEMENTS}
use Rattle.hr_rel.specs.declared.stmt.Stmt.{Stmt}
use Rattle.hr_said.specs.declared.scenario.Scenario.{Scenario}
use Rattle.hr_history.specs.declared.entry.Event.{Event}
use Rattle.hr_history.specs.declared.entry.Event.TheVariants as event
use Rattle.hr_history.specs.declared.phase.Phase.{Phase}
use Rattle.hr_history.specs.declared.phase.Phase.TheVariants as phase
use Rattle.hr_history.specs.History.{History}
use Rattle.hr_history.specs.Transactions.{begun, session_of, submits, submitted, phase_of, is_open}
use Rattle.hr_history.specs.Primary.{is_some_of}
use Rattle.hr_history.specs.Replies.{reply_to, is_waiting, is_of}
use Rattle.hr_history.specs.Faithful.{Begun, is_allowed, session_caller, owns, waits_for_reply, may_go_on_with, has_open}
use Rattle.hr_records.proofs.Options.{same_some, some_none}
use Rattle.hr_records.proofs.NumberSteps.{not_both}
use Rattle.hr_schedule.specs.declared.attempt.Try.{Try}
use Rattle.hr_schedule.specs.Tries.{last_try, try_after}
use Rattle.hr_schedule.specs.Scripts.{may_submit, end_call, call_or_end, call_in, script, begin_next, go_on, call_after, next_call_of}
use Rattle.hr_schedule.specs.Sessions.{IsLast}
use Rattle.hr_schedule.proofs.TryLemmas.{last_is}

any_found : (p : ℕ → Bool) (xs : List ℕ) → list_any p xs ≡ true → (x : ℕ) × (p x ≡ true)
any_found p [] e = cc
any_found p (y ∷ xs) e = elim (or_cases (p y) (list_any p xs) e) [ inl here ↦ (y, here) | inr later ↦ any_found p xs later ]

same_number : (a b : ℕ) → (a == b) ≡ true → a ≡ b
same_number a b e = eqb-true a b e

of_session : (q : ℕ) (o : Option ℕ) → is_some_of q o ≡ true → o ≡ Some q
of_session q None e = cc
of_session q (Some p) e = ap Some (sym (same_number q p e))

chained : {X Y : Type 0} (g : X → Option Y) (o : Option X) (y : Y) → option_and_then g o ≡ Some y → (x : X) × (g x ≡ Some y)
chained g None y e = absurd (some_none y (sym e))
chained g (Some x) y e = (x, e)

when_some : {X : Type 0} (b : Bool) (x y : X) → when b x ≡ Some y → (b ≡ true) × (x ≡ y)
when_some true x y e = (refl, same_some x y e)
when_some false x y e = absurd (some_none y (sym e))

module _ (sc : Scenario) (s : ℕ) (h : History) (begins : Begun sc.f (length sc.scripts) h) (first : 1 ≤ s) (last_one : s ≤ length sc.scripts) where
  is_last : IsLast sc.retries s h
  is_last = last_is sc.f (length sc.scripts) sc.retries s h begins

  IsAllowedNext : Event → Type 0
  IsAllowedNext e = is_allowed sc.f (length sc.scripts) (session_caller sc.f s) e h ≡ true

  -- ---- a Begin

  is_none_open : (b : Bool) → has_open s h ≡ b → ((t : ℕ) → session_of t h ≡ Some s → is_open (phase_of t h) ≡ true → ⊥) → not (has_open s h) ≡ true
  is_none_open false e none = ap not e
  is_none_open true e none =
      let found = any_found (λ t. is_open (phase_of t h) && is_of s t h) (one_to (length (begun h))) e in
      let both = and_parts (is_open (phase_of found.0 h)) (is_of s found.0 h) found.1 in
      absurd (none found.0 (of_session s (session_of found.0 h) both.1) both.0)

  begin_is_allowed : ((t : ℕ) → session_of t h ≡ Some s → is_open (phase_of t h) ≡ true → ⊥) → is_allowed sc.f (length sc.scripts) (session_caller sc.f s) (event.Begin s (length (begun h) + 1)) h ≡ true
  begin_is_allowed none =
      and_from _ (not (has_open s h))
      (and_from _ (length (begun h) + 1 == length (begun h) + 1)
      (and_from _ (nat_le s (length sc.scripts)) (and_from (session_caller sc.f s == session_caller sc.f s) (nat_le 1 s) (eq-eqb (session_caller sc.f s) (session_caller sc.f s) refl) (le-leb 1 s first)) (le-leb s (length sc.scripts) last_one))
      (eq-eqb (length (begun h) + 1) (length (begun h) + 1) refl))
      (is_none_open (has_open s h) refl none)

  begin_allowed_next : (last : Option Try) (e : Event) → begin_next sc s last h ≡ Some e → ((t : ℕ) → session_of t h ≡ Some s → is_open (phase_of t h) ≡ true → ⊥) → is_allowed sc.f (length sc.scripts) (session_caller sc.f s) e h ≡ true
  begin_allowed_next last e is none =
      let is_begin = when_some (is_some (numbered (script sc s) (try_after sc.retries last (λ t. phase_of t h) 0).block)) (event.Begin s (length (begun h) + 1)) e is in
      subst (λ (x : Event). is_allowed sc.f (length sc.scripts) (session_caller sc.f s) x h ≡ true) is_begin.1 (begin_is_allowed none)

  -- ---- a call within a block

  module _ (x : Try) (is : last_try sc.retries s h ≡ Some x) (idle : is_waiting (reply_to s h) ≡ false) where
    its : session_of x.txn h ≡ Some s
    its = is_last.its x is

    may : is_open (phase_of x.txn h) ≡ true → may_go_on_with sc.f (session_caller sc.f s) x.txn h ≡ true
    may opened =
        and_from _ (not (waits_for_reply (session_of x.txn h) h))
        (and_from (owns sc.f (session_caller sc.f s) (session_of x.txn h)) (is_open (phase_of x.txn h))
        (ap (owns sc.f (session_caller sc.f s)) its ∙ eq-eqb (session_caller sc.f s) (session_caller sc.f s) refl) opened)
        (ap (λ (o : Option ℕ). not (waits_for_reply o h)) its ∙ ap not idle)

    end_allowed : (commits : Bool) → is_open (phase_of x.txn h) ≡ true → is_allowed sc.f (length sc.scripts) (session_caller sc.f s) (end_call commits x.txn) h ≡ true
    end_allowed true opened = may opened
    end_allowed false opened = may opened

    in_block : (stmt : Option Stmt) (commits : Bool) (e : Event) → is_open (phase_of x.txn h) ≡ true → call_or_end stmt commits x.txn (length (submits x.txn h)) h ≡ Some e
        → is_allowed sc.f (length sc.scripts) (session_caller sc.f s) e h ≡ true
    in_block None commits e opened got =
        subst (λ (y : Event). is_allowed sc.f (length sc.scripts) (session_caller sc.f s) y h ≡ true) (same_some (end_call commits x.txn) e got) (end_allowed commits opened)
    in_block (Some stmt) commits e opened got =
        let n = length (submits x.txn h) in
        let w = when_some (may_submit n h) (event.Submit x.txn (n + 1) stmt) e got in
        let limits = and_parts (nat_lt (submitted h) MAX_SUBMITS) (nat_lt n MAX_STATEMENTS) w.0 in
        subst (λ (y : Event). is_allowed sc.f (length sc.scripts) (session_caller sc.f s) y h ≡ true) w.1
        (and_from _ (nat_lt n MAX_STATEMENTS)
        (and_from _ (nat_lt (submitted h) MAX_SUBMITS)
        (and_from (may_go_on_with sc.f (session_caller sc.f s) x.txn h) (n + 1 == n + 1) (may opened) (eq-eqb (n + 1) (n + 1) refl)) limits.0) limits.1)

    closed_none : is_open (phase_of x.txn h) ≡ false → (t : ℕ) → session_of t h ≡ Some s → is_open (phase_of t h) ≡ true → ⊥
    closed_none closed t of_s opened =
        let l = is_last.latest t of_s opened in
        let same = same_some x l.0 (sym is ∙ l.1) in
        not_both (is_open (phase_of t h)) opened (ap (λ u. is_open (phase_of u h)) (sym l.2 ∙ ap (λ (y : Try). y.txn) (sym same)) ∙ closed)

    goes_on : (p : Phase) → phase_of x.txn h ≡ p → (e : Event) → go_on sc s x p h ≡ Some e → is_allowed sc.f (length sc.scripts) (session_caller sc.f s) e h ≡ true
    goes_on phase.Active at e got =
        let block = chained (call_in x.txn (length (submits x.txn h)) h) (numbered (script sc s) x.block) e got in
        in_block (slice_get (block.0).stmts (length (submits x.txn h))) (block.0).commits e (ap is_open at) block.1
    goes_on (phase.Asked n) at e got = absurd (some_none e (sym got))
    goes_on (phase.Logged n) at e got = begin_allowed_next (Some x) e got (closed_none (ap is_open at))
    goes_on phase.RolledBack at e got = begin_allowed_next (Some x) e got (closed_none (ap is_open at))
    goes_on phase.Refused at e got = begin_allowed_next (Some x) e got (closed_none (ap is_open at))

  after_last : (last : Option Try) → last_try sc.retries s h ≡ last → is_waiting (reply_to s h) ≡ false → (e : Event) → call_after sc s last h ≡ Some e
      → is_allowed sc.f (length sc.scripts) (session_caller sc.f s) e h ≡ true
  after_last None is idle e got = begin_allowed_next None e got (λ t of_s opened. let l = is_last.latest t of_s opened in some_none l.0 (sym l.1 ∙ is))
  after_last (Some x) is idle e got = goes_on x is idle (phase_of x.txn h) refl e got

  by_waiting : (b : Bool) → is_waiting (reply_to s h) ≡ b → (e : Event) → cond b None (call_after sc s (last_try sc.retries s h) h) ≡ Some e → is_allowed sc.f (length sc.scripts) (session_caller sc.f s) e h ≡ true
  by_waiting true is e got = absurd (some_none e (sym got))
  by_waiting false is e got = after_last (last_try sc.retries s h) refl is e got

  pub next_allowed : (e : Event) → next_call_of sc s h ≡ Some e → is_allowed sc.f (length sc.scripts) (session_caller sc.f s) e h ≡ true
  next_allowed e got = by_waiting (is_waiting (reply_to s h)) refl e got
