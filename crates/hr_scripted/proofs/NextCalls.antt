-- What the next call of a script shows.
use Rattle.std.proofs.Common.{◌≡◌, ◌⊎◌, inl, inr, ℕ, zero, suc, ◌+◌, ◌≤◌, Bool, true, false, cond, Option, Some, None, List, [], length, refl, ap, sym, ◌∙◌}
use Rattle.std.specs.Prelude.{slice_get, option_and_then, is_some, unwrap_or}
use Rattle.hr_base.specs.Lists.{numbered, when}
use Rattle.hr_rel.specs.declared.stmt.Stmt.{Stmt}
use Rattle.hr_said.specs.declared.scenario.Scenario.{Scenario}
use Rattle.hr_said.specs.declared.scenario.Block.{Block}
use Rattle.hr_history.specs.declared.entry.Event.{Event}
use Rattle.hr_history.specs.declared.entry.Event.TheVariants as event
use Rattle.hr_history.specs.declared.phase.Phase.{Phase}
use Rattle.hr_history.specs.declared.phase.Phase.TheVariants as phase
use Rattle.hr_history.specs.History.{History}
use Rattle.hr_history.specs.Transactions.{begun, submits, phase_of}
use Rattle.hr_history.specs.Replies.{reply_to, is_waiting}
use Rattle.hr_records.proofs.Options.{same_some, some_none}
use Rattle.hr_records.proofs.Places.{numbered_born}
use Rattle.hr_schedule.specs.declared.attempt.Try.{Try}
use Rattle.hr_schedule.specs.Tries.{last_try, try_after}
use Rattle.hr_schedule.specs.Scripts.{may_submit, end_call, call_or_end, call_in, script, begin_next, go_on, call_after, next_call_of}
use Rattle.hr_scripted.specs.Calls.{is_session_call}

when_some : {X : Type 0} (b : Bool) (x y : X) → when b x ≡ Some y → (b ≡ true) × (x ≡ y)
when_some true x y e = (refl, same_some x y e)
when_some false x y e = absurd (some_none y (sym e))

chained : {X Y : Type 0} (g : X → Option Y) (o : Option X) (y : Y) → option_and_then g o ≡ Some y → (x : X) × (o ≡ Some x) × (g x ≡ Some y)
chained g None y e = absurd (some_none y (sym e))
chained g (Some x) y e = (x, refl, e)

-- It begins the session's next try, whose block the script has.
pub record IsBegin (sc : Scenario) (s : ℕ) (h : History) (e : Event) : Type 0 where
  pub is : event.Begin s (length (begun h) + 1) ≡ e
  pub there : is_some (numbered (script sc s) (try_after sc.retries (last_try sc.retries s h) (λ t. phase_of t h) 0).block) ≡ true

-- It is a call within the block of the session's last try, which is active: the next statement, or the end.
pub record IsWithin (sc : Scenario) (s : ℕ) (h : History) (e : Event) : Type 0 where
  pub last : Try
  pub is_last : last_try sc.retries s h ≡ Some last
  pub active : phase_of last.txn h ≡ phase.Active
  pub block : Block
  pub there : numbered (script sc s) last.block ≡ Some block
  pub call : call_in last.txn (length (submits last.txn h)) h block ≡ Some e

module _ (sc : Scenario) (s : ℕ) (h : History) where
  begins : (last : Option Try) → last_try sc.retries s h ≡ last → (e : Event) → begin_next sc s last h ≡ Some e → IsBegin sc s h e
  begins last is e got =
      let w = when_some (is_some (numbered (script sc s) (try_after sc.retries last (λ t. phase_of t h) 0).block)) (event.Begin s (length (begun h) + 1)) e got in
      record { is = w.1; there = ap (λ o. is_some (numbered (script sc s) (try_after sc.retries o (λ t. phase_of t h) 0).block)) is ∙ w.0 }

  goes_on : (x : Try) → last_try sc.retries s h ≡ Some x → (p : Phase) → phase_of x.txn h ≡ p → (e : Event) → go_on sc s x p h ≡ Some e → IsBegin sc s h e ⊎ IsWithin sc s h e
  goes_on x is phase.Active at e got =
      let block = chained (call_in x.txn (length (submits x.txn h)) h) (numbered (script sc s) x.block) e got in
      inr (record { last = x; is_last = is; active = at; block = block.0; there = block.1; call = block.2 })
  goes_on x is (phase.Asked n) at e got = absurd (some_none e (sym got))
  goes_on x is (phase.Logged n) at e got = inl (begins (Some x) is e got)
  goes_on x is phase.RolledBack at e got = inl (begins (Some x) is e got)
  goes_on x is phase.Refused at e got = inl (begins (Some x) is e got)

  after_last : (last : Option Try) → last_try sc.retries s h ≡ last → (e : Event) → call_after sc s last h ≡ Some e → IsBegin sc s h e ⊎ IsWithin sc s h e
  after_last None is e got = inl (begins None is e got)
  after_last (Some x) is e got = goes_on x is (phase_of x.txn h) refl e got

  by_waiting : (b : Bool) (e : Event) → cond b None (call_after sc s (last_try sc.retries s h) h) ≡ Some e → IsBegin sc s h e ⊎ IsWithin sc s h e
  by_waiting true e got = absurd (some_none e (sym got))
  by_waiting false e got = after_last (last_try sc.retries s h) refl e got

  pub shows : (e : Event) → next_call_of sc s h ≡ Some e → IsBegin sc s h e ⊎ IsWithin sc s h e
  shows e got = by_waiting (is_waiting (reply_to s h)) e got

-- ---- within a block

-- the next statement, or where there is none, the end
pub stmt_or_end : (stmt : Option Stmt) (commits : Bool) (t n : ℕ) (h : History) (e : Event) → call_or_end stmt commits t n h ≡ Some e
    → ((x : Stmt) × (stmt ≡ Some x) × (event.Submit t (n + 1) x ≡ e)) ⊎ ((stmt ≡ None) × (end_call commits t ≡ e))
stmt_or_end (Some x) commits t n h e got = inl (x, refl, (when_some (may_submit n h) (event.Submit t (n + 1) x) e got).1)
stmt_or_end None commits t n h e got = inr (refl, same_some (end_call commits t) e got)

end_is_sessions : (commits : Bool) (t : ℕ) → is_session_call (end_call commits t) ≡ true
end_is_sessions true t = refl
end_is_sessions false t = refl

-- ---- whose call it is

module _ (sc : Scenario) (s : ℕ) (h : History) (e : Event) (got : next_call_of sc s h ≡ Some e) where
  -- it is a session's
  pub is_sessions : is_session_call e ≡ true
  is_sessions = elim (shows sc s h e got) [ inl begin ↦ ap is_session_call (sym begin.is) | inr within ↦ of_block within ]
    where
      of_block : IsWithin sc s h e → is_session_call e ≡ true
      of_block w = elim (stmt_or_end (slice_get (w.block).stmts (length (submits (w.last).txn h))) (w.block).commits (w.last).txn (length (submits (w.last).txn h)) h e w.call) [
        | inl stmt ↦ ap is_session_call (sym stmt.2)
        | inr end ↦ (ap is_session_call (sym end.1) ∙ end_is_sessions (w.block).commits (w.last).txn)
      ]

  none_of_nothing : {X : Type 0} (n : ℕ) (x : X) → numbered [] n ≡ Some x → ⊥
  none_of_nothing zero x e = some_none x (sym e)
  none_of_nothing (suc n) x e = some_none x (sym e)

  none_there : (n : ℕ) → is_some (numbered {X = Block} [] n) ≡ true → ⊥
  none_there zero e = cc
  none_there (suc n) e = cc

  -- of a session that has a script
  scripted_by : (o : Option (List Block)) → numbered sc.scripts s ≡ o → (bs : List Block) × (numbered sc.scripts s ≡ Some bs)
  scripted_by (Some bs) is = (bs, is)
  scripted_by None is =
      let empty : script sc s ≡ [] = ap (λ (o : Option (List Block)). unwrap_or o []) is in
      elim (shows sc s h e got) [
        | inl begin ↦ absurd (none_there _ (ap (λ (bs : List Block). is_some (numbered bs (try_after sc.retries (last_try sc.retries s h) (λ t. phase_of t h) 0).block)) (sym empty) ∙ begin.there))
        | inr within ↦ absurd (none_of_nothing (within.last).block within.block (ap (λ (bs : List Block). numbered bs (within.last).block) (sym empty) ∙ within.there))
      ]

  pub is_of_scenario : (1 ≤ s) × (s ≤ length sc.scripts)
  is_of_scenario = let has = scripted_by (numbered sc.scripts s) refl in numbered_born sc.scripts s has.0 has.1
