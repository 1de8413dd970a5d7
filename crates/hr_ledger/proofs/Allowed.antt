-- An allowed call, where nothing is due, and what is due, go on rightly; and each fits the view.
use Rattle.std.proofs.Common.{◌≡◌, ℕ, ◌+◌, ◌≤◌, true, false, ◌&&◌, ◌==◌, Option, Some, None, ◌∷◌, length, IsTrue, refl, ap, sym, ◌∙◌, subst, arith}
use Rattle.std.proofs.lemmas.Bool.{and_from, eq-eqb}
use Rattle.hr_history.specs.declared.entry.Entry.{Entry}
use Rattle.hr_history.specs.declared.entry.Event.{Event}
use Rattle.hr_history.specs.History.{History, is_call}
use Rattle.hr_history.specs.Rules.{due, due_in}
use Rattle.hr_history.specs.View.{View, view_of}
use Rattle.hr_history.specs.Step.{view_step}
use Rattle.hr_history.specs.Faithful.{Begun, is_begun, is_next, is_allowed, is_turn_of, same_why, same_cause, same_evidence, same_event}
use Rattle.hr_history.specs.declared.cause.CauseAt.{CauseAt}
use Rattle.hr_history.specs.declared.cause.CauseAt.TheVariants as cause
use Rattle.hr_history.specs.declared.cause.Why.{Why}
use Rattle.hr_history.specs.declared.cause.Why.TheVariants as why
use Rattle.hr_history.specs.declared.evidence.Evidence.{Evidence}
use Rattle.hr_history.specs.declared.evidence.Evidence.TheVariants as evidence
use Rattle.hr_due.specs.declared.follow_up.FollowUp.{FollowUp}
use Rattle.hr_due.specs.declared.follow_up.FollowUp.TheVariants as follow
use Rattle.hr_due.specs.FollowUps.{event_of}
use Rattle.hr_moves.specs.Sane.{IsSane}
use Rattle.hr_moves.specs.Fits.{Fits}
use Rattle.hr_moves.specs.Measure.{room_in, reserved_by}
use Rattle.hr_sane.proofs.Begun.{begun_sane, begun_fits}
use Rattle.hr_sane.proofs.RoomLaws.{call_fits}
use Rattle.hr_sane.proofs.RoomFollows.{room_falls}
use Rattle.hr_sane.proofs.MeasureLaws.{due_fits}
use Rattle.hr_ledger.specs.Chronicle.{Chronicle, history_in, IsQuiet, IsAllowed}
use Rattle.hr_ledger.specs.Kept.{PlainLedger, history_kept, seen_plain, AreKept}

module _ (f s caller : ℕ) (e : Event) (h : History) (begun : Begun f s h) where
  abbrev entry : Entry
  entry = record { caller = caller; event = e }

  pub call_begins : due f h ≡ None → IsTrue (is_allowed f s caller e h) → Begun f s (record { caller = caller; event = e } ∷ h)
  call_begins quiet allowed = and_from (is_begun f s h) _ begun (ap (λ o. is_next f s o entry h) quiet ∙ allowed)

  pub due_begins : due f h ≡ Some e → same_event e e ≡ true → IsTrue (is_turn_of caller h) → Begun f s (record { caller = caller; event = e } ∷ h)
  due_begins due_now same turn = and_from (is_begun f s h) _ begun (ap (λ o. is_next f s o entry h) due_now ∙ and_from (same_event e e) (is_turn_of caller h) same turn)

-- what fits the view of the history fits the kept one
module _ (f s caller : ℕ) (e : Event) (h : History) (v : View) (is : v ≡ view_of f h) where
  pub fits_kept : Begun f s (record { caller = caller; event = e } ∷ h) → Fits v e
  fits_kept begins = subst (λ (w : View). Fits w e) (sym is) (begun_fits f s record { caller = caller; event = e } h begins)

  pub sane_kept : Begun f s h → IsSane v
  sane_kept begun = subst IsSane (sym is) (begun_sane f s h begun)

  -- the room that a call leaves
  pub room_left : (place asks : ℕ) → Begun f s h → Begun f s (record { caller = caller; event = e } ∷ h) → is_call e ≡ true → room_in (view_step v place asks e) + 1 ≤ room_in v + reserved_by e
  room_left place asks begun begins call = call_fits v place asks (sane_kept begun) e (fits_kept begins) call

-- ---- of what is kept

module _ (p : PlainLedger) (s : Chronicle) (caller : ℕ) (e : Event) (kept : AreKept p) (is : seen_plain p ≡ s) where
  module _ (quiet : IsQuiet s) (allowed : IsAllowed caller e s) where
    pub begins_by : Begun p.view.f p.sessions (record { caller = caller; event = e } ∷ history_kept p)
    begins_by = call_begins p.view.f p.sessions caller e (history_kept p) kept.begun (subst IsQuiet (sym is) quiet) (subst (IsAllowed caller e) (sym is) allowed)

    pub fits_by : Fits p.view e
    fits_by = fits_kept p.view.f p.sessions caller e (history_kept p) p.view kept.view begins_by

    pub room_by : (place asks : ℕ) → is_call e ≡ true → room_in (view_step p.view place asks e) + 1 ≤ room_in p.view + reserved_by e
    room_by place asks call = room_left p.view.f p.sessions caller e (history_kept p) p.view kept.view place asks kept.begun begins_by call

  module _ (due_now : due s.f (history_in s) ≡ Some e) where
    pub due_kept : due_in p.view p.turn ≡ Some e
    due_kept = (λ i. due_in (kept.view i) (kept.turn i)) ∙ subst (λ (c : Chronicle). due c.f (history_in c) ≡ Some e) (sym is) due_now

    sane : IsSane p.view
    sane = sane_kept p.view.f p.sessions caller e (history_kept p) p.view kept.view kept.begun

    pub due_fits_by : Fits p.view e
    due_fits_by = due_fits p.view 0 0 sane p.turn e due_kept

    pub due_room_by : (place asks : ℕ) → room_in (view_step p.view place asks e) + 1 ≤ room_in p.view
    due_room_by place asks = room_falls p.view place asks sane p.turn e due_kept

    pub due_begins_by : same_event e e ≡ true → IsTrue (is_turn_of caller (history_in s)) → Begun p.view.f p.sessions (record { caller = caller; event = e } ∷ history_kept p)
    due_begins_by same turn =
        due_begins p.view.f p.sessions caller e (history_kept p) kept.begun (subst (λ (c : Chronicle). due c.f (history_in c) ≡ Some e) (sym is) due_now) same
        (subst (λ (c : Chronicle). IsTrue (is_turn_of caller (history_in c))) (sym is) turn)

-- ---- what follows is the same as itself

same_number : (n : ℕ) → (n == n) ≡ true
same_number n = eq-eqb n n refl

same_why_itself : (w : Why) → same_why w w ≡ true
same_why_itself why.Convicted = refl
same_why_itself why.Lost = refl
same_why_itself why.Suspected = refl

same_cause_itself : (c : CauseAt) → same_cause c c ≡ true
same_cause_itself (cause.Deadlock at) = same_number at
same_cause_itself (cause.PrimaryChanged from w at) = and_from ((from == from) && same_why w w) (at == at) (and_from (from == from) (same_why w w) (same_number from) (same_why_itself w)) (same_number at)
same_cause_itself (cause.Differ index by at) = and_from ((index == index) && (by == by)) (at == at) (and_from (index == index) (by == by) (same_number index) (same_number by)) (same_number at)
same_cause_itself (cause.PrimaryMemory at) = same_number at

same_evidence_itself : (e : Evidence) → same_evidence e e ≡ true
same_evidence_itself (evidence.Contradicted t i) = and_from (t == t) (i == i) (same_number t) (same_number i)
same_evidence_itself (evidence.Differs t i) = and_from (t == t) (i == i) (same_number t) (same_number i)
same_evidence_itself (evidence.BadBlocked t) = same_number t
same_evidence_itself (evidence.BadDeadlock t) = same_number t
same_evidence_itself (evidence.BadRestart n) = same_number n

pub same_itself : (next : FollowUp) → same_event (event_of next) (event_of next) ≡ true
same_itself (follow.Decide txn) = same_number txn
same_itself (follow.Refuse txn c) = and_from (txn == txn) (same_cause c c) (same_number txn) (same_cause_itself c)
same_itself (follow.Convict replica e) = and_from (replica == replica) (same_evidence e e) (same_number replica) (same_evidence_itself e)
same_itself (follow.NewPrimary replica) = same_number replica
same_itself (follow.Preempt replica txn) = and_from (replica == replica) (txn == txn) (same_number replica) (same_number txn)
