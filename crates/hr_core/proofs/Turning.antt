-- How a turn goes on.
use Rattle.std.proofs.Common.{◌≡◌, ℕ, ◌+◌, ◌≤◌, true, ◌==◌, Some, List, [], ◌∷◌, ◌++◌, length, IsTrue, refl, ap, sym, ◌∙◌, subst, arith}
use Rattle.std.proofs.lemmas.Bool.{eq-eqb}
use Rattle.hr_history.specs.declared.entry.Entry.{Entry}
use Rattle.hr_history.specs.declared.entry.Event.{Event}
use Rattle.hr_history.specs.History.{History}
use Rattle.hr_history.specs.Rules.{due}
use Rattle.hr_history.specs.Transactions.{begun, asks}
use Rattle.hr_history.specs.Turn.{turn_of}
use Rattle.hr_history.specs.Turns.{FollowFrom, is_due}
use Rattle.hr_history.specs.View.{view_of}
use Rattle.hr_history.specs.Step.{view_step}
use Rattle.hr_history.specs.Faithful.{Begun, is_turn_of, same_event}
use Rattle.hr_history.proofs.ViewSteps.{view_same}
use Rattle.hr_moves.specs.Callers.{IsTurn}
use Rattle.hr_moves.specs.Measure.{todo_in}
use Rattle.hr_sane.proofs.Begun.{begun_sane}
use Rattle.hr_sane.proofs.MeasureLaws.{due_fits, due_falls}
use Rattle.hr_history.specs.declared.cause.CauseAt.{CauseAt}
use Rattle.hr_history.specs.declared.entry.Event.TheVariants as event
use Rattle.hr_moves.specs.Fits.{IsOpen}
use Rattle.hr_records.proofs.ViewWords.{open_seen}
use Rattle.hr_due.specs.declared.follow_up.FollowUp.{FollowUp}
use Rattle.hr_due.specs.FollowUps.{event_of}
use Rattle.hr_ledger.specs.Chronicle.{Chronicle, history_in, view_in, HasBegun, IsQuiet, and_entry}
use Rattle.hr_ledger.proofs.Allowed.{due_begins, same_itself}
use Rattle.hr_core.specs.Turns.{IsSameSize, GoesOn, Ends, HasTurn}
use Rattle.hr_core.proofs.Steps.{history_more}

pub goes_nowhere : (caller : ℕ) (c : Chronicle) → GoesOn caller c c
goes_nowhere caller c = record { size = record { f = refl; sessions = refl }; more = []; is = refl; follows = tt }

-- it is this caller's turn still
pub turn_more : (caller : ℕ) (e : Event) (c : Chronicle) → IsTrue (is_turn_of caller (history_in (and_entry caller e c)))
turn_more caller e c = ap (is_turn_of caller) (history_more caller e c) ∙ eq-eqb caller caller refl

module _ (caller : ℕ) (first c : Chronicle) (next : FollowUp) (is_due_now : due c.f (history_in c) ≡ Some (event_of next)) where
  abbrev entry : Entry
  entry = record { caller = caller; event = event_of next }

  pub goes_further : GoesOn caller first c → GoesOn caller first (and_entry caller (event_of next) c)
  goes_further g = record {
    size = record { f = g.size.f; sessions = g.size.sessions };
    more = entry ∷ g.more;
    is = history_more caller (event_of next) c ∙ ap (λ h. entry ∷ h) g.is;
    follows = (
      (λ i. is_due (event_of next) (due (sym g.size.f i) (sym g.is i))) ∙ ap (is_due (event_of next)) is_due_now ∙ same_itself next,
      refl,
      g.follows,
    );
  }

  pub falls : HasBegun c → IsTrue (is_turn_of caller (history_in c)) → todo_in (view_in (and_entry caller (event_of next) c)) + 1 ≤ todo_in (view_in c)
  falls begun turn =
      let h = history_in c in
      let begins = due_begins c.f c.sessions caller (event_of next) h begun is_due_now (same_itself next) turn in
      let now = ap (view_of c.f) (history_more caller (event_of next) c) ∙ view_same c.f c.sessions entry h begins in
      omega (arith, ap todo_in now, due_falls (view_of c.f h) (length h) (asks h) (begun_sane c.f c.sessions h begun) (turn_of h) (event_of next) is_due_now)

-- a call, and all that follows, are a turn
pub has_turn : (caller : ℕ) (call : Event) (before after : Chronicle) → Ends caller (and_entry caller call before) after → HasTurn caller call before after
has_turn caller call before after e = record {
  size = record { f = e.goes_on.size.f; sessions = e.goes_on.size.sessions };
  turn = record {
    more = e.goes_on.more;
    is = e.goes_on.is ∙ ap (λ h. e.goes_on.more ++ h) (history_more caller call before);
    follows = subst (FollowFrom before.f caller e.goes_on.more) (history_more caller call before) e.goes_on.follows;
    ends = ap (λ f. due f (history_in after)) (sym e.goes_on.size.f) ∙ e.quiet;
  };
}

-- what is refused is open
pub due_open : (s : Chronicle) (t : ℕ) (why : CauseAt) → HasBegun s → due s.f (history_in s) ≡ Some (event.Refuse t why) → IsOpen (view_in s) t
due_open s t why begun due_now = due_fits (view_in s) 0 0 (begun_sane s.f s.sessions (history_in s) begun) (turn_of (history_in s)) (event.Refuse t why) due_now

pub open_born : (s : Chronicle) (t : ℕ) → IsOpen (view_in s) t → (1 ≤ t) × (t ≤ length (begun (history_in s)))
open_born s t open_ = (open_seen s.f t (history_in s) open_).0
