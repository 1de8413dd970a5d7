use Rattle.std.proofs.Common.{◌≡◌, ℕ, ◌+◌, ◌-◌, ◌≤◌, ◌<◌, ◌^◌, ◌++◌, [], ◌∷◌, None, Some, List, length, map, refl, sym, ◌∙◌, ap, subst, arith}
use Rattle.hr_history.specs.declared.entry.Entry.{Entry}
use Rattle.hr_history.specs.declared.entry.Event.TheVariants as event
use Rattle.hr_history.specs.Transactions as history
use Rattle.hr_history.specs.View.{View}
use Rattle.hr_moves.specs.Measure.{room_in}
use Rattle.hr_moves.specs.TurnSteps.{turn_step}
use Rattle.hr_entries.specs.declared.stored.Stored.{Stored}
use Rattle.hr_entries.specs.declared.stored.StoredEvent.TheVariants as stored
use Rattle.hr_ledger.specs.Chronicle.{Chronicle, history_in}
use Rattle.hr_ledger.specs.Kept.{plain, history_kept, IsStep}
use Rattle.hr_ledger.proofs.Allowed.{begins_by, room_by}
use Rattle.hr_ledger.proofs.Extended.{extends_none, extends_same}
use Rattle.hr_ledger.proofs.Steps.{kept_step, with_entry}
use Rattle.hr_ledger.proofs.ledger.Ledger.suspect.Goals as goal

step : (c : goal.After-push_reserved) → IsStep (plain c.self.inside) (plain record c.self.inside { stored = c.push_reserved.new.self; turn = c.of_suspect.result; view = c.suspect.new.self }) record { caller = c.args.caller; event = event.Suspect }
step c =
    let place : c.len.result ≡ length c.self.inside.stored.items = c.len.ensures ∙ c.reserve.new.stored.ok.0 ∙ ap length c.reserve.ensures.same in
    let seen = c.suspect.ensures (length c.self.inside.stored.items) c.self.inside.asks in
    record {
      sessions = refl;
      statements = extends_none c.self.inside.statements.items;
      replies = extends_same c.self.inside.view.replies c.suspect.new.self.replies (ap (λ (v : View). v.replies) seen);
      entry = record { caller = c.args.caller; event = stored.Suspect };
      stored = c.push_reserved.ensures.items ∙ ap (λ (xs : List Stored). xs ++ record { caller = c.args.caller; event = stored.Suspect } ∷ []) c.reserve.ensures.same;
      is = refl;
      within = refl;
      view = seen;
      turn = c.of_suspect.ensures (plain c.self.inside).turn ∙ ap (λ n. turn_step c.self.inside.view (plain c.self.inside).turn n event.Suspect) place;
      asks = refl;
      few = omega arith;
      begun = refl;
      submitted = refl;
      scripts = λ t stmts was. was;
    }

pub returns-clause-ok : goal.returns-clause-ok
returns-clause-ok c = with_entry (plain c.self.inside) (plain record c.self.inside { stored = c.push_reserved.new.self; turn = c.of_suspect.result; view = c.suspect.new.self }) c.args.self.now c.args.caller event.Suspect c.self.invariant.kept c.self.view_is (step c)

pub invariant_of-self-2 : goal.invariant_of-self-2
invariant_of-self-2 c =
    let room = room_by (plain c.self.inside) c.args.self.now c.args.caller event.Suspect c.self.invariant.kept c.self.view_is c.requires.quiet refl (length c.self.inside.stored.items) c.self.inside.asks refl in
    record {
      kept = kept_step (plain c.self.inside) (plain record c.self.inside { stored = c.push_reserved.new.self; turn = c.of_suspect.result; view = c.suspect.new.self }) record { caller = c.args.caller; event = event.Suspect } c.self.invariant.kept (step c) (begins_by (plain c.self.inside) c.args.self.now c.args.caller event.Suspect c.self.invariant.kept c.self.view_is c.requires.quiet refl);
      room = omega (arith, room, ap room_in (step c).view, c.push_reserved.ensures.len, c.push_reserved.ensures.capacity, c.in_ok-reserve.ensures.ok);
    }
