use Rattle.std.proofs.Common.{◌≡◌, ℕ, ◌+◌, ◌-◌, ◌≤◌, ◌<◌, ◌^◌, ◌++◌, [], ◌∷◌, None, Some, List, length, map, refl, sym, ◌∙◌, ap, subst, arith}
use Rattle.hr_history.specs.declared.entry.Entry.{Entry}
use Rattle.hr_history.specs.declared.entry.Event.TheVariants as event
use Rattle.hr_history.specs.Transactions as history
use Rattle.hr_history.specs.View.{View}
use Rattle.hr_moves.specs.Measure.{room_in}
use Rattle.hr_due.specs.Turns.{quiet_turn}
use Rattle.hr_entries.specs.declared.stored.Stored.{Stored}
use Rattle.hr_entries.specs.declared.stored.StoredEvent.TheVariants as stored
use Rattle.hr_ledger.specs.Chronicle.{Chronicle, history_in}
use Rattle.hr_ledger.specs.Kept.{plain, history_kept, IsStep}
use Rattle.hr_ledger.proofs.Allowed.{begins_by, fits_by, room_by}
use Rattle.hr_ledger.proofs.Extended.{extends_none, extends_same}
use Rattle.hr_ledger.proofs.Steps.{kept_step, with_entry}
use Rattle.hr_ledger.proofs.ledger.Ledger.ask_rollback.Goals as goal

step : (c : goal.After-push_reserved) → IsStep (plain c.self.inside) (plain record c.self.inside { stored = c.push_reserved.new.self; turn = c.of_call.result; view = c.ask_rollback.new.self }) record { caller = c.args.caller; event = event.AskRollback c.args.txn }
step c =
    let place : c.len.result ≡ length c.self.inside.stored.items = c.len.ensures ∙ c.self.inside.stored.ok.0 in
    let seen = c.ask_rollback.ensures (length c.self.inside.stored.items) c.self.inside.asks in
    record {
      sessions = refl;
      statements = extends_none c.self.inside.statements.items;
      replies = extends_same c.self.inside.view.replies c.ask_rollback.new.self.replies (ap (λ (v : View). v.replies) seen);
      entry = record { caller = c.args.caller; event = stored.AskRollback c.args.txn };
      stored = c.push_reserved.ensures.items;
      is = refl;
      within = refl;
      view = seen;
      turn = c.of_call.ensures ∙ ap quiet_turn place;
      asks = refl;
      few = omega arith;
      begun = refl;
      submitted = refl;
      scripts = λ t stmts was. was;
    }

pub ask_rollback-requires : goal.ask_rollback-requires
ask_rollback-requires c = fits_by (plain c.self.inside) c.args.self.now c.args.caller (event.AskRollback c.args.txn) c.self.invariant.kept c.self.view_is c.requires.quiet c.requires.allowed

pub returns : goal.returns
returns c = with_entry (plain c.self.inside) (plain record c.self.inside { stored = c.push_reserved.new.self; turn = c.of_call.result; view = c.ask_rollback.new.self }) c.args.self.now c.args.caller (event.AskRollback c.args.txn) c.self.invariant.kept c.self.view_is (step c)

pub invariant_of-self : goal.invariant_of-self
invariant_of-self c =
    let room = room_by (plain c.self.inside) c.args.self.now c.args.caller (event.AskRollback c.args.txn) c.self.invariant.kept c.self.view_is c.requires.quiet c.requires.allowed (length c.self.inside.stored.items) c.self.inside.asks refl in
    record {
      kept = kept_step (plain c.self.inside) (plain record c.self.inside { stored = c.push_reserved.new.self; turn = c.of_call.result; view = c.ask_rollback.new.self }) record { caller = c.args.caller; event = event.AskRollback c.args.txn } c.self.invariant.kept (step c) (begins_by (plain c.self.inside) c.args.self.now c.args.caller (event.AskRollback c.args.txn) c.self.invariant.kept c.self.view_is c.requires.quiet c.requires.allowed);
      room = omega (arith, room, ap room_in (step c).view, c.push_reserved.ensures.len, c.push_reserved.ensures.capacity, c.self.invariant.room);
    }

pub push_reserved-requires : goal.push_reserved-requires
push_reserved-requires c = omega (arith, c.self.invariant.room, room_by (plain c.self.inside) c.args.self.now c.args.caller (event.AskRollback c.args.txn) c.self.invariant.kept c.self.view_is c.requires.quiet c.requires.allowed (length c.self.inside.stored.items) c.self.inside.asks refl)
