use Rattle.std.proofs.Common.{◌≡◌, ℕ, ◌+◌, ◌-◌, ◌≤◌, ◌<◌, ◌^◌, ◌++◌, [], ◌∷◌, IsTrue, List, length, map, refl, sym, ◌∙◌, ap, subst, arith}
use Rattle.hr_history.specs.declared.entry.Entry.{Entry}
use Rattle.hr_history.specs.declared.entry.Event.TheVariants as event
use Rattle.hr_history.specs.Transactions as history
use Rattle.hr_history.specs.View.{View}
use Rattle.hr_moves.specs.Measure.{room_in}
use Rattle.hr_engine.specs.declared.reply.RunReply.{RunReply}
use Rattle.hr_history.specs.Step.{view_step}
use Rattle.hr_moves.specs.TurnSteps.{turn_step}
use Rattle.hr_entries.specs.Entries.{event_of, is_within}
use Rattle.hr_entries.specs.declared.stored.Stored.{Stored}
use Rattle.hr_entries.specs.declared.stored.StoredEvent.TheVariants as stored
use Rattle.hr_ledger.specs.Chronicle.{Chronicle, history_in}
use Rattle.hr_ledger.specs.Kept.{plain, history_kept, Extends, IsStep}
use Rattle.hr_ledger.proofs.Allowed.{begins_by, fits_by, room_by}
use Rattle.hr_ledger.proofs.Extended.{extends_none, extends_told}
use Rattle.hr_ledger.proofs.Steps.{kept_step, with_entry}
use Rattle.hr_ledger.proofs.ledger.Ledger.give.Goals as goal

step : (c : goal.After-push_reserved) → IsStep (plain c.self.inside) (plain record c.self.inside { stored = c.push_reserved.new.self; turn = c.of_give.result; view = c.give-to.new.self }) record { caller = c.args.caller; event = event.Give c.args.replica c.args.reply }
step c =
    let l = c.self.inside in
    let place : c.len-place.result ≡ length l.stored.items = c.len-place.ensures ∙ l.stored.ok.0 in
    let seen = c.give-to.ensures.step l.asks ∙ ap (λ n. view_step l.view n l.asks (event.Give c.args.replica c.args.reply)) place in
    let replies = ap (λ (v : View). v.replies) seen in
    let told = ap length (sym c.replies.ensures) in
    record {
      sessions = refl;
      statements = extends_none l.statements.items;
      replies = subst (Extends l.view.replies) (sym replies) (extends_told c.args.replica c.args.reply l.view.replies);
      entry = record { caller = c.args.caller; event = c.given-event.result };
      stored = c.push_reserved.ensures.items;
      is = (λ i. record { caller = c.args.caller; event = event_of l.statements.items (replies i) c.given-event.result }) ∙ ap {B = Entry} (λ e. record { caller = c.args.caller; event = e }) (c.given-event.ensures.is l.statements.items l.view.replies told);
      within = subst (λ (rs : List RunReply). IsTrue (is_within (length l.statements.items) (length rs) c.given-event.result)) (sym replies) (c.given-event.ensures.within (length l.statements.items) l.view.replies told);
      view = seen;
      turn = c.of_give.ensures (plain l).turn ∙ ap (λ n. turn_step l.view (plain l).turn n (event.Give c.args.replica c.args.reply)) place;
      asks = refl;
      few = omega arith;
      begun = refl;
      submitted = refl;
      scripts = λ t stmts was. was;
    }

pub give-to-requires-clause-fits : goal.give-to-requires-clause-fits
give-to-requires-clause-fits c = (fits_by (plain c.self.inside) c.args.self.now c.args.caller (event.Give c.args.replica c.args.reply) c.self.invariant.kept c.self.view_is c.requires.quiet c.requires.allowed).1

pub push_reserved-requires : goal.push_reserved-requires
push_reserved-requires c = omega (arith, c.self.invariant.room, room_by (plain c.self.inside) c.args.self.now c.args.caller (event.Give c.args.replica c.args.reply) c.self.invariant.kept c.self.view_is c.requires.quiet c.requires.allowed (length c.self.inside.stored.items) c.self.inside.asks refl)

pub returns-clause-entry : goal.returns-clause-entry
returns-clause-entry c = with_entry (plain c.self.inside) (plain record c.self.inside { stored = c.push_reserved.new.self; turn = c.of_give.result; view = c.give-to.new.self }) c.args.self.now c.args.caller (event.Give c.args.replica c.args.reply) c.self.invariant.kept c.self.view_is (step c)

pub invariant_of-self : goal.invariant_of-self
invariant_of-self c =
    let room = room_by (plain c.self.inside) c.args.self.now c.args.caller (event.Give c.args.replica c.args.reply) c.self.invariant.kept c.self.view_is c.requires.quiet c.requires.allowed (length c.self.inside.stored.items) c.self.inside.asks refl in
    record {
      kept = kept_step (plain c.self.inside) (plain record c.self.inside { stored = c.push_reserved.new.self; turn = c.of_give.result; view = c.give-to.new.self }) record { caller = c.args.caller; event = event.Give c.args.replica c.args.reply } c.self.invariant.kept (step c) (begins_by (plain c.self.inside) c.args.self.now c.args.caller (event.Give c.args.replica c.args.reply) c.self.invariant.kept c.self.view_is c.requires.quiet c.requires.allowed);
      room = omega (arith, room, ap room_in (step c).view, c.push_reserved.ensures.len, c.push_reserved.ensures.capacity, c.self.invariant.room);
    }
