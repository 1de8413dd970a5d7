use Rattle.std.proofs.Common.{◌≡◌, ℕ, ◌+◌, ◌-◌, ◌≤◌, ◌<◌, ◌^◌, ◌++◌, [], ◌∷◌, None, Some, List, length, map, refl, sym, ◌∙◌, ap, subst, arith}
use Rattle.hr_history.specs.declared.entry.Entry.{Entry}
use Rattle.hr_history.specs.declared.entry.Event.TheVariants as event
use Rattle.hr_history.specs.Transactions as history
use Rattle.hr_history.specs.View.{View}
use Rattle.hr_moves.specs.Measure.{room_in}
use Rattle.hr_rel.specs.declared.stmt.Stmt.{Stmt}
use Rattle.hr_moves.specs.TurnSteps.{turn_step}
use Rattle.hr_due.specs.FollowUps.{event_of}
use Rattle.hr_entries.specs.declared.stored.Stored.{Stored}
use Rattle.hr_entries.specs.declared.stored.StoredEvent.TheVariants as stored
use Rattle.hr_ledger.specs.Chronicle.{Chronicle, history_in}
use Rattle.hr_ledger.specs.Kept.{plain, history_kept, session_in, IsStep}
use Rattle.hr_ledger.proofs.Allowed.{due_fits_by, due_room_by, due_begins_by, same_itself}
use Rattle.hr_ledger.proofs.Extended.{extends_none, extends_same}
use Rattle.hr_ledger.proofs.FollowUps.{no_reply, no_ask, no_begin, no_submit, no_statement}
use Rattle.hr_ledger.proofs.Steps.{kept_step, with_entry}
use Rattle.hr_ledger.proofs.ledger.Ledger.follow.Goals as goal

step : (c : goal.After-push_reserved) → IsStep (plain c.self.inside) (plain record c.self.inside { stored = c.push_reserved.new.self; turn = c.after.result; view = c.apply.new.view }) record { caller = c.args.caller; event = event_of c.args.next }
step c =
    let l = c.self.inside in
    let place : c.len-place.result ≡ length l.stored.items = c.len-place.ensures ∙ l.stored.ok.0 in
    let seen = c.apply.ensures (length l.stored.items) l.asks in
    let replies = ap (λ (v : View). v.replies) seen ∙ no_reply c.args.next l.view.replies in
    record {
      sessions = refl;
      statements = extends_none l.statements.items;
      replies = extends_same l.view.replies c.apply.new.view.replies replies;
      entry = record { caller = c.args.caller; event = c.followed.result };
      stored = c.push_reserved.ensures.items;
      is = ap {B = Entry} (λ e. record { caller = c.args.caller; event = e }) (c.followed.ensures.is l.statements.items c.apply.new.view.replies);
      within = c.followed.ensures.within (length l.statements.items) (length c.apply.new.view.replies);
      view = seen;
      turn = c.after.ensures ∙ ap (λ n. turn_step l.view (plain l).turn n (event_of c.args.next)) place;
      asks = no_ask c.args.next l.asks;
      few = omega arith;
      begun = no_begin c.args.next (map session_in (plain l).scripts);
      submitted = no_submit c.args.next (length l.statements.items);
      scripts = λ t stmts was. was ∙ ap (λ (xs : List Stmt). map Some xs) (no_statement c.args.next t stmts);
    }

pub apply-requires : goal.apply-requires
apply-requires c = due_fits_by (plain c.self.inside) c.args.self.now c.args.caller (event_of c.args.next) c.self.invariant.kept c.self.view_is c.requires.due

pub push_reserved-requires : goal.push_reserved-requires
push_reserved-requires c = omega (arith, c.self.invariant.room, due_room_by (plain c.self.inside) c.args.self.now c.args.caller (event_of c.args.next) c.self.invariant.kept c.self.view_is c.requires.due 0 0)

pub returns : goal.returns
returns c = with_entry (plain c.self.inside) (plain record c.self.inside { stored = c.push_reserved.new.self; turn = c.after.result; view = c.apply.new.view }) c.args.self.now c.args.caller (event_of c.args.next) c.self.invariant.kept c.self.view_is (step c)

pub invariant_of-self : goal.invariant_of-self
invariant_of-self c =
    let room = due_room_by (plain c.self.inside) c.args.self.now c.args.caller (event_of c.args.next) c.self.invariant.kept c.self.view_is c.requires.due (length c.self.inside.stored.items) c.self.inside.asks in
    record {
      kept = kept_step (plain c.self.inside) (plain record c.self.inside { stored = c.push_reserved.new.self; turn = c.after.result; view = c.apply.new.view }) record { caller = c.args.caller; event = event_of c.args.next } c.self.invariant.kept (step c) (due_begins_by (plain c.self.inside) c.args.self.now c.args.caller (event_of c.args.next) c.self.invariant.kept c.self.view_is c.requires.due (same_itself c.args.next) c.requires.turn);
      room = omega (arith, room, ap room_in (step c).view, c.push_reserved.ensures.len, c.push_reserved.ensures.capacity, c.self.invariant.room);
    }
