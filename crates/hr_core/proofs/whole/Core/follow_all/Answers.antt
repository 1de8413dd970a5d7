use Rattle.std.proofs.Common.{◌≡◌, ◌+◌, ◌≤◌, IsTrue, sym, subst, arith, ap, ◌∙◌}
use Rattle.hr_history.specs.Faithful.{is_turn_of}
use Rattle.hr_moves.specs.Measure.{todo_in}
use Rattle.hr_ledger.specs.Chronicle.{Chronicle, history_in, view_in}
use Rattle.hr_due.specs.FollowUps.{event_of}
use Rattle.hr_core.specs.Turns.{GoesOn}
use Rattle.hr_core.proofs.Turning.{goes_nowhere, goes_further, turn_more, falls}
use Rattle.hr_core.proofs.whole.Core.follow_all.Goals as goal

pub turn-init : goal.turn-init
turn-init c = record { goes = goes_nowhere c.args.caller c.args.self.now; turn = c.requires }

pub follow-requires-clause-due : goal.follow-requires-clause-due
follow-requires-clause-due c = sym c.in-Some.ensures.due

pub turn-preserved : goal.turn-preserved
turn-preserved c = record {
  goes = subst (GoesOn c.args.caller c.args.self.now) (sym c.follow.ensures) (goes_further c.args.caller c.args.self.now c.turn.self c.in-Some.next (sym c.in-Some.ensures.due) c.turn.invariant.goes);
  turn = subst (λ (s : Chronicle). IsTrue (is_turn_of c.args.caller (history_in s))) (sym c.follow.ensures) (turn_more c.args.caller (event_of c.in-Some.next) c.turn.self);
}

pub turn-smaller : goal.turn-smaller
turn-smaller c =
    let less = falls c.args.caller c.args.self.now c.turn.self c.in-Some.next (sym c.in-Some.ensures.due) c.in-Some.ensures.begun c.turn.invariant.turn in
    omega (arith, less, ap (λ (s : Chronicle). todo_in (view_in s)) c.follow.ensures)
