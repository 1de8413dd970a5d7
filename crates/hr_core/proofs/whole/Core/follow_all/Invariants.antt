use Rattle.std.proofs.Common.{IsTrue}
use Rattle.hr_history.specs.Faithful.{is_turn_of}
use Rattle.hr_moves.specs.Measure.{todo_in}
use Rattle.hr_ledger.specs.Chronicle.{history_in, view_in}
use Rattle.hr_core.specs.Turns.{GoesOn}
use Rattle.hr_core.proofs.whole.Core.follow_all.Given as goal

abbrev pub invariant-turn : goal.invariant-turn
invariant-turn l = record {
  goes : GoesOn l.caller l.fn.self l.self;
  turn : IsTrue (is_turn_of l.caller (history_in l.self));
}

abbrev pub decreases-turn : goal.decreases-turn
decreases-turn l = todo_in (view_in l.self)
