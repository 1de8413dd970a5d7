use Rattle.std.proofs.Common.{◌≡◌}
use Rattle.hr_turn.specs.Passes.{lock_of, IsFree}
use Rattle.hr_figures.proofs.turns.take_turns.Given as goal

abbrev pub invariant-turns : goal.invariant-turns
invariant-turns g l = record { lock : lock_of l.pass ≡ lock_of l.fn.pass; free : IsFree l.pass }
