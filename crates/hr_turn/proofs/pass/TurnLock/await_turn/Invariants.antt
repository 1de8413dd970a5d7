use Rattle.std.proofs.Common.{◌≡◌}
use Rattle.hr_turn.specs.Passes.{lock_of}
use Rattle.hr_turn.proofs.pass.TurnLock.await_turn.Given as goal

abbrev pub invariant-looks : goal.invariant-looks
invariant-looks g l = record { lock : lock_of l.pass ≡ lock_of l.fn.pass; same : l.pass.seat.me ≡ l.fn.pass.seat.me }
