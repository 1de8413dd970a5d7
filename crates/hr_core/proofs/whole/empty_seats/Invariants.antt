use Rattle.std.proofs.Common.{◌≡◌, replicate}
use Rattle.hr_core.specs.declared.seat.Seat.TheVariants as seat
use Rattle.hr_core.proofs.whole.empty_seats.Given as goal

abbrev pub invariant-sessions : goal.invariant-sessions
invariant-sessions l = l.seats.items ≡ replicate l.counter seat.NothingAsked
