use Rattle.std.proofs.Common.{◌≡◌, replicate, None}
use Rattle.hr_driver.proofs.start.no_tries.Given as goal

abbrev pub invariant-sessions : goal.invariant-sessions
invariant-sessions l = l.tries.items ≡ replicate l.counter None
