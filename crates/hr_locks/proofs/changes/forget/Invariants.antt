use Rattle.std.proofs.Common.{◌≡◌}
use Rattle.hr_locks.specs.Waits.{pairs}
use Rattle.hr_locks.proofs.WaitLemmas.{so_far}
use Rattle.hr_locks.proofs.changes.forget.Given as goal

abbrev pub invariant-waits : goal.invariant-waits
invariant-waits l = pairs l.waits ≡ so_far l.txn l.wait-index (pairs l.fn.waits)
