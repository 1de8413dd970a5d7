use Rattle.std.proofs.Common.{◌≡◌, drop}
use Rattle.hr_locks.specs.Waits.{wait_in}
use Rattle.hr_locks.proofs.search.wait_of.Given as goal

abbrev pub invariant-waits : goal.invariant-waits
invariant-waits l = wait_in (drop l.wait-index l.waits) l.txn ≡ wait_in l.waits l.txn
