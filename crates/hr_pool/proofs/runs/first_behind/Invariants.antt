use Rattle.std.proofs.Common.{◌≡◌, drop, find}
use Rattle.hr_history.specs.Jobs.{may_repeat}
use Rattle.hr_pool.proofs.runs.first_behind.Given as goal

abbrev pub invariant-txns : goal.invariant-txns
invariant-txns l = find (may_repeat l.view l.replica) (drop l.txn-index l.txns) ≡ find (may_repeat l.view l.replica) l.txns
