use Rattle.std.proofs.Common.{◌≡◌, drop}
use Rattle.hr_base.specs.Lists.{has}
use Rattle.hr_progress.proofs.waits.is_among.Given as goal

abbrev pub invariant-txns : goal.invariant-txns
invariant-txns l = has (drop l.other-index l.txns) l.txn ≡ has l.txns l.txn
