use Rattle.std.proofs.Common.{◌≡◌, drop}
use Rattle.hr_base.specs.Lists.{has}
use Rattle.hr_votes.proofs.lists.has.Given as goal

abbrev pub invariant-txns : goal.invariant-txns
invariant-txns l = has (drop l.one-index l.txns) l.txn ≡ has l.txns l.txn
