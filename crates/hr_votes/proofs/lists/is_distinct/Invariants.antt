use Rattle.std.proofs.Common.{◌≡◌, drop}
use Rattle.hr_base.specs.Lists.{is_distinct}
use Rattle.hr_votes.proofs.lists.is_distinct.Given as goal

abbrev pub invariant-txns : goal.invariant-txns
invariant-txns l = is_distinct (drop l.place l.txns) ≡ is_distinct l.txns
