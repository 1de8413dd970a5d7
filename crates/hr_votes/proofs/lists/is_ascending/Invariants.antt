use Rattle.std.proofs.Common.{◌≡◌, ◌-◌, drop}
use Rattle.hr_base.specs.Lists.{is_ascending}
use Rattle.hr_votes.proofs.lists.is_ascending.Given as goal

abbrev pub invariant-txns : goal.invariant-txns
invariant-txns l = is_ascending (drop (l.place - 1) l.txns) ≡ is_ascending l.txns
