use Rattle.std.proofs.Common.{length, ◌-◌, ◌≤◌, nat_lt, take_while}
use Rattle.hr_progress.proofs.progress.lower_than.Given as goal

abbrev pub invariant-txns : goal.invariant-txns
invariant-txns l = l.place ≤ length (take_while (λ u. nat_lt u l.txn) l.txns)

abbrev pub decreases-txns : goal.decreases-txns
decreases-txns l = length l.txns - l.place
