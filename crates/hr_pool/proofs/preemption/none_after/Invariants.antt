use Rattle.std.proofs.Common.{◌≡◌, drop, not}
use Rattle.std.specs.List.{list_all}
use Rattle.hr_history.specs.Ranks.{ranks_before}
use Rattle.hr_pool.proofs.preemption.none_after.Given as goal

abbrev pub invariant-txns : goal.invariant-txns
invariant-txns l = list_all (λ t. not (ranks_before l.view l.txn t)) (drop l.other-index l.txns) ≡ list_all (λ t. not (ranks_before l.view l.txn t)) l.txns
