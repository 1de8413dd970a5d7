use Rattle.std.proofs.Common.{◌≡◌, drop}
use Rattle.std.specs.List.{list_all}
use Rattle.hr_history.specs.Preemption.{stays}
use Rattle.hr_pool.proofs.preemption.all_stay.Given as goal

abbrev pub invariant-txns : goal.invariant-txns
invariant-txns l = list_all (stays l.view l.replica) (drop l.txn-index l.txns) ≡ list_all (stays l.view l.replica) l.txns
