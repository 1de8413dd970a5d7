use Rattle.std.proofs.Common.{◌≡◌, drop}
use Rattle.std.specs.List.{list_any}
use Rattle.hr_history.specs.Preemption.{is_last_of_cycle}
use Rattle.hr_pool.proofs.preemption.is_last_of_one.Given as goal

abbrev pub invariant-txns : goal.invariant-txns
invariant-txns l = list_any (is_last_of_cycle l.view l.replica l.txn) (drop l.other-index l.txns) ≡ list_any (is_last_of_cycle l.view l.replica l.txn) l.txns
