use Rattle.std.proofs.Common.{◌≡◌, drop, find}
use Rattle.hr_pool.specs.Searched.{gives_way_here}
use Rattle.hr_pool.proofs.preemption.first_to_give_way.Given as goal

abbrev pub invariant-txns : goal.invariant-txns
invariant-txns l = find (gives_way_here l.view l.replica) (drop l.txn-index l.txns) ≡ find (gives_way_here l.view l.replica) l.txns
