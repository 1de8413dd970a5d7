use Rattle.std.proofs.Common.{◌≡◌, ◌||◌, drop, find}
use Rattle.hr_history.specs.Transactions.{is_ended}
use Rattle.hr_history.specs.Processed.{phase_in, attempt_in}
use Rattle.hr_pool.proofs.rollbacks.first_to_stop.Given as goal

abbrev pub invariant-txns : goal.invariant-txns
invariant-txns l =
    find (λ t. is_ended (phase_in l.view t) || (attempt_in l.view l.replica t).preempted) (drop l.txn-index l.txns)
    ≡ find (λ t. is_ended (phase_in l.view t) || (attempt_in l.view l.replica t).preempted) l.txns
