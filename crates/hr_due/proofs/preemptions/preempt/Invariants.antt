use Rattle.std.proofs.Common.{◌≡◌, ◌+◌, ◌*◌}
use Rattle.hr_history.specs.Rules.{preemption_at, preempt}
use Rattle.hr_history.specs.Turn.{Turn}
use Rattle.hr_due.proofs.Orders.{first_from}
use Rattle.hr_due.proofs.preemptions.preempt.Given as goal

abbrev pub invariant-replicas : goal.invariant-replicas
invariant-replicas l = (turn : Turn) → first_from (preemption_at l.view turn) l.replica (2 * l.view.f + 1) ≡ preempt l.view turn
