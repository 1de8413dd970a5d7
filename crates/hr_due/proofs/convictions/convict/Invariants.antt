use Rattle.std.proofs.Common.{◌≡◌, ◌+◌, ◌*◌}
use Rattle.hr_history.specs.Rules.{conviction_of, convict}
use Rattle.hr_due.specs.Turns.{turn_in}
use Rattle.hr_due.proofs.Orders.{first_from}
use Rattle.hr_due.proofs.convictions.convict.Given as goal

abbrev pub invariant-replicas : goal.invariant-replicas
invariant-replicas l = first_from (conviction_of l.view (turn_in l.turn)) l.replica (2 * l.view.f + 1) ≡ convict l.view (turn_in l.turn)
