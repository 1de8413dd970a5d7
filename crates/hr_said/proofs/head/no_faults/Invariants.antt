use Rattle.std.proofs.Common.{◌≡◌, [], replicate}
use Rattle.hr_said.proofs.head.no_faults.Given as goal

abbrev pub invariant-replicas : goal.invariant-replicas
invariant-replicas l = l.faults ≡ replicate l._replica []
