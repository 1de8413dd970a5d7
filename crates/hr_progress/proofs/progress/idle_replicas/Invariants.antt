use Rattle.std.proofs.Common.{◌≡◌, map, replicate}
use Rattle.hr_progress.specs.Plain.{plain_progress, idle_progress}
use Rattle.hr_progress.proofs.progress.idle_replicas.Given as goal

abbrev pub invariant-replicas : goal.invariant-replicas
invariant-replicas l = map plain_progress l.replicas.items ≡ replicate l.counter idle_progress
