use Rattle.std.proofs.Common.{◌≡◌, ℕ, length, take, slice_get}
use Rattle.std.specs.Prelude.{IfSome}
use Rattle.hr_schedule.specs.Claims.{rows_at}
use Rattle.hr_step.specs.Within.{Shows}
use Rattle.hr_step.proofs.run.dumps.Given as goal

abbrev pub invariant-replicas : goal.invariant-replicas
invariant-replicas g l = record {
  many : length l.dumps.items ≡ l.backend-index;
  shown : (r : ℕ) → IfSome (slice_get (take l.backend-index l.backends) r) (λ b. Shows g.B.Backend.make g.B.Backend.stands b (rows_at l.dumps.items r));
}
