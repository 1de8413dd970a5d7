use Rattle.std.proofs.Common.{◌≡◌, ℕ, [], length, slice_get}
use Rattle.std.specs.Prelude.{IfSome}
use Rattle.hr_schedule.specs.Claims.{start, kind_of, script_of}
use Rattle.hr_step.specs.Run.{locking}
use Rattle.hr_step.specs.Within.{IsBehind}
use Rattle.hr_step.proofs.run.backends.Given as goal

abbrev pub invariant-replicas : goal.invariant-replicas
invariant-replicas g l = record {
  many : length l.backends.items ≡ l.replica;
  stand : (r : ℕ) → IfSome (slice_get l.backends.items r) (λ b. g.B.Backend.stands b (start locking l.scenario) []);
  behind : (r : ℕ) → IfSome (slice_get l.backends.items r) (λ b. IsBehind (kind_of locking l.scenario r) (script_of locking l.scenario r) (g.B.Backend.make b));
}
