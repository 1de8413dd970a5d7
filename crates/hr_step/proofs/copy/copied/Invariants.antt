use Rattle.std.proofs.Common.{◌≡◌, take}
use Rattle.hr_step.proofs.copy.copied.Given as goal

abbrev pub invariant-faults : goal.invariant-faults
invariant-faults l = l.copy.items ≡ take l.fault-index l.script
