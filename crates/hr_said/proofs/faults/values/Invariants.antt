use Rattle.std.proofs.Common.{◌≡◌, map, take}
use Rattle.hr_said.specs.Limits.{value}
use Rattle.hr_said.proofs.faults.values.Given as goal

abbrev pub invariant-numbers : goal.invariant-numbers
invariant-numbers l = l.all ≡ map value (take l.number-index l.numbers)
