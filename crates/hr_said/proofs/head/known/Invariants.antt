use Rattle.std.proofs.Common.{◌≡◌, map, take}
use Rattle.hr_said.specs.Head.{known}
use Rattle.hr_said.proofs.head.known.Given as goal

abbrev pub invariant-kinds : goal.invariant-kinds
invariant-kinds l = l.all ≡ map known (take l.kind-index l.kinds)
