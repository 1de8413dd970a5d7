use Rattle.std.proofs.Common.{◌≡◌, map, take}
use Rattle.hr_bind.specs.Bound.{bound_column}
use Rattle.hr_names.specs.Seen.{seen}
use Rattle.hr_bind.proofs.select.bound_groups.Given as goal

abbrev pub invariant-loop-group : goal.invariant-loop-group
invariant-loop-group l = l.all.items ≡ map (bound_column (seen l.scope)) (take l.group-index l.groups)
