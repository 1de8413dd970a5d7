use Rattle.std.proofs.Common.{◌≡◌, map, take}
use Rattle.hr_bind.specs.Bound.{bound_set}
use Rattle.hr_names.specs.Seen.{seen}
use Rattle.hr_bind.proofs.update.bound_sets.Given as goal

abbrev pub invariant-loop-set : goal.invariant-loop-set
invariant-loop-set l = l.all.items ≡ map (bound_set (seen l.scope) l.columns) (take l.set-index l.sets)
