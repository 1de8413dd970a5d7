use Rattle.std.proofs.Common.{◌≡◌, map, take}
use Rattle.hr_bind.specs.Bound.{bound_item}
use Rattle.hr_names.specs.Seen.{seen}
use Rattle.hr_bind.proofs.select.listed_items.Given as goal

abbrev pub invariant-loop-item : goal.invariant-loop-item
invariant-loop-item l = l.all.items ≡ map (bound_item (seen l.scope)) (take l.item-index l.items)
