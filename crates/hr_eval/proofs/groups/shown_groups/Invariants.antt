use Rattle.std.proofs.Common.{◌≡◌, drop}
use Rattle.hr_meaning.specs.Value.{each}
use Rattle.hr_eval.specs.Groups.{group_shown}
use Rattle.hr_eval.specs.SoFar.{led}
use Rattle.hr_eval.proofs.groups.shown_groups.Given as goal

abbrev pub invariant-groups : goal.invariant-groups
invariant-groups l = led l.rows (each group_shown (drop l.group-index l.groups)) ≡ each group_shown l.groups
