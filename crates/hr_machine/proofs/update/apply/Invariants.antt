use Rattle.std.proofs.Common.{◌≡◌, length}
use Rattle.hr_machine.specs.Changes.{changed_rows}
use Rattle.hr_machine.proofs.update.apply.Given as goal

abbrev pub invariant-changes : goal.invariant-changes
invariant-changes l = changed_rows l.table.items l.rest.items ≡ changed_rows l.fn.table.items l.fn.changes.items

abbrev pub decreases-changes : goal.decreases-changes
decreases-changes l = length l.rest.items
