use Rattle.std.proofs.Common.{◌≡◌, ◌≤◌, ◌-◌, drop}
use Rattle.hr_eval.specs.SoFar.{led}
use Rattle.hr_machine.specs.Changes.{changes_from}
use Rattle.hr_machine.proofs.update.changes.Given as goal

abbrev pub invariant-rows : goal.invariant-rows
invariant-rows l = record {
  within : l.place ≤ l.span.to;
  rest : led l.changes.items (changes_from l.columns l.update l.place (drop l.place l.table)) ≡ changes_from l.columns l.update 0 l.table;
}

abbrev pub decreases-rows : goal.decreases-rows
decreases-rows l = l.span.to - l.place
