use Rattle.std.proofs.Common.{◌≡◌, ◌++◌, drop}
use Rattle.hr_parts.specs.Keys.{entry_parts}
use Rattle.hr_plan.specs.Needs.{parts_of}
use Rattle.hr_plan.proofs.needs.put_entries.Given as goal

-- the parts so far and those of the entries that are left are all
abbrev pub invariant-entries : goal.invariant-entries
invariant-entries l = parts_of l.needs.items ++ entry_parts l.entry l.select (drop l.entry l.tables) ≡ parts_of l.fn.needs.items ++ entry_parts 0 l.select l.tables
