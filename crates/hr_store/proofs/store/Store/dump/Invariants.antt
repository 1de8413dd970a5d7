use Rattle.std.proofs.Common.{◌≡◌}
use Rattle.hr_store.specs.Scans.{all_committed}
use Rattle.hr_store.proofs.store.Store.dump.Given as goal

abbrev pub invariant-tables : goal.invariant-tables
invariant-tables l = l.tables ≡ all_committed l.table l.self.cells.entries
