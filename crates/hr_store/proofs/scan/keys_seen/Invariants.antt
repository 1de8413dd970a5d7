use Rattle.std.proofs.Common.{◌≡◌, ◌++◌}
use Rattle.hr_store.specs.Scans.{keys_seen, cells_between}
use Rattle.hr_store.proofs.scan.keys_seen.Given as goal

abbrev pub invariant-cells : goal.invariant-cells
invariant-cells l = l.keys.items ++ keys_seen l.txn l.place-iterator ≡ keys_seen l.txn (cells_between l.table l.low l.high l.cells.entries)
