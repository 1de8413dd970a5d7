use Rattle.std.proofs.Common.{◌≡◌, ◌++◌}
use Rattle.hr_store.specs.Scans.{committed_rows}
use Rattle.hr_store.proofs.scan.committed_rows.Given as goal

abbrev pub invariant-cells : goal.invariant-cells
invariant-cells l = l.rows ++ committed_rows l.table l.place-iterator ≡ committed_rows l.table l.cells.entries
