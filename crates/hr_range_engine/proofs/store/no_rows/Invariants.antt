use Rattle.std.proofs.Common.{◌≡◌, [], replicate}
use Rattle.hr_range_engine.proofs.store.no_rows.Given as goal

abbrev pub invariant-tables : goal.invariant-tables
invariant-tables l = l.tables ≡ replicate l.at []
