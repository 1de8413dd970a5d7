use Rattle.std.proofs.Common.{◌≡◌, take}
use Rattle.hr_range_engine.specs.Shown.{seen_by}
use Rattle.hr_range_engine.specs.Changed.{new_rows}
use Rattle.hr_range_engine.proofs.write.new_rows.Given as goal

abbrev pub invariant-rows : goal.invariant-rows
invariant-rows l = l.new.items ≡ new_rows (seen_by l.store l.txn l.table) (take l.row-index l.rows)
