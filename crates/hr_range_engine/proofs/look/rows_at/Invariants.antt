use Rattle.std.proofs.Common.{◌≡◌, take}
use Rattle.hr_range_engine.specs.Shown.{seen_by, rows_by}
use Rattle.hr_range_engine.proofs.look.rows_at.Given as goal

abbrev pub invariant-keys : goal.invariant-keys
invariant-keys l = l.rows ≡ rows_by (seen_by l.store l.txn l.table) (take l.key-index l.keys)
