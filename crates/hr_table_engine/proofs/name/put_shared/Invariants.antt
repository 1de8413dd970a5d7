use Rattle.std.proofs.Common.{◌≡◌, ◌++◌, false, map, take}
use Rattle.hr_parts.specs.Footprints.{whole}
use Rattle.hr_table_engine.specs.Names.{table_part}
use Rattle.hr_table_engine.proofs.name.put_shared.Given as goal

-- the tables so far
abbrev pub invariant-tables : goal.invariant-tables
invariant-tables l = map table_part l.needs.items ≡ map table_part l.fn.needs.items ++ map (whole false) (take l.table-index l.tables)
