use Rattle.std.proofs.Common.{◌≡◌, map, take}
use Rattle.hr_said.specs.Tables.{column_def}
use Rattle.hr_said.proofs.tables.table_def.Given as goal

abbrev pub invariant-columns : goal.invariant-columns
invariant-columns l = l.defs ≡ map column_def (take l.column-index l.columns)
