use Rattle.std.proofs.Common.{◌≡◌, map, take}
use Rattle.hr_meaning.specs.Truth.{column_value}
use Rattle.hr_eval.specs.Tuples.{rows_in}
use Rattle.hr_eval.proofs.groups.group_of.Given as goal

abbrev pub invariant-columns : goal.invariant-columns
invariant-columns l = l.key ≡ map (column_value (rows_in l.tuple)) (take l.column-index l.columns)
