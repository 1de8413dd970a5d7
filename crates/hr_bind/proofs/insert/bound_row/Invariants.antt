use Rattle.std.proofs.Common.{◌≡◌, map}
use Rattle.std.specs.List.{range_with_len}
use Rattle.hr_bind.specs.Bound.{value_in}
use Rattle.hr_bind.proofs.insert.bound_row.Given as goal

abbrev pub invariant-loop-column : goal.invariant-loop-column
invariant-loop-column l = l.row.items ≡ map (value_in l.columns l.names l.tuple.values) (range_with_len 0 l.column)
