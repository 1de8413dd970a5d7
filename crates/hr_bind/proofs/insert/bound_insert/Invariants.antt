use Rattle.std.proofs.Common.{◌≡◌, map, take}
use Rattle.hr_bind.specs.Bound.{bound_row}
use Rattle.hr_bind.proofs.insert.bound_insert.Given as goal

abbrev pub invariant-loop-tuple : goal.invariant-loop-tuple
invariant-loop-tuple l = l.rows.items ≡ map (bound_row l.columns l.insert.columns) (take l.tuple-index l.insert.tuples)
