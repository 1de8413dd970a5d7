-- What the code judges conditions on, as the definitions see it.
use Rattle.std.specs.Prelude.{List, [], ◌∷◌, Option, unwrap_or}
use Rattle.hr_rel.specs.declared.value.Value.{Value}
use Rattle.hr_rel.specs.declared.value.Value.TheVariants as value
use Rattle.hr_eval.specs.declared.tuple.Tuple.{Tuple}
use Rattle.hr_eval.specs.declared.tuple.Tuple.TheVariants as tuple

-- the row, or the two rows of the pair
abbrev pub rows_in : Tuple → List (List Value)
rows_in (tuple.Row row) = row.now ∷ []
rows_in (tuple.Pair first second) = first.now ∷ second.now ∷ []

-- a value that isn't there counts as NULL
abbrev pub or_null : Option Value → Value
or_null v = unwrap_or v value.Null
