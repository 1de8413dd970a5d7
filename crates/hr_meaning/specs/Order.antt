-- The order of values and of rows, for canonical answers, for groups, and for comparisons of what isn't NULL.
use Rattle.std.specs.Prelude.{List}
use Rattle.std.specs.Ordering.{int_cmp, nat_cmp}
use Rattle.std.specs.declared.cmp.Ordering.{Ordering}
use Rattle.std.specs.declared.cmp.Ordering.TheVariants.{Less, Equal, Greater}
use Rattle.std.specs.Cmp.Lexicographic.{slice_cmp}
use Rattle.hr_rel.specs.declared.value.Value.{Value}
use Rattle.hr_rel.specs.declared.value.Value.TheVariants.{Null, Int, Text}

-- the order of values: NULL, then numbers, then texts by their bytes
abbrev pub value_cmp : Value → Value → Ordering
value_cmp Null Null = Equal
value_cmp Null (Int n) = Less
value_cmp Null (Text t) = Less
value_cmp (Int m) Null = Greater
value_cmp (Int m) (Int n) = int_cmp m n
value_cmp (Int m) (Text t) = Less
value_cmp (Text s) Null = Greater
value_cmp (Text s) (Int n) = Greater
value_cmp (Text s) (Text t) = slice_cmp nat_cmp s t

-- the order of rows: the first value that differs decides, and a beginning comes before the whole
abbrev pub row_cmp : List Value → List Value → Ordering
row_cmp a b = slice_cmp value_cmp a b
