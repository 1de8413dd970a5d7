-- How large an answer may be.
use Rattle.std.specs.Prelude.{Bool, true, ◌&&◌, nat_le, List, length}
use Rattle.std.specs.List.{list_all}
use Rattle.hr_base.specs.declared.limits.TheConstants.{MAX_ROWS, MAX_ITEMS}
use Rattle.hr_rel.specs.declared.value.Value.{Value}
use Rattle.hr_rel.specs.declared.answer.Answer.{Answer}
use Rattle.hr_rel.specs.declared.answer.Answer.TheVariants.{Rows, Count, Failed}

abbrev pub is_narrow : List Value → Bool
is_narrow row = nat_le (length row) MAX_ITEMS

-- at most 128 rows of at most 8 values
abbrev pub is_small : Answer → Bool
is_small (Rows rows) = nat_le (length rows) MAX_ROWS && list_all is_narrow rows
is_small (Count n) = true
is_small (Failed e) = true
