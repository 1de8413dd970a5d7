-- The kinds of values.
use Rattle.std.specs.Prelude.{ℤ, ◌^◌, pos, negsuc, nat_lt, Bool, true, false, not, ◌&&◌}
use Rattle.hr_rel.specs.declared.value.Value.{Value}
use Rattle.hr_rel.specs.declared.value.Value.TheVariants as value
use Rattle.hr_rel.specs.declared.catalog.ColumnDef.{ColumnDef}
use Rattle.hr_rel.specs.declared.catalog.ColKind.{ColKind}
use Rattle.hr_rel.specs.declared.catalog.ColKind.TheVariants as kind

-- whether a number is a signed one of 64 bits, -2^63 to 2^63 - 1
abbrev pub fits_i64 : ℤ → Bool
fits_i64 (pos n) = nat_lt n (2 ^ 63)
fits_i64 (negsuc n) = nat_lt n (2 ^ 63)

abbrev pub same_kind : ColKind → ColKind → Bool
same_kind kind.Int kind.Int = true
same_kind kind.Int kind.Text = false
same_kind kind.Text kind.Int = false
same_kind kind.Text kind.Text = true

-- Whether a value is of a column's kind; NULL is of each. Every number of the program has 64 bits; the definitions know numbers
-- without bounds, so it is said here.
abbrev pub is_of_kind : ColKind → Value → Bool
is_of_kind k value.Null = true
is_of_kind kind.Int (value.Int n) = fits_i64 n
is_of_kind kind.Int (value.Text t) = false
is_of_kind kind.Text (value.Int n) = false
is_of_kind kind.Text (value.Text t) = true

abbrev pub is_null : Value → Bool
is_null value.Null = true
is_null _ = false

-- whether NULL comes to a column that takes none
abbrev pub refuses : ColumnDef × Value → Bool
refuses p = is_null p.1 && not p.0.nullable
