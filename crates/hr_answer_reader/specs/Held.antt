-- What the types of the program hold. A definition's numbers and lists have no bounds; a number of the program has 64 bits or
-- 32, and a text at most 64 bytes.
use Rattle.std.specs.Prelude.{ℕ, ◌^◌, Bool, true, ◌&&◌, nat_lt, nat_le, List, length}
use Rattle.std.specs.List.{list_all}
use Rattle.hr_base.specs.Bytes.{is_printable}
use Rattle.hr_base.specs.Texts.{Text}
use Rattle.hr_base.specs.declared.limits.TheConstants.{MAX_TEXT_BYTES}
use Rattle.hr_rel.specs.Kinds.{fits_i64}
use Rattle.hr_rel.specs.declared.value.Value.{Value}
use Rattle.hr_rel.specs.declared.value.Value.TheVariants as value
use Rattle.hr_rel.specs.declared.answer.Answer.{Answer}
use Rattle.hr_rel.specs.declared.answer.Answer.TheVariants.{Rows, Count, Failed}
use Rattle.hr_rel.specs.declared.answer.RunError.{RunError}
use Rattle.hr_rel.specs.declared.answer.RunError.TheVariants.{DuplicateKey, Overflow, NullRefused, TooManyRows, Unfit}

abbrev pub is_text : Text → Bool
is_text bytes = nat_le (length bytes) MAX_TEXT_BYTES && list_all is_printable bytes

abbrev pub is_held_value : Value → Bool
is_held_value value.Null = true
is_held_value (value.Int n) = fits_i64 n
is_held_value (value.Text bytes) = is_text bytes

abbrev pub is_held_row : List Value → Bool
is_held_row row = list_all is_held_value row

abbrev pub is_held_error : RunError → Bool
is_held_error (DuplicateKey n) = fits_i64 n
is_held_error Overflow = true
is_held_error (NullRefused n) = nat_lt n (2 ^ 32)
is_held_error TooManyRows = true
is_held_error Unfit = true

-- an answer that the program can hold
abbrev pub is_held : Answer → Bool
is_held (Rows rows) = nat_lt (length rows) (2 ^ 64) && list_all is_held_row rows
is_held (Count n) = nat_lt n (2 ^ 64)
is_held (Failed e) = is_held_error e
