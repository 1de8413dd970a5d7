-- Names of tables and columns in a line.
use Rattle.std.specs.Prelude.{◌≡◌, ℕ, Bool, ◌&&◌, nat_lt, nat_le, not, List, length, slice_index, Option, Some, None, if◌then◌else◌}
use Rattle.std.specs.List.{list_all}
use Rattle.std.specs.Option.{is_some}
use Rattle.std.specs.Str.{str_to_ascii_lowercase}
use Rattle.hr_base.specs.Texts.{Text}
use Rattle.hr_base.specs.declared.limits.TheConstants.{MAX_NAME_BYTES}
use Rattle.hr_lex.specs.Bytes.{is_letter, is_name_byte}
use Rattle.hr_lex.specs.Keywords.{keyword}
use Rattle.hr_line.specs.declared.name.LineName.{LineName}
use Rattle.hr_line.specs.declared.name.LineName.TheVariants.{Short, TooLong}

-- a letter or `_`, and behind it letters, digits and `_`; and no word that SQL keeps for itself
abbrev pub is_name : Text → Bool
is_name word = nat_lt 0 (length word) && is_letter (slice_index word 0) && list_all is_name_byte word && not (is_some (keyword word))

-- a name in small letters, where it isn't too long
abbrev pub named : Text → LineName
named word = if nat_le (length word) MAX_NAME_BYTES then Short (str_to_ascii_lowercase word) else TooLong

-- the name that a word is
unfoldable pub name_of : Text → Option LineName
name_of word = if is_name word then Some (named word) else None
