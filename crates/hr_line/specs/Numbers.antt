-- Numbers in a line.
use Rattle.std.specs.Prelude.{ℕ, ℤ, pos, neg_ℤ, ◌^◌, Bool, ◌||◌, ◌&&◌, nat_lt, nat_le, nat_eq, not, ◌==◌, List, [], ◌∷◌, length, slice_index, Option, Some, None, if◌then◌else◌}
use Rattle.std.specs.Char.{is_ascii_digit}
use Rattle.std.specs.List.{list_all}
use Rattle.std.specs.Option.{option_map}
use Rattle.std.specs.Str.Parse.{digits_value}
use Rattle.hr_base.specs.Texts.{Text}
use Rattle.hr_line.specs.declared.number.Number.{Number}
use Rattle.hr_line.specs.declared.number.Number.TheVariants as numbers
use Rattle.hr_line.specs.declared.number.Signed.{Signed}
use Rattle.hr_line.specs.declared.number.Signed.TheVariants as signs

-- digits, the first of which is 0 only where it is the only one
abbrev pub is_number : Text → Bool
is_number word = nat_lt 0 (length word) && list_all is_ascii_digit word && (not (slice_index word 0 == 48) || length word == 1)

-- a number, as far as 64 bits hold it
abbrev pub number : ℕ → Number
number n = if nat_lt n (2 ^ 64) then numbers.Of n else numbers.TooLarge

-- the number that a word is
unfoldable pub number_of : Text → Option Number
number_of word = if is_number word then Some (number (digits_value 10 word)) else None

-- a number with its sign, as far as 64 bits hold it
abbrev pub plain : Number → Signed
plain (numbers.Of n) = if nat_lt n (2 ^ 63) then signs.Of (pos n) else signs.TooLarge
plain numbers.TooLarge = signs.TooLarge

abbrev pub negated : Number → Signed
negated (numbers.Of n) = if nat_le n (2 ^ 63) then signs.Of (neg_ℤ (pos n)) else signs.TooLarge
negated numbers.TooLarge = signs.TooLarge

-- the number that a word is where `-` may stand before it
unfoldable pub signed_of : Text → Option Signed
signed_of [] = None
signed_of (b ∷ word) = if b == 45 then option_map negated (number_of word) else option_map plain (number_of (b ∷ word))
