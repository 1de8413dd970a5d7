-- The numbers that words are. That they are exactly what `decimal` and `signed_decimal` write is a law.
use Rattle.std.specs.Prelude.{ℕ, ℤ, ◌^◌, nat_lt, Option, Some, None, codes, if◌then◌else◌}
use Rattle.std.specs.Option.{option_and_then}
use Rattle.std.specs.Str.{bytes_eq}
use Rattle.hr_base.specs.Texts.{Text}
use Rattle.hr_line.specs.Numbers.{number_of, signed_of}
use Rattle.hr_line.specs.declared.number.Number.{Number}
use Rattle.hr_line.specs.declared.number.Number.TheVariants as number
use Rattle.hr_line.specs.declared.number.Signed.{Signed}
use Rattle.hr_line.specs.declared.number.Signed.TheVariants as signed

abbrev pub held : Number → Option ℕ
held (number.Of n) = Some n
held number.TooLarge = None

abbrev pub held_signed : Signed → Option ℤ
held_signed (signed.Of n) = Some n
held_signed signed.TooLarge = None

-- a number of 64 bits
abbrev pub long : Text → Option ℕ
long word = option_and_then held (number_of word)

abbrev pub small : ℕ → Option ℕ
small n = if nat_lt n (2 ^ 32) then Some n else None

-- a number of 32 bits
abbrev pub short : Text → Option ℕ
short word = option_and_then small (long word)

-- a number of 64 bits with its sign
abbrev pub key : Text → Option ℤ
key word = if bytes_eq word (codes "-0") then None else option_and_then held_signed (signed_of word)
