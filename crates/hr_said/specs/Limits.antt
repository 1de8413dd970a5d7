-- Where lines may stand, and numbers and names within their limits.
use Rattle.std.specs.Prelude.{ℕ, ◌+◌, ◌-◌, ◌^◌, Bool, true, false, ◌&&◌, ◌||◌, ◌==◌, nat_le, nat_lt, if◌then◌else◌}
use Rattle.hr_line.specs.declared.name.LineName.{LineName}
use Rattle.hr_line.specs.declared.name.LineName.TheVariants.{Short, TooLong}
use Rattle.hr_line.specs.declared.number.Number.{Number}
use Rattle.hr_line.specs.declared.number.Number.TheVariants as number

-- The first three parts stand once each, in their order. Behind them parts rise, and tables, faults and sessions (5 to 7)
-- may have any number of lines.
abbrev pub may_stand : ℕ → ℕ → Bool
may_stand last part =
    if nat_le part 3 then part == last + 1
    else nat_le 3 last && (nat_lt last part || (last == part && nat_le 5 part && nat_le part 7))

abbrev pub is_within : ℕ → ℕ → Number → Bool
is_within least most (number.Of n) = nat_le least n && nat_le n most
is_within least most number.TooLarge = false

-- a number as 64 bits hold it, and as 32 bits do
abbrev pub value : Number → ℕ
value (number.Of n) = n
value number.TooLarge = 2 ^ 64 - 1

abbrev pub small : Number → ℕ
small n = if nat_lt (value n) (2 ^ 32) then value n else 2 ^ 32 - 1

abbrev pub is_too_long : LineName → Bool
is_too_long (Short name) = false
is_too_long TooLong = true
