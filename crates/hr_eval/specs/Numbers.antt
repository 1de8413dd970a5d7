-- Not to be believed: how the code tells an overflow, which mirrors it.
use Rattle.std.specs.Prelude.{ℤ, Option, Some, None, Result, Ok, Err}
use Rattle.hr_rel.specs.declared.value.Value.{Value}
use Rattle.hr_rel.specs.declared.value.Value.TheVariants.{Int}
use Rattle.hr_rel.specs.declared.answer.RunError.{RunError}
use Rattle.hr_rel.specs.declared.answer.RunError.TheVariants.{Overflow}

-- a number, unless it has more than 64 bits, where it is none
abbrev pub shown_number : Option ℤ → Result Value RunError
shown_number (Some n) = Ok (Int n)
shown_number None = Err Overflow
