-- Numbers in decimal digits.
use Rattle.std.specs.Prelude.{ℕ, ◌+◌, ◌-◌, ◌*◌, nat_le, List, [], ◌∷◌, Option, Some, None, if◌then◌else◌}
use Rattle.hr_base.specs.declared.limits.TheConstants.{MAX_NUMBER}

abbrev pub with_digit : ℕ → ℕ → ℕ
with_digit n digit = n * 10 + (digit - 48)

-- the number that these digits write behind n
abbrev pub number_from : ℕ → List ℕ → ℕ
number_from n [] = n
number_from n (digit ∷ digits) = number_from (with_digit n digit) digits

abbrev pub number : List ℕ → ℕ
number = number_from 0

-- a number up to the largest that a token may have
abbrev pub fitting : ℕ → Option ℕ
fitting n = if nat_le n MAX_NUMBER then Some n else None
