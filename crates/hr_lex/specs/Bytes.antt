-- The classes of bytes.
use Rattle.std.specs.Prelude.{◌≡◌, ℕ, Bool, true, ◌||◌, ◌&&◌, nat_le, ◌==◌}

-- space and tab
abbrev pub is_blank : ℕ → Bool
is_blank b = b == 32 || b == 9

-- 0 to 9
abbrev pub is_digit : ℕ → Bool
is_digit b = nat_le 48 b && nat_le b 57

abbrev pub IsDigit : ℕ → Type 0
IsDigit b = is_digit b ≡ true

-- A to Z, a to z and `_`: a name begins with one of these
abbrev pub is_letter : ℕ → Bool
is_letter b = (nat_le 65 b && nat_le b 90) || (nat_le 97 b && nat_le b 122) || b == 95

-- a name goes on with letters and digits
abbrev pub is_name_byte : ℕ → Bool
is_name_byte b = is_letter b || is_digit b
