-- The classes of bytes.
use Rattle.std.specs.Prelude.{ℕ, Bool, ◌&&◌, nat_le}

-- a byte of printable ASCII, the blank among them
abbrev pub is_printable : ℕ → Bool
is_printable b = nat_le 32 b && nat_le b 126
