-- The lines of a text.
use Rattle.std.specs.Prelude.{ℕ, ◌+◌, ◌==◌, Bool, true, false, nat_lt, List, [], ◌∷◌, length, drop, Option, Some, None, if◌then◌else◌}
use Rattle.hr_base.specs.Texts.{Text}
use Rattle.hr_line.specs.Bytes.{without_return}
use Rattle.hr_line.specs.Words.{pieces, is_filled}

abbrev pub is_feed : ℕ → Bool
is_feed b = b == 10

-- what comes behind the byte at a place, where there is a byte
abbrev pub behind : ℕ → Text → Option Text
behind at text = if nat_lt at (length text) then Some (drop (at + 1) text) else None

-- A piece as a line: one that a line feed ends is a line without its carriage return, the last one only where it has a byte.
abbrev pub line_of : Text → Bool → Option Text
line_of piece true = Some (without_return piece)
line_of piece false = if is_filled piece then Some piece else None

-- the lines that the pieces between line feeds are
abbrev pub ended : List Text → List Text
ended [] = []
ended (piece ∷ []) = if is_filled piece then piece ∷ [] else []
ended (piece ∷ next ∷ rest) = without_return piece ∷ ended (next ∷ rest)

-- the lines of a text
abbrev pub lines_of : Text → List Text
lines_of text = ended (pieces is_feed text)

-- those of what is left of a text, where anything is
abbrev pub lines_left : Option Text → List Text
lines_left None = []
lines_left (Some text) = lines_of text
