-- The words of a line.
use Rattle.std.specs.Prelude.{ℕ, Bool, true, false, List, [], ◌∷◌, Option, Some, None, if◌then◌else◌}
use Rattle.std.specs.List.{filter}
use Rattle.std.specs.Option.{is_none}
use Rattle.hr_base.specs.Texts.{Text}
use Rattle.hr_lex.specs.Bytes.{is_blank}

-- a byte in front of the first of some pieces
abbrev pub in_front : ℕ → List Text → List Text
in_front b [] = (b ∷ []) ∷ []
in_front b (piece ∷ pieces) = (b ∷ piece) ∷ pieces

-- the pieces of a text between the bytes that pass, one more than there are of these
abbrev pub pieces : (ℕ → Bool) → Text → List Text
pieces parts [] = [] ∷ []
pieces parts (b ∷ text) = if parts b then [] ∷ pieces parts text else in_front b (pieces parts text)

abbrev pub is_filled : Text → Bool
is_filled [] = false
is_filled (b ∷ text) = true

-- the words of a text: what stands between blanks, wherever something does
abbrev pub words_of : Text → List Text
words_of text = filter is_filled (pieces is_blank text)

-- the first of some words or pieces, and the others
abbrev pub first : List Text → Option Text
first [] = None
first (word ∷ words) = Some word

abbrev pub others : List Text → List Text
others [] = []
others (word ∷ words) = words

-- the first word, where there is no other
unfoldable pub only : List Text → Option Text
only words = if is_none (first (others words)) then first words else None

-- the pieces of what is left of a text, where anything is
abbrev pub pieces_left : (ℕ → Bool) → Option Text → List Text
pieces_left parts None = []
pieces_left parts (Some text) = pieces parts text
