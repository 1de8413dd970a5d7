-- The words of a report's line, and the numbers among them.
use Rattle.std.specs.Prelude.{ℕ, Bool, true, false, List, [], ◌∷◌, Option, Some, None, is_some, if◌then◌else◌}
use Rattle.std.specs.Option.{option_and_then, is_none}
use Rattle.std.specs.Str.{bytes_eq}
use Rattle.hr_base.specs.Texts.{Text}
use Rattle.hr_line.specs.Words.{first, others, pieces}
use Rattle.hr_answer_reader.specs.Numbers.{long, short}
use Rattle.hr_report_reader.specs.Blank.{is_space}

-- the words of a line: what stands between single blanks
abbrev pub words_of : Text → List Text
words_of line = pieces is_space line

-- there is a word, and it is this one
abbrev pub says : Option Text → Text → Bool
says None text = false
says (Some word) text = bytes_eq word text

-- the number that a word is, where there is a word: of 64 bits, or of 32
abbrev pub long_in : Option Text → Option ℕ
long_in word = option_and_then long word

abbrev pub short_in : Option Text → Option ℕ
short_in word = option_and_then short word

abbrev pub is_long : Text → Bool
is_long word = is_some (long word)

-- behind the first two words
abbrev pub past_two : List Text → List Text
past_two words = others (others words)

-- the number behind this label
abbrev pub labelled : Text → List Text → Option ℕ
labelled label words = if says (first words) label then long_in (first (others words)) else None

abbrev pub labelled_short : Text → List Text → Option ℕ
labelled_short label words = if says (first words) label then short_in (first (others words)) else None

-- no word more
abbrev pub is_over : List Text → Bool
is_over words = is_none (first words)
