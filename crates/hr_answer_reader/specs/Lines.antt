-- The lines of a text, and those of an answer.
use Rattle.std.specs.Prelude.{◌≡◌, ℕ, ◌+◌, ◌-◌, ◌<◌, ◌^◌, true, List, [], ◌∷◌, length, map, take, drop, Option, Some, None, codes, if◌then◌else◌}
use Rattle.std.specs.Str.{bytes_eq}
use Rattle.hr_base.specs.Texts.{Text}
use Rattle.hr_rel.specs.declared.value.Value.{Value}
use Rattle.hr_rel.specs.declared.answer.Answer.{Answer}
use Rattle.hr_rel.specs.declared.answer.Answer.TheVariants.{Rows, Count, Failed}
use Rattle.hr_line.specs.Words.{pieces, pieces_left}
use Rattle.hr_lines.specs.Lines.{is_feed}
use Rattle.hr_answer.specs.Canonical.{IsCanonical}
use Rattle.hr_answer_text.specs.Answers.{row_text, first_line}
use Rattle.hr_answer_reader.specs.Held.{is_held}

-- ---- a text

-- a text without the one line feed that may end it
abbrev pub without_feed : Text → Text
without_feed text = let front = length text - 1 in if bytes_eq (drop front text) (codes "\n") then take front text else text

-- the lines of a text: what line feeds part, and what stands behind the last of them where anything does
abbrev pub lines_of : Text → List Text
lines_of [] = []
lines_of (b ∷ text) = pieces is_feed (without_feed (b ∷ text))

-- ---- an answer

-- the lines behind an answer's first line
abbrev pub lines_behind : Answer → List Text
lines_behind (Rows rows) = map row_text rows
lines_behind (Count n) = []
lines_behind (Failed e) = []

-- how many lines an answer's text has
abbrev pub line_count : Answer → ℕ
line_count answer = length (lines_behind answer) + 1

-- some answer's text, of this many lines, begins with this line
abbrev pub Begins : Text → ℕ → Type 0
Begins first n = (answer : Answer) × (is_held answer ≡ true) × IsCanonical answer × (first_line answer ≡ first) × (line_count answer ≡ n)
