-- How the line of a row is read, byte by byte. It mirrors the code and needn't be believed: that exactly the texts of rows are
-- read is a law.
use Rattle.std.specs.Prelude.{ℕ, ℤ, Bool, true, false, not, ◌&&◌, ◌||◌, ◌==◌, List, [], ◌∷◌, ◌++◌, length, Option, Some, None, if◌then◌else◌}
use Rattle.std.specs.List.{fold}
use Rattle.std.specs.Str.{bytes_eq}
use Rattle.hr_base.specs.Lists.{is_empty}
use Rattle.hr_base.specs.Texts.{Text}
use Rattle.hr_rel.specs.declared.value.Value.{Value}
use Rattle.hr_rel.specs.declared.value.Value.TheVariants as value
use Rattle.hr_answer_text.specs.Answers.{row_text}
use Rattle.hr_answer_reader.specs.Held.{is_text}
use Rattle.hr_answer_reader.specs.Numbers.{key}
use Rattle.hr_answer_reader.specs.declared.row.Scan.{Scan}

abbrev pub start : Scan
start = record { values = []; part = []; is_text = false; is_quoted = false }

abbrev pub text_value : Text → Value
text_value bytes = if is_text bytes then value.Text bytes else value.Null

abbrev pub number_in : Option ℤ → Value
number_in None = value.Null
number_in (Some n) = value.Int n

abbrev pub number_value : Text → Value
number_value word = number_in (key word)

abbrev pub value_of : Bool → Text → Value
value_of is_text part = if is_text then text_value part else number_value part

abbrev pub with_byte : Scan → ℕ → Scan
with_byte s b = record s { part = s.part ++ b ∷ [] }

-- a quote opens a text or closes it; one that opens it again stands for itself
abbrev pub quote : Scan → Scan
quote s = record s {
  part = if s.is_text && not s.is_quoted then s.part ++ 39 ∷ [] else s.part;
  is_text = true;
  is_quoted = not s.is_quoted;
}

-- the value ends here, where there is one
abbrev pub finished : Scan → Scan
finished s =
    if is_empty s.part && not s.is_text then s
    else record { values = s.values ++ value_of s.is_text s.part ∷ []; part = []; is_text = false; is_quoted = s.is_quoted }

abbrev pub unquoted : Scan → ℕ → Scan
unquoted s b =
    if b == 44 || b == 41 then finished s
    else (if b == 32 || b == 40 then s
    else with_byte s b)

abbrev pub next : Scan → ℕ → Scan
next s b =
    if b == 39 then quote s
    else (if s.is_quoted then with_byte s b
    else unquoted s b)

abbrev pub scanned : Text → List Value
scanned line = (fold next start line).values

abbrev pub is_text_of : List Value → Text → Bool
is_text_of row line = bytes_eq (row_text row) line

-- the row that a line is
unfoldable pub row_of : Text → Option (List Value)
row_of line = if is_text_of (scanned line) line then Some (scanned line) else None
