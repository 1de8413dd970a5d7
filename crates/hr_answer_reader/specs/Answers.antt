-- How an answer is read from lines. It mirrors the code and needn't be believed: that what is read are exactly the texts of
-- answers is said by the contracts, and by the laws.
use Rattle.std.specs.Prelude.{◌≡◌, ℕ, zero, suc, ◌+◌, ◌-◌, ◌^◌, nat_lt, Bool, ◌&&◌, not, List, [], ◌∷◌, length, take, drop, Option, Some, None, codes, if◌then◌else◌}
use Rattle.std.specs.List.{list_all, zip}
use Rattle.std.specs.Option.{option_and_then, option_map}
use Rattle.std.specs.Ordering.{is_lt}
use Rattle.std.specs.Str.{bytes_eq}
use Rattle.hr_base.specs.Lists.{is_empty}
use Rattle.hr_base.specs.Texts.{Text}
use Rattle.hr_line.specs.Words.{pieces}
use Rattle.hr_lines.specs.Lines.{is_feed}
use Rattle.hr_rel.specs.declared.value.Value.{Value}
use Rattle.hr_rel.specs.declared.answer.Answer.{Answer}
use Rattle.hr_rel.specs.declared.answer.Answer.TheVariants as answer
use Rattle.hr_rel.specs.declared.answer.RunError.{RunError}
use Rattle.hr_rel.specs.declared.answer.RunError.TheVariants.{DuplicateKey, Overflow, NullRefused, TooManyRows, Unfit}
use Rattle.hr_meaning.specs.Order.{row_cmp}
use Rattle.hr_answer_reader.specs.declared.first.FirstLine.{FirstLine}
use Rattle.hr_answer_reader.specs.declared.first.FirstLine.TheVariants.{Rows, Count, Failed}
use Rattle.hr_answer_reader.specs.Numbers.{long, short, key}
use Rattle.hr_answer_reader.specs.Rows.{row_of}

-- ---- the first line

abbrev pub begins : Text → Text → Bool
begins front text = bytes_eq (take (length front) text) front

abbrev pub behind : Text → Text → Text
behind front text = drop (length front) text

abbrev pub plain_error_of : Text → Option RunError
plain_error_of word =
    if bytes_eq word (codes "overflow") then Some Overflow
    else (if bytes_eq word (codes "toomany") then Some TooManyRows
    else (if bytes_eq word (codes "unfit") then Some Unfit
    else None))

abbrev pub error_of : Text → Option RunError
error_of word =
    if begins (codes "duplicate ") word then option_map DuplicateKey (key (behind (codes "duplicate ") word))
    else (if begins (codes "null ") word then option_map NullRefused (short (behind (codes "null ") word))
    else plain_error_of word)

unfoldable pub first_of : Text → Option FirstLine
first_of line =
    if begins (codes "rows ") line then option_map Rows (long (behind (codes "rows ") line))
    else (if begins (codes "count ") line then option_map Count (long (behind (codes "count ") line))
    else (if begins (codes "failed ") line then option_map Failed (error_of (behind (codes "failed ") line))
    else None))

-- one line more than rows, as far as 64 bits hold it
abbrev pub one_more : ℕ → Option ℕ
one_more n = if nat_lt n (2 ^ 64 - 1) then Some (n + 1) else None

-- how many lines an answer's text has whose first line says this
abbrev pub count_of : Option FirstLine → Option ℕ
count_of None = None
count_of (Some (Rows n)) = one_more n
count_of (Some (Count n)) = Some 1
count_of (Some (Failed e)) = Some 1

-- ---- rows

abbrev pub with_first : Option (List Value) → Option (List (List Value)) → Option (List (List Value))
with_first (Some row) (Some rows) = Some (row ∷ rows)
with_first _ _ = None

-- the rows that so many lines are
abbrev pub rows_in : ℕ → List Text → Option (List (List Value))
rows_in zero lines = Some []
rows_in (suc n) [] = None
rows_in (suc n) (line ∷ lines) = with_first (row_of line) (rows_in n lines)

-- whether the second of two rows isn't less than the first
abbrev pub follows : List Value × List Value → Bool
follows p = not (is_lt (row_cmp p.1 p.0))

abbrev pub is_ascending : List (List Value) → Bool
is_ascending rows = list_all follows (zip rows (drop 1 rows))

-- ---- answers

abbrev pub canonical_rows : List Text → ℕ → Option (List (List Value)) → Option (Answer × List Text)
canonical_rows lines n None = None
canonical_rows lines n (Some rows) = if is_ascending rows then Some (answer.Rows rows, drop n lines) else None

abbrev pub answer_behind : List Text → FirstLine → Option (Answer × List Text)
answer_behind lines (Rows n) = canonical_rows lines n (rows_in n lines)
answer_behind lines (Count n) = Some (answer.Count n, lines)
answer_behind lines (Failed e) = Some (answer.Failed e, lines)

-- the answer whose text begins with this line and goes on with lines of these, and the lines behind it
abbrev pub answer_at : Text → List Text → Option (Answer × List Text)
answer_at first lines = option_and_then (answer_behind lines) (first_of first)

-- what is read is the one due, and these lines come behind it
abbrev pub Reads : Option (Answer × List Text) → Option Answer → List Text → Type 0
Reads due None rest = due ≡ None
Reads due (Some answer) rest = due ≡ Some (answer, rest)

abbrev pub whole : Option (Answer × List Text) → Option Answer
whole None = None
whole (Some read) = if is_empty read.1 then Some read.0 else None

abbrev pub answer_in : List Text → Option Answer
answer_in [] = None
answer_in (first ∷ lines) = whole (answer_at first lines)

-- the answer that a text is
abbrev pub answer_of : Text → Option Answer
answer_of text = answer_in (pieces is_feed text)
