-- How values, rows and answers are written.
use Rattle.std.specs.Prelude.{List, [], ◌∷◌, ◌++◌, length, codes}
use Rattle.std.specs.List.{flat_map}
use Rattle.std.specs.Fmt.{decimal, signed_decimal}
use Rattle.hr_base.specs.Texts.{Text, doubled}
use Rattle.hr_rel.specs.declared.value.Value.{Value}
use Rattle.hr_rel.specs.declared.value.Value.TheVariants as value
use Rattle.hr_rel.specs.declared.answer.Answer.{Answer}
use Rattle.hr_rel.specs.declared.answer.Answer.TheVariants.{Rows, Count, Failed}
use Rattle.hr_rel.specs.declared.answer.RunError.{RunError}
use Rattle.hr_rel.specs.declared.answer.RunError.TheVariants.{DuplicateKey, Overflow, NullRefused, TooManyRows, Unfit}

-- a value as an SQL literal
abbrev pub value_text : Value → Text
value_text value.Null = codes "NULL"
value_text (value.Int n) = signed_decimal n
value_text (value.Text bytes) = codes "'" ++ doubled bytes ++ codes "'"

-- the values of a row behind its first
abbrev pub more_values : List Value → Text
more_values values = flat_map (λ v. codes ", " ++ value_text v) values

abbrev pub values_text : List Value → Text
values_text [] = []
values_text (first ∷ more) = value_text first ++ more_values more

-- a row: its values in parentheses
abbrev pub row_text : List Value → Text
row_text row = codes "(" ++ values_text row ++ codes ")"

-- rows, each on a line of its own behind what stands before
abbrev pub row_lines : List (List Value) → Text
row_lines rows = flat_map (λ row. codes "\n" ++ row_text row) rows

abbrev pub error_text : RunError → Text
error_text (DuplicateKey n) = codes "duplicate " ++ signed_decimal n
error_text Overflow = codes "overflow"
error_text (NullRefused n) = codes "null " ++ decimal n
error_text TooManyRows = codes "toomany"
error_text Unfit = codes "unfit"

-- the first line of an answer
abbrev pub first_line : Answer → Text
first_line (Rows rows) = codes "rows " ++ decimal (length rows)
first_line (Count n) = codes "count " ++ decimal n
first_line (Failed e) = codes "failed " ++ error_text e

-- the lines behind it: one for each row
abbrev pub other_lines : Answer → Text
other_lines (Rows rows) = row_lines rows
other_lines (Count n) = []
other_lines (Failed e) = []

-- an answer's text: a line, and for rows a line for each of them
abbrev pub answer_text : Answer → Text
answer_text answer = first_line answer ++ other_lines answer
