-- The items of a report: its lines, each with the lines behind it that its answer goes on with.
use Rattle.std.specs.Prelude.{◌≡◌, ◌≤◌, ℕ, zero, List, length, take, drop, not, Option, Some, None, codes, if◌then◌else◌}
use Rattle.std.specs.List.{prefix_len}
use Rattle.std.specs.Option.{option_and_then, option_map}
use Rattle.hr_base.specs.Texts.{Text}
use Rattle.hr_rel.specs.declared.value.Value.{Value}
use Rattle.hr_rel.specs.declared.answer.Answer.{Answer}
use Rattle.hr_lines.specs.Lines.{behind}
use Rattle.hr_answer_reader.specs.Answers.{begins, answer_at}
use Rattle.hr_answer_reader.specs.Answers as answers
use Rattle.hr_answer_reader.specs.Lines.{lines_behind}
use Rattle.hr_answer_reader.specs.Numbers.{long}
use Rattle.hr_answer_reader.specs.Rows.{row_of}
use Rattle.hr_report_reader.specs.Blank.{is_space}
use Rattle.hr_report_reader.specs.Forms.{form_of}
use Rattle.hr_report_reader.specs.declared.form.Form.{Form}
use Rattle.hr_report_reader.specs.declared.item.Item.{Item}
use Rattle.hr_report_reader.specs.declared.item.Item.TheVariants as item

-- the answer whose text begins so and goes on with the next lines
abbrev pub told_answer : Text → List Text → Option Answer
told_answer first lines = option_map (λ (p : Answer × List Text). p.0) (answer_at first lines)

abbrev pub answer : ℕ → Text → List Text → Option Item
answer number first lines = option_map (λ (a : Answer). item.Answer number a) (told_answer first lines)

abbrev pub answer_behind : Option ℕ → Option Text → List Text → Option Item
answer_behind number first lines = option_and_then (λ n. option_and_then (λ f. answer n f lines) first) number

-- `I ANSWER`
abbrev pub numbered : Text → List Text → Option Item
numbered text lines =
    let len = prefix_len (λ b. not (is_space b)) text in answer_behind (long (take len text)) (behind len text) lines

abbrev pub given : Text → List Text → Option Item
given first lines = option_map item.Given (told_answer first lines)

abbrev pub agreed : Text → List Text → Option Item
agreed first lines = option_map item.Agreed (told_answer first lines)

abbrev pub row : Option (List Value) → Option Item
row None = None
row (Some values) = Some item.Row

-- a line without an answer: one of the forms, or a row
abbrev pub formed : Text → Option Form → Option Item
formed line None = row (row_of line)
formed line (Some f) = Some (item.Line f)

abbrev pub plain : Text → Option Item
plain line = formed line (form_of line)

-- the item that begins with a line, before these lines
abbrev pub item_at : Text → List Text → Option Item
item_at line lines =
    if begins (codes "answer ") line then numbered (answers.behind (codes "answer ") line) lines
    else (if begins (codes "given ") line then given (answers.behind (codes "given ") line) lines
    else (if begins (codes "agreed ") line then agreed (answers.behind (codes "agreed ") line) lines
    else plain line))

-- how many lines behind its first an item has: those that its answer goes on with
abbrev pub lines_in : Item → ℕ
lines_in (item.Answer number a) = length (lines_behind a)
lines_in (item.Given a) = length (lines_behind a)
lines_in (item.Agreed a) = length (lines_behind a)
lines_in (item.Line f) = zero
lines_in item.Row = zero

-- what is taken is the item due, with its lines
abbrev pub Takes : Option Item → Option Item → List Text → List Text → Type 0
Takes due None before after = due ≡ None
Takes due (Some i) before after = (due ≡ Some i) × (after ≡ drop (lines_in i) before) × (lines_in i ≤ length before)
