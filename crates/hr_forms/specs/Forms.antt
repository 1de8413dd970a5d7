-- The lines outside of sessions and schedules, by their words.
use Rattle.std.specs.Prelude.{ℕ, ◌+◌, ◌-◌, not, ◌==◌, nat_lt, if◌then◌else◌, List, length, take, drop, map, Option, Some, None, codes}
use Rattle.std.specs.List.{prefix_len}
use Rattle.std.specs.Option.{option_and_then, option_map}
use Rattle.std.specs.Str.{bytes_eq}
use Rattle.hr_base.specs.Texts.{Text}
use Rattle.hr_line.specs.Words.{first, others, only, words_of}
use Rattle.hr_line.specs.declared.name.LineName.{LineName}
use Rattle.hr_line.specs.declared.number.Number.{Number}
use Rattle.hr_forms.specs.Words.{named, number_in, one_number, is_over}
use Rattle.hr_forms.specs.Headings.{heading_of}
use Rattle.hr_forms.specs.Acts.{lie_of, loss_of}
use Rattle.hr_forms.specs.Columns.{columns_of, says}
use Rattle.hr_forms.specs.declared.act.ActForm.{ActForm}
use Rattle.hr_forms.specs.declared.column.ColumnForm.{ColumnForm}
use Rattle.hr_forms.specs.declared.heading.Heading.{Heading}
use Rattle.hr_forms.specs.declared.heading.Heading.TheVariants as heading
use Rattle.hr_forms.specs.declared.line.EngineKind.{EngineKind}
use Rattle.hr_forms.specs.declared.line.EngineKind.TheVariants.{ByTable, ByRange}
use Rattle.hr_forms.specs.declared.line.LineForm.{LineForm}
use Rattle.hr_forms.specs.declared.line.LineForm.TheVariants as form

-- ---- lines without a parenthesis

abbrev pub version : Option Number → Option LineForm
version n = option_map form.Version n

abbrev pub liars : Option Number → Option LineForm
liars n = option_map form.Liars n

abbrev pub retries : Option Number → Option LineForm
retries n = option_map form.Retries n

-- the engine that a word names
abbrev pub kind_named : Text → Option EngineKind
kind_named word =
    if bytes_eq word (codes "table") then Some ByTable
    else (if bytes_eq word (codes "range") then Some ByRange
    else None)

abbrev pub index : Option LineName → Option LineName → Option LineForm
index (Some table) (Some column) = Some (form.Index table column)
index _ _ = None

-- `TABLE COL`
abbrev pub index_form : List Text → Option LineForm
index_form words = index (named (first words)) (named (only (others words)))

abbrev pub fault : Option Number → Option Number → Option ActForm → Option LineForm
fault (Some replica) (Some call) (Some act) = Some (form.Fault replica call act)
fault _ _ _ = None

-- `R CALL ACT`
abbrev pub lie_form : List Text → Option LineForm
lie_form words = fault (number_in (first words)) (number_in (first (others words))) (lie_of (others (others words)))

-- `R CALL before`, `R CALL after`
abbrev pub lose_form : List Text → Option LineForm
lose_form words = fault (number_in (first words)) (number_in (first (others words))) (loss_of (others (others words)))

abbrev pub suspect : Option Number → Option LineForm
suspect n = option_map form.Suspect n

-- `after N`
abbrev pub suspect_form : List Text → Option LineForm
suspect_form words = if says (first words) (codes "after") then suspect (one_number (others words)) else None

-- a form of one word
abbrev pub alone : List Text → LineForm → Option LineForm
alone words f = if is_over words then Some f else None

-- a line by its first word and those behind it
abbrev pub form_behind : Heading → List Text → Option LineForm
form_behind heading.Version words = version (one_number words)
form_behind heading.Liars words = liars (one_number words)
form_behind heading.Replicas words = Some (form.Replicas (map kind_named words))
form_behind heading.Retries words = retries (one_number words)
form_behind heading.Index words = index_form words
form_behind heading.Lie words = lie_form words
form_behind heading.Lose words = lose_form words
form_behind heading.Suspect words = suspect_form words
form_behind heading.Session words = alone words form.Session
form_behind heading.Schedule words = alone words form.Schedule

abbrev pub headed : List Text → Option LineForm
headed words = option_and_then (λ h. form_behind h (others words)) (option_and_then heading_of (first words))

-- ---- lines with a parenthesis

-- a text without the parenthesis that ends it
abbrev pub closed : Text → Option Text
closed text = let front = length text - 1 in if bytes_eq (drop front text) (codes ")") then Some (take front text) else None

abbrev pub closed_columns : Text → Option (List ColumnForm)
closed_columns text = option_and_then columns_of (closed text)

abbrev pub table : Option LineName → Option (List ColumnForm) → Option LineForm
table (Some name) (Some columns) = Some (form.Table name columns)
table _ _ = None

abbrev pub row : Option LineName → Option LineForm
row name = option_map form.Row name

-- a line by the words before its first parenthesis, and what stands behind it
abbrev pub opened : List Text → Text → Option LineForm
opened words behind =
    if says (first words) (codes "table") then table (named (only (others words))) (closed_columns behind)
    else (if says (first words) (codes "row") then row (named (only (others words)))
    else None)

-- ---- lines

-- the place of a line's first parenthesis, or of its end
abbrev pub tuple_place : Text → ℕ
tuple_place content = prefix_len (λ b. not (b == 40)) content

-- what a line is
abbrev pub form_of : Text → Option LineForm
form_of content =
    let at = tuple_place content in
    let words = words_of (take at content) in
    if nat_lt at (length content) then opened words (drop (at + 1) content) else headed words
