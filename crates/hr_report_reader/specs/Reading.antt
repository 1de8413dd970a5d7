-- What a text tells that is a report of a scenario, or which of its lines is refused first.
use Rattle.std.specs.Prelude.{◌≡◌, ◌⊎◌, ℕ, zero, suc, ◌+◌, Bool, true, false, List, [], ◌∷◌, Option, Some, None, Result, Ok, Err}
use Rattle.std.specs.Option.{option_and_then, option_map}
use Rattle.hr_base.specs.Texts.{Text}
use Rattle.hr_said.specs.declared.scenario.Scenario.{Scenario}
use Rattle.hr_answer_reader.specs.Lines.{lines_of}
use Rattle.hr_told.specs.declared.Report.{Report}
use Rattle.hr_report_reader.specs.Items.{item_at, lines_in}
use Rattle.hr_report_reader.specs.Told.{nothing, next}
use Rattle.hr_report_reader.specs.declared.item.Item.{Item}
use Rattle.hr_report_reader.specs.declared.told.Place.{Place}
use Rattle.hr_report_reader.specs.declared.told.Place.TheVariants as place
use Rattle.hr_report_reader.specs.declared.told.Told.{Told}
use Rattle.hr_report_reader.specs.declared.reader.ReportError.{ReportError}
use Rattle.hr_report_reader.specs.declared.reader.ReportError.TheVariants.{Refused, NoMemory}

abbrev pub is_end : Place → Bool
is_end place.End = true
is_end _ = false

-- a report, or the number of a line
abbrev pub Outcome : Type 0
Outcome = Result Report ℕ

abbrev pub ended_by : Bool → Told → ℕ → Outcome
ended_by true told n = Ok (record { commits = told.commits })
ended_by false told n = Err n

-- the report, once all lines are read, behind which the next would have this number
abbrev pub whole : Told → ℕ → Outcome
whole told n = ended_by (is_end told.place) told n

-- what is told with an item more, and how many lines the item has behind its first
abbrev pub with_item : Scenario → Told → Option Item → Option (Told × ℕ)
with_item sc told i = option_and_then (λ (x : Item). option_map (λ (t : Told). (t, lines_in x)) (next sc told x)) i

abbrev pub go_on : ℕ → Option (Told × ℕ) → (Told → ℕ → Outcome) → Outcome
go_on n None rest = Err n
go_on n (Some p) rest = rest p.0 p.1

-- What these lines make of what was told before them, where the first has number n: each item is the next that may come; the
-- lines of an item behind its first, of which so many are still to come, are its own.
abbrev pub read_lines : Scenario → Told → ℕ → ℕ → List Text → Outcome
read_lines sc told n left [] = whole told n
read_lines sc told n (suc left) (line ∷ lines) = read_lines sc told (n + 1) left lines
read_lines sc told n zero (line ∷ lines) = go_on n (with_item sc told (item_at line lines)) (λ t behind. read_lines sc t (n + 1) behind lines)

-- the report that a text is whose first line has number n; or the first refused line
abbrev pub report_of : Scenario → ℕ → Text → Outcome
report_of sc n text = read_lines sc (nothing sc) n 0 (lines_of text)

abbrev pub told_outcome : Outcome → Result Report ReportError
told_outcome (Ok r) = Ok r
told_outcome (Err n) = Err (Refused n)

-- what a reader answers: exactly this, unless memory ran out
abbrev pub IsRead : Outcome → Result Report ReportError → Type 0
IsRead what result = (result ≡ told_outcome what) ⊎ (result ≡ Err NoMemory)
