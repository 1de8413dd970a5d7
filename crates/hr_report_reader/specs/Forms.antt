-- The forms of a report's lines that have no answer and are no row. Words stand one blank apart, and numbers have no leading zeros.
use Rattle.std.specs.Prelude.{ℕ, Bool, false, ◌&&◌, ◌||◌, List, Option, Some, None, is_some, codes, if◌then◌else◌}
use Rattle.std.specs.Option.{option_and_then, option_map}
use Rattle.std.specs.Str.{bytes_eq}
use Rattle.hr_base.specs.Texts.{Text}
use Rattle.hr_line.specs.Words.{first, others}
use Rattle.hr_answer_reader.specs.Held.{is_text}
use Rattle.hr_report_reader.specs.Words.{words_of, says, long_in, short_in, labelled, labelled_short, past_two, is_over}
use Rattle.hr_report_reader.specs.Endings.{ending, is_reason, is_state}
use Rattle.hr_report_reader.specs.Headings.{heading_of}
use Rattle.hr_report_reader.specs.declared.heading.Heading.{Heading}
use Rattle.hr_report_reader.specs.declared.heading.Heading.TheVariants as heading
use Rattle.hr_report_reader.specs.declared.form.Form.{Form}
use Rattle.hr_report_reader.specs.declared.form.Form.TheVariants as form

-- a form of one word
abbrev pub alone : List Text → Form → Option Form
alone words f = if is_over words then Some f else None

-- `N`, and no word more
abbrev pub long_alone : List Text → Option ℕ
long_alone words = if is_over (others words) then long_in (first words) else None

-- `report 1`
abbrev pub report : List Text → Option Form
report words = if says (first words) (codes "report") && says (first (others words)) (codes "1") then alone (past_two words) form.Report else None

abbrev pub commit_of : Option ℕ → Option ℕ → Option ℕ → Option ℕ → Option Form
commit_of place session block txn =
    option_and_then (λ p. option_and_then (λ s. option_and_then (λ b. option_map (λ t. form.Commit (record { place = p; session = s; block = b; txn = t })) txn) block) session) place

-- `P session S block B txn T`
abbrev pub commit : List Text → Option Form
commit words =
    let session_on = others words in
    let block_on = past_two session_on in
    let txn_on = past_two block_on in
    if is_over (past_two txn_on)
    then commit_of (long_in (first words)) (labelled_short (codes "session") session_on) (labelled_short (codes "block") block_on) (labelled (codes "txn") txn_on)
    else None

-- `B try K txn T ENDING`
abbrev pub tried : List Text → Option Form
tried words =
    let try_on = others words in
    let txn_on = past_two try_on in
    if is_some (long_in (first words)) && is_some (labelled (codes "try") try_on) && is_some (labelled (codes "txn") txn_on)
    then option_map form.Try (ending (past_two txn_on))
    else None

-- `R REASON`
abbrev pub convicted : List Text → Option Form
convicted words = if is_some (short_in (first words)) && is_reason (others words) then Some form.Convicted else None

abbrev pub is_kind : Option Text → Bool
is_kind None = false
is_kind (Some word) = bytes_eq word (codes "table") || bytes_eq word (codes "range")

-- `R KIND position P preempted N STATE`
abbrev pub replica : List Text → Option Form
replica words =
    let position_on = past_two words in
    let preempted_on = past_two position_on in
    if is_kind (first (others words)) && is_some (labelled (codes "position") position_on) && is_some (labelled (codes "preempted") preempted_on)
    && is_state (past_two preempted_on)
    then option_map form.Replica (long_in (first words))
    else None

-- a name that a table may have
abbrev pub name_of : Text → Option Text
name_of word = if is_text word then Some word else None

abbrev pub name_in : Option Text → Option Text
name_in word = option_and_then name_of word

abbrev pub table_of : Option Text → Option ℕ → Option Form
table_of name rows = option_and_then (λ n. option_map (λ r. form.Table (record { name = n; rows = r })) rows) name

-- `NAME N`
abbrev pub table : List Text → Option Form
table words = table_of (name_in (first words)) (long_alone (others words))

-- a line by its first word and those behind it
abbrev pub form_behind : Heading → List Text → Option Form
form_behind heading.Report words = report words
form_behind heading.Commits words = option_map form.Commits (long_alone words)
form_behind heading.Commit words = commit words
form_behind heading.Session words = option_map form.Session (long_alone words)
form_behind heading.Block words = tried words
form_behind heading.Convicted words = convicted words
form_behind heading.Replica words = replica words
form_behind heading.Table words = table words
form_behind heading.End words = alone words form.End

abbrev pub heading_in : Option Text → Option Heading
heading_in word = option_and_then heading_of word

-- what a line is
abbrev pub form_of : Text → Option Form
form_of line = option_and_then (λ h. form_behind h (others (words_of line))) (heading_in (first (words_of line)))
