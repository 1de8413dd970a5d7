-- Which scenario a text is, or which of its lines is refused first and why.
use Rattle.std.specs.Prelude.{◌≡◌, ◌⊎◌, ℕ, ◌+◌, Bool, true, false, not, ◌||◌, nat_lt, List, [], ◌∷◌, length, Option, Some, None, Result, Ok, Err, if◌then◌else◌}
use Rattle.hr_base.specs.Texts.{Text}
use Rattle.hr_base.specs.declared.limits.TheConstants.{MAX_SCENARIO_BYTES}
use Rattle.hr_line.specs.Bytes.{content_of, is_skipped}
use Rattle.hr_line.specs.declared.bytes.LineFault.{LineFault}
use Rattle.hr_line.specs.declared.bytes.LineFault.TheVariants as fault
use Rattle.hr_lines.specs.Lines.{lines_of}
use Rattle.hr_forms.specs.Forms.{form_of}
use Rattle.hr_forms.specs.declared.line.LineForm.{LineForm}
use Rattle.hr_forms.specs.declared.line.LineForm.TheVariants as form
use Rattle.hr_said.specs.declared.error.InputKind.{InputKind}
use Rattle.hr_said.specs.declared.error.InputKind.TheVariants as kind
use Rattle.hr_said.specs.declared.said.Inside.{Inside}
use Rattle.hr_said.specs.declared.said.Inside.TheVariants as inside
use Rattle.hr_said.specs.declared.said.Said.{Said}
use Rattle.hr_said.specs.declared.scenario.Scenario.{Scenario}
use Rattle.hr_said.specs.Said.{nothing, scenario}
use Rattle.hr_said.specs.Head as head
use Rattle.hr_said.specs.Tables as tables
use Rattle.hr_said.specs.Faults as faults
use Rattle.hr_said.specs.Schedule as schedules
use Rattle.hr_reader.specs.Rows as rows
use Rattle.hr_sessions.specs.Sessions as sessions
use Rattle.hr_reader.specs.declared.error.InputError.{InputError}
use Rattle.hr_reader.specs.declared.error.ReadError.{ReadError}
use Rattle.hr_reader.specs.declared.error.ReadError.TheVariants.{Refused, NoMemory}

-- ---- one line

-- A line outside of sessions and schedules, by its form. Lines that are still to come (a wipe, a disk's fault, frames) are
-- further forms.
abbrev pub form_says : Said → Text → LineForm → Result Said InputKind
form_says said content (form.Version n) = head.version said n
form_says said content (form.Liars n) = head.liars said n
form_says said content (form.Replicas kinds) = head.replicas said kinds
form_says said content (form.Retries n) = head.retries said n
form_says said content (form.Table name columns) = tables.table said name columns
form_says said content (form.Index table column) = tables.index said table column
form_says said content (form.Row table) = rows.row said table content
form_says said content (form.Fault replica call act) = faults.fault said replica call act
form_says said content (form.Suspect after) = faults.suspect said after
form_says said content form.Session = sessions.session said
form_says said content form.Schedule = schedules.schedule said

abbrev pub formed : Said → Text → Option LineForm → Result Said InputKind
formed said content None = Err kind.Form
formed said content (Some f) = form_says said content f

-- a line that says something, by where it stands
abbrev pub standing : Said → Text → Inside → Result Said InputKind
standing said content inside.Outside = formed said content (form_of content)
standing said content inside.Session = sessions.session_line said content
standing said content inside.Schedule = schedules.schedule_line said content

-- what a line holds, without the blanks at its ends
abbrev pub content_says : Said → Text → Result Said InputKind
content_says said content = if is_skipped content then Ok said else standing said content said.inside

abbrev pub fault_kind : LineFault → InputKind
fault_kind fault.TooLong = kind.LineTooLong
fault_kind fault.BadByte = kind.BadByte

abbrev pub read_content : Said → Result Text LineFault → Result Said InputKind
read_content said (Ok content) = content_says said content
read_content said (Err f) = Err (fault_kind f)

-- what was said, with this line; or the kind for which it is refused
unfoldable pub line_says : Said → Text → Result Said InputKind
line_says said line = read_content said (content_of line)

-- ---- all lines

-- a refusal at the line with this number
abbrev pub at_line : ℕ → InputKind → InputError
at_line line k = record { line = line; kind = k }

-- no scenario ends within a session or a schedule
abbrev pub is_outside : Inside → Bool
is_outside inside.Outside = true
is_outside inside.Session = false
is_outside inside.Schedule = false

-- the scenario, once all lines are read: it has at least its first three parts
abbrev pub whole : Said → ℕ → Result Scenario InputError
whole said line = if nat_lt said.part 3 || not (is_outside said.inside) then Err (at_line (line + 1) kind.Unended) else Ok (scenario said)

abbrev pub read_on : Result Said InputKind → ℕ → (Said → Result Scenario InputError) → Result Scenario InputError
read_on (Ok said) line rest = rest said
read_on (Err k) line rest = Err (at_line line k)

-- what these lines make of what was said before them, where the last of those had this number
abbrev pub read_lines : Said → ℕ → List Text → Result Scenario InputError
read_lines said line [] = whole said line
read_lines said line (text ∷ lines) = read_on (line_says said text) (line + 1) (λ next. read_lines next (line + 1) lines)

-- ---- a text

abbrev pub scenario_of : Text → Result Scenario InputError
scenario_of text = if nat_lt MAX_SCENARIO_BYTES (length text) then Err (at_line 0 kind.TooLong) else read_lines nothing 0 (lines_of text)

abbrev pub told : Result Scenario InputError → Result Scenario ReadError
told (Ok s) = Ok s
told (Err e) = Err (Refused e)

-- what a reader answers: exactly this, unless memory ran out
abbrev pub IsRead : Result Scenario InputError → Result Scenario ReadError → Type 0
IsRead what result = (result ≡ told what) ⊎ (result ≡ Err NoMemory)
