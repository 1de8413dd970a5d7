-- What the items so far have told, and what one more tells.
use Rattle.std.specs.Prelude.{◌≡◌, ℕ, ◌+◌, ◌-◌, Bool, true, false, ◌&&◌, ◌==◌, nat_lt, List, [], ◌∷◌, ◌++◌, length, replicate, Option, Some, None, unwrap_or, slice_get, slice_set, if◌then◌else◌}
use Rattle.std.specs.Option.{option_and_then, option_map}
use Rattle.std.specs.Str.{bytes_eq}
use Rattle.hr_base.specs.Lists.{when}
use Rattle.hr_base.specs.Texts.{Text}
use Rattle.hr_rel.specs.declared.answer.Answer.{Answer}
use Rattle.hr_rel.specs.declared.stmt.Stmt.{Stmt}
use Rattle.hr_rel.specs.declared.catalog.TableDef.{TableDef}
use Rattle.hr_said.specs.declared.scenario.Scenario.{Scenario}
use Rattle.hr_told.specs.declared.ToldCommit.{ToldCommit}
use Rattle.hr_told.specs.Blocks.{block_of}
use Rattle.hr_report_reader.specs.declared.form.Form.{Form}
use Rattle.hr_report_reader.specs.declared.form.Form.TheVariants as form
use Rattle.hr_report_reader.specs.declared.form.CommitLine.{CommitLine}
use Rattle.hr_report_reader.specs.declared.form.TableLine.{TableLine}
use Rattle.hr_report_reader.specs.declared.item.Item.{Item}
use Rattle.hr_report_reader.specs.declared.item.Item.TheVariants as item
use Rattle.hr_report_reader.specs.declared.told.Place.{Place}
use Rattle.hr_report_reader.specs.declared.told.Place.TheVariants as place
use Rattle.hr_report_reader.specs.declared.told.Told.{Told}

abbrev pub no_line : CommitLine
no_line = record { place = 0; session = 0; block = 0; txn = 0 }

-- before the first line
abbrev pub nothing : Scenario → Told
nothing sc = record {
  place = place.Start;
  count = 0;
  commits = [];
  blocks = replicate (length sc.scripts) 0;
  line = no_line;
  answers = [];
  due = 0;
  sessions = 0;
  replicas = 0;
  tables = 0;
  rows = 0;
}

-- ---- commits

-- the commit that is being told, with these answers
abbrev pub commit_with : CommitLine → List Answer → ToldCommit
commit_with line answers = record { session = line.session; block = line.block; txn = line.txn; answers = answers }

-- the last told block of a session
abbrev pub last_block : Told → ℕ → ℕ
last_block told session = unwrap_or (slice_get told.blocks (session - 1)) 0

-- once it has as many answers as the block has statements, a commit is told
abbrev pub ended : Told → Told
ended told =
    if length told.answers == told.due
    then record told { place = place.Commits; commits = told.commits ++ commit_with told.line told.answers ∷ []; answers = [] }
    else record told { place = place.Answers }

-- a commit, of a block of so many statements
abbrev pub begun : Told → CommitLine → ℕ → Told
begun told line due = ended (record told { line = line; blocks = slice_set told.blocks (line.session - 1) line.block; answers = []; due = due })

-- A commit has the next number, of so many as there are to be, and is a block of the scenario, behind the session's last told one.
abbrev pub may_commit : Told → CommitLine → Bool
may_commit told line =
    nat_lt (length told.commits) told.count && line.place == length told.commits + 1 && nat_lt (last_block told line.session) line.block

abbrev pub commit : Scenario → Told → CommitLine → Option Told
commit sc told line =
    if may_commit told line then option_map (λ (stmts : List Stmt). begun told line (length stmts)) (block_of sc line.session line.block) else None

-- answers are numbered from 1
abbrev pub is_next : Told → ℕ → Bool
is_next told number = nat_lt 0 number && number - 1 == length told.answers

abbrev pub answer : Told → ℕ → Answer → Option Told
answer told number a = when (is_next told number) (ended (record told { answers = told.answers ++ a ∷ [] }))

-- ---- sessions, convictions and replicas

-- each session of the scenario, by its number from 1
abbrev pub session : Scenario → Told → ℕ → Option Told
session sc told number =
    when (nat_lt told.sessions (length sc.scripts) && number == told.sessions + 1) (record told { place = place.Tries; sessions = number })

-- behind the last session
abbrev pub conviction : Scenario → Told → Option Told
conviction sc told = when (told.sessions == length sc.scripts) (record told { place = place.Convictions })

-- each replica, by its number from 0
abbrev pub replica : Scenario → Told → ℕ → Option Told
replica sc told number =
    when (nat_lt told.replicas (length sc.kinds) && number == told.replicas) (record told { place = place.Tables; replicas = told.replicas + 1; tables = 0 })

abbrev pub first_replica : Scenario → Told → ℕ → Option Told
first_replica sc told number = if told.sessions == length sc.scripts then replica sc told number else None

-- a session, or behind the last of them a conviction or the first replica
abbrev pub behind_commits : Scenario → Told → Form → Option Told
behind_commits sc told (form.Session number) = session sc told number
behind_commits sc told form.Convicted = conviction sc told
behind_commits sc told (form.Replica number) = first_replica sc told number
behind_commits sc told _ = None

-- a commit, or behind the last of them a session
abbrev pub at_commits : Scenario → Told → Form → Option Told
at_commits sc told (form.Commit line) = commit sc told line
at_commits sc told f = if length told.commits == told.count then behind_commits sc told f else None

-- a try, whose answers follow where they differ
abbrev pub at_tries : Scenario → Told → Form → Option Told
at_tries sc told (form.Try differs) = Some (record told { place = if differs then place.Given else place.Tries })
at_tries sc told f = behind_commits sc told f

abbrev pub at_convictions : Scenario → Told → Form → Option Told
at_convictions sc told form.Convicted = Some told
at_convictions sc told (form.Replica number) = first_replica sc told number
at_convictions sc told _ = None

-- ---- tables

abbrev pub is_called : Option TableDef → Text → Bool
is_called None name = false
is_called (Some def) name = bytes_eq def.name name

-- where rows are still to come, they come next
abbrev pub in_rows : Told → Told
in_rows told = record told { place = if told.rows == 0 then place.Tables else place.Rows }

-- each table of the catalog, by its name
abbrev pub table : Scenario → Told → TableLine → Option Told
table sc told line =
    when (nat_lt told.tables (length sc.catalog.tables) && is_called (slice_get sc.catalog.tables told.tables) line.name) (in_rows (record told { tables = told.tables + 1; rows = line.rows }))

abbrev pub has_tables : Scenario → Told → Bool
has_tables sc told = told.tables == length sc.catalog.tables

-- the next replica, behind the last table of this one
abbrev pub next_replica : Scenario → Told → ℕ → Option Told
next_replica sc told number = if has_tables sc told then replica sc told number else None

-- the end, behind the last table of the last replica
abbrev pub finish : Scenario → Told → Option Told
finish sc told = when (has_tables sc told && told.replicas == length sc.kinds) (record told { place = place.End })

abbrev pub at_tables : Scenario → Told → Form → Option Told
at_tables sc told (form.Table line) = table sc told line
at_tables sc told (form.Replica number) = next_replica sc told number
at_tables sc told form.End = finish sc told
at_tables sc told _ = None

-- ---- an item

abbrev pub at_start : Told → Form → Option Told
at_start told form.Report = Some (record told { place = place.Count })
at_start told _ = None

abbrev pub at_count : Told → Form → Option Told
at_count told (form.Commits n) = Some (record told { place = place.Commits; count = n })
at_count told _ = None

-- a line that has no answer and is no row, by where it stands
abbrev pub line_at : Scenario → Told → Form → Place → Option Told
line_at sc told f place.Start = at_start told f
line_at sc told f place.Count = at_count told f
line_at sc told f place.Commits = at_commits sc told f
line_at sc told f place.Answers = None
line_at sc told f place.Tries = at_tries sc told f
line_at sc told f place.Given = None
line_at sc told f place.Agreed = None
line_at sc told f place.Convictions = at_convictions sc told f
line_at sc told f place.Tables = at_tables sc told f
line_at sc told f place.Rows = None
line_at sc told f place.End = None

-- an answer, by where it stands
abbrev pub answer_at : Told → ℕ → Answer → Place → Option Told
answer_at told number a place.Answers = answer told number a
answer_at told number a _ = None

abbrev pub given_at : Told → Place → Option Told
given_at told place.Given = Some (record told { place = place.Agreed })
given_at told _ = None

abbrev pub agreed_at : Told → Place → Option Told
agreed_at told place.Agreed = Some (record told { place = place.Tries })
agreed_at told _ = None

abbrev pub row_at : Told → Place → Option Told
row_at told place.Rows = Some (in_rows (record told { rows = told.rows - 1 }))
row_at told _ = None

-- what is told with one item more; None where it may not stand there
unfoldable pub next : Scenario → Told → Item → Option Told
next sc told (item.Line f) = line_at sc told f told.place
next sc told (item.Answer number a) = answer_at told number a told.place
next sc told (item.Given a) = given_at told told.place
next sc told (item.Agreed a) = agreed_at told told.place
next sc told item.Row = row_at told told.place

-- whether it may stand there, and what is told then
abbrev pub Goes : Option Told → Bool → Told → Type 0
Goes due false after = due ≡ None
Goes due true after = due ≡ Some after
