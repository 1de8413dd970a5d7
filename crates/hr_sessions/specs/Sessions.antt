-- The lines of sessions. For each the refusals stand in rising order of their kinds, and the first that applies is told.
use Rattle.std.specs.Prelude.{ℕ, ◌+◌, ◌*◌, Bool, true, false, not, ◌||◌, nat_le, nat_lt, List, [], ◌∷◌, ◌++◌, length, Option, Result, Ok, Err}
use Rattle.hr_base.specs.Lists.{when, first_some}
use Rattle.hr_base.specs.Texts.{Text}
use Rattle.hr_base.specs.declared.limits.TheConstants.{MAX_SESSIONS, MAX_STATEMENTS, MAX_SUBMITS}
use Rattle.hr_rel.specs.declared.catalog.Catalog.{Catalog}
use Rattle.hr_rel.specs.declared.stmt.Stmt.{Stmt}
use Rattle.hr_line.specs.Scripts.{script_form_of}
use Rattle.hr_line.specs.declared.script.ScriptForm.{ScriptForm}
use Rattle.hr_line.specs.declared.script.ScriptForm.TheVariants as form
use Rattle.hr_parse.specs.declared.ast.Ast.{Ast}
use Rattle.hr_parse.specs.declared.parsing.ParseError.{ParseError}
use Rattle.hr_parse.specs.Parse.{parsed}
use Rattle.hr_problem.specs.declared.problem.Problem.{Problem}
use Rattle.hr_bind.specs.declared.error.StatementError.TheVariants as statement_error
use Rattle.hr_bind.specs.Bind.{bind_of}
use Rattle.hr_said.specs.declared.said.Said.{Said}
use Rattle.hr_said.specs.declared.said.Session.{Session}
use Rattle.hr_said.specs.declared.said.Inside.TheVariants as inside
use Rattle.hr_said.specs.declared.scenario.Block.{Block}
use Rattle.hr_said.specs.declared.error.InputKind.{InputKind}
use Rattle.hr_said.specs.declared.error.InputKind.TheVariants as kind
use Rattle.hr_said.specs.Limits.{may_stand}
use Rattle.hr_said.specs.Outcomes.{unless, goes_on}
use Rattle.hr_said.specs.Said.{no_blocks}
use Rattle.hr_sessions.specs.declared.statement.Read.{Read}

-- ---- `session` and `end`

abbrev pub session_refusal : Said → Option InputKind
session_refusal said = first_some
    (when (not (may_stand said.part 7)) kind.Form
    ∷ when (nat_le MAX_SESSIONS (length said.scripts)) kind.Limit
    ∷ [])

abbrev pub session : Said → Result Said InputKind
session said = unless (session_refusal said) (record said { part = 7; inside = inside.Session; session = no_blocks })

-- no session ends within a transaction
abbrev pub end_refusal : Said → Option InputKind
end_refusal said = first_some (when said.session.is_begun kind.Unended ∷ [])

abbrev pub end_session : Said → Result Said InputKind
end_session said = unless (end_refusal said)
    (record said { inside = inside.Outside; scripts = said.scripts ++ said.session.blocks ∷ []; session = no_blocks })

-- ---- `BEGIN`, `COMMIT` and `ROLLBACK`

abbrev pub begun : Session → Session
begun session = record session { is_begun = true }

-- BEGIN stands first in its transaction
abbrev pub begin : Said → Result Said InputKind
begin said = unless (first_some (when said.session.is_begun kind.Form ∷ [])) (record said { session = begun said.session })

-- the transaction that is being read, and how it ends
abbrev pub block : Session → Bool → Block
block session commits = record { stmts = session.stmts; texts = session.texts; commits = commits }

abbrev pub ended : Session → Bool → Session
ended session commits = record { blocks = session.blocks ++ block session commits ∷ []; stmts = []; texts = []; is_begun = false }

abbrev pub end_block : Said → Bool → Result Said InputKind
end_block said commits = Ok (record said { session = ended said.session commits })

-- ---- statements

-- how often statements are submitted with one more, where each is tried as often as it may be
abbrev pub submits_with_one : Said → ℕ
submits_with_one said = (said.statements + 1) * (said.retries + 1)

abbrev pub statement_refusal : Said → Option InputKind
statement_refusal said = first_some
    (when (nat_le MAX_STATEMENTS (length said.session.stmts) || nat_lt MAX_SUBMITS (submits_with_one said)) kind.Limit
    ∷ [])

abbrev pub told_statement : Ast → Result Stmt Problem → Result Read InputKind
told_statement text (Ok stmt) = Ok (record { stmt = stmt; text = text })
told_statement text (Err problem) = Err (kind.Statement (statement_error.Bind problem))

-- the statement of a catalog that a tree is
abbrev pub bound_text : Catalog → Ast → Result Read InputKind
bound_text catalog text = told_statement text (bind_of catalog text)

abbrev pub told_text : Result Ast ParseError → Result Ast InputKind
told_text (Ok text) = Ok text
told_text (Err e) = Err (kind.Statement (statement_error.Parse e))

-- the statement of a catalog that a line is
abbrev pub statement_in : Catalog → Text → Result Read InputKind
statement_in catalog line = goes_on (told_text (parsed line)) (λ text. bound_text catalog text)

abbrev pub with_statement : Session → Read → Session
with_statement session read = record session { stmts = session.stmts ++ read.stmt ∷ []; texts = session.texts ++ read.text ∷ []; is_begun = true }

abbrev pub add_statement : Said → Read → Result Said InputKind
add_statement said read = Ok (record said { session = with_statement said.session read; statements = said.statements + 1 })

abbrev pub read_statement : Said → Text → Result Said InputKind
read_statement said line = goes_on (statement_in said.catalog line) (λ read. add_statement said read)

abbrev pub statement : Said → Text → Result Said InputKind
statement said line = goes_on (unless (statement_refusal said) said) (λ s. read_statement s line)

-- ---- a line of a session

abbrev pub line_as : Said → Text → ScriptForm → Result Said InputKind
line_as said line form.End = end_session said
line_as said line form.Begin = begin said
line_as said line form.Commit = end_block said true
line_as said line form.Rollback = end_block said false
line_as said line form.Statement = statement said line

abbrev pub session_line : Said → Text → Result Said InputKind
session_line said line = line_as said line (script_form_of line)
