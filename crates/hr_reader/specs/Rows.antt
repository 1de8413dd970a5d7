-- The lines of rows. A row is read as an INSERT of its one tuple, into the rows of the lines before it.
use Rattle.std.specs.Prelude.{ℕ, ◌+◌, not, ◌||◌, nat_le, List, [], ◌∷◌, Option, unwrap_or, Result, Ok, Err, slice_get, slice_set}
use Rattle.std.specs.Option.{is_none}
use Rattle.hr_base.specs.Lists.{when, first_some}
use Rattle.hr_base.specs.Texts.{Text}
use Rattle.hr_rel.specs.declared.value.Value.{Value}
use Rattle.hr_rel.specs.declared.answer.RunError.{RunError}
use Rattle.hr_rel.specs.declared.catalog.Catalog.{Catalog}
use Rattle.hr_rel.specs.declared.stmt.Stmt.{Stmt}
use Rattle.hr_rel.specs.declared.stmt.Stmt.TheVariants as stmt
use Rattle.hr_rel.specs.Database.{columns_of}
use Rattle.hr_meaning.specs.Insert.{with_row}
use Rattle.hr_line.specs.declared.name.LineName.{LineName}
use Rattle.hr_forms.specs.Forms.{tuple_place}
use Rattle.hr_parse.specs.declared.ast.Ast.{Ast}
use Rattle.hr_parse.specs.declared.ast.Ast.TheVariants as ast
use Rattle.hr_parse.specs.declared.ast.TupleAst.{TupleAst}
use Rattle.hr_parse.specs.declared.parsing.ParseError.{ParseError}
use Rattle.hr_parse.specs.Parse.{parsed_tuple}
use Rattle.hr_problem.specs.declared.problem.Problem.{Problem}
use Rattle.hr_bind.specs.declared.error.StatementError.TheVariants as statement
use Rattle.hr_bind.specs.Bind.{bind_of}
use Rattle.hr_said.specs.declared.limits.TheConstants.{MAX_FIRST_ROWS}
use Rattle.hr_said.specs.declared.said.Said.{Said}
use Rattle.hr_said.specs.declared.error.InputKind.{InputKind}
use Rattle.hr_said.specs.declared.error.InputKind.TheVariants as kind
use Rattle.hr_said.specs.Limits.{may_stand, is_too_long}
use Rattle.hr_said.specs.Outcomes.{unless, goes_on}
use Rattle.hr_said.specs.Tables.{short, table_named}
use Rattle.hr_reader.specs.Shaped.{rows_at}

-- ---- the table

-- why a row may not stand here, whatever its tuple is
abbrev pub row_refusal : Said → LineName → Option InputKind
row_refusal said table = first_some
    (when (not (may_stand said.part 5)) kind.Form
    ∷ when (is_too_long table || nat_le MAX_FIRST_ROWS said.row_count) kind.Limit
    ∷ when (is_none (table_named said.catalog table)) kind.Unknown
    ∷ [])

-- the number of the table that a row comes to
abbrev pub table_for : Said → LineName → Result ℕ InputKind
table_for said table = unless (row_refusal said table) (unwrap_or (table_named said.catalog table) 0)

-- ---- the tuple

abbrev pub told_tuple : Result TupleAst ParseError → Result TupleAst InputKind
told_tuple (Ok tuple) = Ok tuple
told_tuple (Err e) = Err (kind.Statement (statement.Parse e))

-- what begins at a line's first parenthesis is a tuple
abbrev pub tuple_in : Text → Result TupleAst InputKind
tuple_in content = told_tuple (parsed_tuple (tuple_place content) content)

-- an INSERT into a table, which names no columns
abbrev pub insert_all : Text → List TupleAst → Ast
insert_all table tuples = ast.Insert (record { table = record { name = table; at = 0 }; columns = []; tuples = tuples })

-- the INSERT of one tuple
abbrev pub insert_of : Text → TupleAst → Ast
insert_of table tuple = insert_all table (tuple ∷ [])

-- the row of an INSERT of one tuple
abbrev pub row_in : Stmt → List Value
row_in (stmt.Insert s) = unwrap_or (slice_get s.rows 0) []
row_in _ = []

abbrev pub told_row : Result Stmt Problem → Result (List Value) InputKind
told_row (Ok s) = Ok (row_in s)
told_row (Err p) = Err (kind.Statement (statement.Bind p))

-- the row of an INSERT of one tuple into a table of the catalog
unfoldable pub bound_row : Catalog → Ast → Result (List Value) InputKind
bound_row catalog insert = told_row (bind_of catalog insert)

-- the row that a tuple is in a table
abbrev pub row_of : Catalog → Text → TupleAst → Result (List Value) InputKind
row_of catalog table tuple = bound_row catalog (insert_of table tuple)

-- the row that a line holds
abbrev pub row_held : Catalog → Text → Text → Result (List Value) InputKind
row_held catalog table content = goes_on (tuple_in content) (λ tuple. row_of catalog table tuple)

-- ---- `row TABLE (LITERAL, ..)`

-- what is said where a table's rows are these, with one more
abbrev pub told_rows : Said → ℕ → Result (List (List Value)) RunError → Result Said InputKind
told_rows said t (Ok rows) = Ok (record said { part = 5; rows = slice_set said.rows t rows; row_count = said.row_count + 1 })
told_rows said t (Err e) = Err (kind.Row e)

-- a row more in the table with this number
abbrev pub add_row : Said → ℕ → List Value → Result Said InputKind
add_row said t row = told_rows said t (with_row (columns_of said.catalog t) (rows_at said.rows t) row)

-- the row that a line holds, in the table with this number
abbrev pub row_to : Said → ℕ → LineName → Text → Result Said InputKind
row_to said t table content = goes_on (row_held said.catalog (short table) content) (λ row. add_row said t row)

abbrev pub row : Said → LineName → Text → Result Said InputKind
row said table content = goes_on (table_for said table) (λ t. row_to said t table content)
