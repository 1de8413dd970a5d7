-- Columns, literals and operands: their problems, and their kinds. A kind is None where either kind fits: that of NULL, and that
-- of a column that isn't found, which has a problem of its own.
use Rattle.std.specs.Prelude.{ℕ, nat_le, Bool, true, not, ◌&&◌, Option, Some, None, Result, Ok, Err, List, [], ◌∷◌, length}
use Rattle.std.specs.List.{list_all}
use Rattle.std.specs.Option.{option_map}
use Rattle.hr_base.specs.Bytes.{is_printable}
use Rattle.hr_base.specs.declared.limits.TheConstants.{MAX_TEXT_BYTES}
use Rattle.hr_rel.specs.declared.catalog.ColumnDef.{ColumnDef}
use Rattle.hr_rel.specs.declared.catalog.ColKind.{ColKind}
use Rattle.hr_rel.specs.declared.catalog.ColKind.TheVariants as col
use Rattle.hr_rel.specs.Kinds.{fits_i64}
use Rattle.hr_rel.specs.Fit.{agree}
use Rattle.hr_parse.specs.declared.ast.ColumnAst.{ColumnAst}
use Rattle.hr_parse.specs.declared.ast.LitAst.{LitAst}
use Rattle.hr_parse.specs.declared.ast.LitAst.TheVariants as lit
use Rattle.hr_parse.specs.declared.ast.LiteralAst.{LiteralAst}
use Rattle.hr_parse.specs.declared.ast.OperandAst.{OperandAst}
use Rattle.hr_parse.specs.declared.ast.OperandAst.TheVariants as operand
use Rattle.hr_problem.specs.declared.problem.Problem.{Problem}
use Rattle.hr_problem.specs.declared.problem.ProblemKind.{ProblemKind}
use Rattle.hr_problem.specs.declared.problem.ProblemKind.TheVariants as kind
use Rattle.hr_names.specs.declared.scope.Place.{Place}
use Rattle.hr_problem.specs.Problems.{problem_where}
use Rattle.hr_names.specs.Scope.{Scope, meant, definition_at}

-- ---- columns

abbrev pub refused : Result Place ProblemKind → ℕ → List Problem
refused (Ok p) at = []
refused (Err k) at = record { kind = k; place = at } ∷ []

-- a column that means none, or more than one
unfoldable pub column_problems : Scope → ColumnAst → List Problem
column_problems scope c = refused (meant scope c) c.first.at

abbrev pub kind_meant : Scope → Result Place ProblemKind → Option ColKind
kind_meant scope (Ok p) = option_map (λ (d : ColumnDef). d.kind) (definition_at scope p)
kind_meant scope (Err k) = None

unfoldable pub column_kind : Scope → ColumnAst → Option ColKind
column_kind scope c = kind_meant scope (meant scope c)

-- ---- literals

-- Whether a literal is a value: a number of 64 bits, or a text of at most 64 printable bytes. The definitions know numbers without
-- bounds, so it is said here. Of the literals that a statement's text may have, only long texts are none.
abbrev pub is_value : LitAst → Bool
is_value lit.Null = true
is_value (lit.Int n) = fits_i64 n
is_value (lit.Text t) = nat_le (length t) MAX_TEXT_BYTES && list_all is_printable t

abbrev pub literal_problems : LiteralAst → List Problem
literal_problems l = problem_where (not (is_value l.value)) kind.TextTooLong l.at

abbrev pub literal_kind : LitAst → Option ColKind
literal_kind lit.Null = None
literal_kind (lit.Int n) = Some col.Int
literal_kind (lit.Text t) = Some col.Text

-- ---- operands

abbrev pub operand_problems : Scope → OperandAst → List Problem
operand_problems scope (operand.Column c) = column_problems scope c
operand_problems scope (operand.Literal l) = literal_problems l

abbrev pub operand_kind : Scope → OperandAst → Option ColKind
operand_kind scope (operand.Column c) = column_kind scope c
operand_kind scope (operand.Literal l) = literal_kind l.value

abbrev pub operand_at : OperandAst → ℕ
operand_at (operand.Column c) = c.first.at
operand_at (operand.Literal l) = l.at

-- kinds that differ, told at the place of the second
abbrev pub mismatch : Option ColKind → Option ColKind → ℕ → List Problem
mismatch a b at = problem_where (not (agree a b)) kind.TypeMismatch at
