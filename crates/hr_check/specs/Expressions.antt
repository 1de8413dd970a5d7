-- The problems of expressions.
use Rattle.std.specs.Prelude.{ℕ, List, ◌++◌, Option, Some}
use Rattle.hr_rel.specs.declared.catalog.ColKind.{ColKind}
use Rattle.hr_rel.specs.declared.catalog.ColKind.TheVariants as col
use Rattle.hr_parse.specs.declared.ast.ExprAst.{ExprAst, fold-ExprAst}
use Rattle.hr_parse.specs.declared.ast.ExprKind.TheOpen.{ExprKind-F, ExprAst-F}
use Rattle.hr_problem.specs.declared.problem.Problem.{Problem}
use Rattle.hr_names.specs.Scope.{Scope}
use Rattle.hr_names.specs.Operands.{column_problems, column_kind, literal_problems, literal_kind, mismatch}

-- What is told of an expression: its problems, its kind, and the place where it begins.
pub record Judged : Type 0 where
  pub problems : List Problem
  pub kind : Option ColKind
  pub at : ℕ

-- an operand of +, - or *, which has to be a number
abbrev pub as_number : Judged → List Problem
as_number e = e.problems ++ mismatch (Some col.Int) e.kind e.at

-- a sum, a difference or a product is a number, whatever its operands
abbrev pub arithmetic : Judged → Judged → ℕ → Judged
arithmetic a b at = record { problems = as_number a ++ as_number b; kind = Some col.Int; at = at }

abbrev pub kind_layer : Scope → ExprKind-F (ℕ → Judged) Judged → ℕ → Judged
kind_layer scope (ExprKind-F.Literal l) at = record { problems = literal_problems l; kind = literal_kind l.value; at = at }
kind_layer scope (ExprKind-F.Column c) at = record { problems = column_problems scope c; kind = column_kind scope c; at = at }
kind_layer scope (ExprKind-F.Add a b) at = arithmetic a b at
kind_layer scope (ExprKind-F.Sub a b) at = arithmetic a b at
kind_layer scope (ExprKind-F.Mul a b) at = arithmetic a b at

abbrev pub expr_layer : ExprAst-F (ℕ → Judged) Judged → Judged
expr_layer e = e.kind e.at

abbrev pub judged : Scope → ExprAst → Judged
judged scope e = fold-ExprAst (ℕ → Judged) Judged (kind_layer scope) expr_layer e
