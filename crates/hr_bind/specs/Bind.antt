-- Binding: the problem that is told, else the one bound statement.
use Rattle.std.specs.Prelude.{◌≡◌, ◌⊎◌, Option, Some, None, Result, Ok, Err}
use Rattle.hr_rel.specs.declared.catalog.Catalog.{Catalog}
use Rattle.hr_rel.specs.declared.stmt.Stmt.{Stmt}
use Rattle.hr_parse.specs.declared.ast.Ast.{Ast}
use Rattle.hr_problem.specs.declared.problem.Problem.{Problem}
use Rattle.hr_bind.specs.declared.error.BindError.{BindError}
use Rattle.hr_bind.specs.declared.error.BindError.TheVariants as e
use Rattle.hr_check.specs.Told.{problem_of}
use Rattle.hr_bind.specs.Bound.{bound}

-- the one bound statement, where there is no problem
unfoldable pub bound_of : Catalog → Ast → Stmt
bound_of catalog ast = bound catalog ast

abbrev pub unless : Option Problem → Stmt → Result Stmt Problem
unless None s = Ok s
unless (Some p) s = Err p

-- what binding gives
unfoldable pub bind_of : Catalog → Ast → Result Stmt Problem
bind_of catalog ast = unless (problem_of catalog ast) (bound_of catalog ast)

-- What bind answers: this statement, unless memory ran out; or this problem, whatever memory there is.
abbrev pub IsBound : Result Stmt Problem → Result Stmt BindError → Type 0
IsBound (Ok s) result = (result ≡ Ok s) ⊎ (result ≡ Err e.NoMemory)
IsBound (Err p) result = result ≡ Err (e.Refused p)
