-- What a text is in a catalog: the bound statement of its syntax tree, or why it is none.
use Rattle.std.specs.Prelude.{◌≡◌, ◌⊎◌, ℕ, List, Result, Ok, Err}
use Rattle.hr_rel.specs.declared.catalog.Catalog.{Catalog}
use Rattle.hr_rel.specs.declared.stmt.Stmt.{Stmt}
use Rattle.hr_parse.specs.declared.ast.Ast.{Ast}
use Rattle.hr_parse.specs.declared.parsing.ParseError.{ParseError}
use Rattle.hr_parse.specs.Parse.{parsed}
use Rattle.hr_problem.specs.declared.problem.Problem.{Problem}
use Rattle.hr_bind.specs.declared.error.StatementError.{StatementError}
use Rattle.hr_bind.specs.declared.error.StatementError.TheVariants as statement
use Rattle.hr_bind.specs.declared.error.PrepareError.{PrepareError}
use Rattle.hr_bind.specs.declared.error.PrepareError.TheVariants as prepare
use Rattle.hr_bind.specs.Bind.{bind_of}

-- what a tree is, once it is bound
abbrev pub settled : Result Stmt Problem → Result Stmt StatementError
settled (Ok s) = Ok s
settled (Err p) = Err (statement.Bind p)

abbrev pub tree_prepared : Catalog → Result Ast ParseError → Result Stmt StatementError
tree_prepared catalog (Ok ast) = settled (bind_of catalog ast)
tree_prepared catalog (Err e) = Err (statement.Parse e)

-- what a text is
unfoldable pub prepared : Catalog → List ℕ → Result Stmt StatementError
prepared catalog text = tree_prepared catalog (parsed text)

-- this statement, or this refusal
abbrev pub told : Result Stmt StatementError → Result Stmt PrepareError
told (Ok s) = Ok s
told (Err e) = Err (prepare.Refused e)

-- What prepare answers: exactly this, unless memory ran out.
abbrev pub IsPrepared : Result Stmt StatementError → Result Stmt PrepareError → Type 0
IsPrepared what result = (result ≡ told what) ⊎ (result ≡ Err prepare.NoMemory)
