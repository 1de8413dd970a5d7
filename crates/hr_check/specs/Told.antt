-- The problem that is told of a statement: the first of its table entries, else the least of all others.
use Rattle.std.specs.Prelude.{Option, Some, None}
use Rattle.hr_rel.specs.declared.catalog.Catalog.{Catalog}
use Rattle.hr_parse.specs.declared.ast.Ast.{Ast}
use Rattle.hr_problem.specs.declared.problem.Problem.{Problem}
use Rattle.hr_problem.specs.Problems.{first_of, least}
use Rattle.hr_check.specs.Statements.{table_problems, problems}

-- the first that is there
abbrev pub or_else : Option Problem → Option Problem → Option Problem
or_else None other = other
or_else (Some p) other = Some p

-- the problem that is told of a statement, if it has one
unfoldable pub problem_of : Catalog → Ast → Option Problem
problem_of catalog ast = or_else (first_of (table_problems catalog ast)) (least (problems catalog ast))
