-- Names of columns in INSERT and SET: of one table, each at most once.
use Rattle.std.specs.Prelude.{ℕ, Bool, false, ◌==◌, Option, Some, None, is_none, List, [], ◌∷◌, ◌++◌, flat_map, slice_get}
use Rattle.std.specs.Option.{option_map, option_and_then}
use Rattle.hr_rel.specs.declared.catalog.ColumnDef.{ColumnDef}
use Rattle.hr_rel.specs.declared.catalog.ColKind.{ColKind}
use Rattle.hr_parse.specs.declared.ast.NameAt.{NameAt}
use Rattle.hr_problem.specs.declared.problem.Problem.{Problem}
use Rattle.hr_problem.specs.declared.problem.ProblemKind.TheVariants as kind
use Rattle.hr_problem.specs.Problems.{problem_where}
use Rattle.hr_names.specs.Scope.{column_of}

abbrev pub unknown_name : List ColumnDef → NameAt → List Problem
unknown_name columns n = problem_where (is_none (column_of columns n.name)) kind.UnknownColumn n.at

abbrev pub same_column : Option ℕ → Option ℕ → Bool
same_column (Some a) (Some b) = a == b
same_column None b = false
same_column (Some a) None = false

-- a name that means the same column as one before it
abbrev pub named_twice : List ColumnDef → NameAt → NameAt → List Problem
named_twice columns n later = problem_where (same_column (column_of columns n.name) (column_of columns later.name)) kind.NameTwice later.at

abbrev pub names_problems : List ColumnDef → List NameAt → List Problem
names_problems columns [] = []
names_problems columns (n ∷ names) = unknown_name columns n ++ flat_map (named_twice columns n) names ++ names_problems columns names

-- the kind of the column at this place
abbrev pub kind_of : List ColumnDef → Option ℕ → Option ColKind
kind_of columns at = option_map (λ (d : ColumnDef). d.kind) (option_and_then (slice_get columns) at)
