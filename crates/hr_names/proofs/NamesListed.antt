-- The least problem of a list of names, put together from that of the first and that of the rest.
use Rattle.std.proofs.Common.{◌≡◌, ◌≤◌, Option, List, ◌++◌, length, get_or, flat_map, ap, ◌∙◌}
use Rattle.hr_parse.specs.declared.ast.NameAt.{NameAt}
use Rattle.hr_rel.specs.declared.catalog.ColumnDef.{ColumnDef}
use Rattle.hr_problem.specs.declared.problem.Problem.{Problem}
use Rattle.hr_problem.specs.Problems.{least}
use Rattle.hr_problem.specs.Sooner.{sooner}
use Rattle.hr_problem.proofs.Listed.{both, rest_of, split}
use Rattle.hr_names.specs.Names.{unknown_name, named_twice, names_problems}

pub names_listed : (columns : List ColumnDef) (names : List NameAt) (n : NameAt) (a b c d r : Option Problem) → 1 ≤ length names → n ≡ get_or names 0 n
    → d ≡ sooner a b → r ≡ sooner d c → a ≡ least (unknown_name columns n) → b ≡ least (flat_map (named_twice columns n) (rest_of names)) → c ≡ least (names_problems columns (rest_of names))
    → r ≡ least (names_problems columns names)
names_listed columns names n a b c d r l e s t x y z =
    both d c r (unknown_name columns n ++ flat_map (named_twice columns n) (rest_of names)) (names_problems columns (rest_of names)) t
    (both a b d (unknown_name columns n) (flat_map (named_twice columns n) (rest_of names)) s x y) z
    ∙ ap (λ all. least (names_problems columns all)) (split names n l e)
