-- The least problem of assignments, and of a tuple's values, put together from their parts.
use Rattle.std.proofs.Common.{◌≡◌, ℕ, suc, ◌≤◌, ◌<◌, Option, List, [], ◌∷◌, ◌++◌, length, get_or, drop, flat_map, sym, ap, ◌∙◌}
use Rattle.std.proofs.Math.ListN.{drop_of_length-le}
use Rattle.std.proofs.Math.Seq.{drop-cons}
use Rattle.hr_parse.specs.declared.ast.NameAt.{NameAt}
use Rattle.hr_parse.specs.declared.ast.SetAst.{SetAst}
use Rattle.hr_parse.specs.declared.ast.LiteralAst.{LiteralAst}
use Rattle.hr_rel.specs.declared.catalog.ColumnDef.{ColumnDef}
use Rattle.hr_problem.specs.declared.problem.Problem.{Problem}
use Rattle.hr_problem.specs.Problems.{least}
use Rattle.hr_problem.specs.Sooner.{sooner}
use Rattle.hr_problem.proofs.Least.{least_append, sooner_assoc}
use Rattle.hr_problem.proofs.Listed.{both, rest_of, split, sooner_none}
use Rattle.hr_names.specs.Scope.{Scope}
use Rattle.hr_check.specs.Statements.{set_problems, assigned_twice, sets_problems, value_problems, values_problems}

pub sets_listed : (scope : Scope) (columns : List ColumnDef) (sets : List SetAst) (n : SetAst) (a b c d r : Option Problem) → 1 ≤ length sets → n ≡ get_or sets 0 n
    → d ≡ sooner a b → r ≡ sooner d c → a ≡ least (set_problems scope columns n) → b ≡ least (flat_map (assigned_twice columns n) (rest_of sets)) → c ≡ least (sets_problems scope columns (rest_of sets))
    → r ≡ least (sets_problems scope columns sets)
sets_listed scope columns sets n a b c d r l e s t x y z =
    both d c r (set_problems scope columns n ++ flat_map (assigned_twice columns n) (rest_of sets)) (sets_problems scope columns (rest_of sets)) t
    (both a b d (set_problems scope columns n) (flat_map (assigned_twice columns n) (rest_of sets)) s x y) z
    ∙ ap (λ all. least (sets_problems scope columns all)) (split sets n l e)

-- ---- a tuple's values, one after another

pub values_step : (columns : List ColumnDef) (names : List NameAt) (values : List LiteralAst) (i : ℕ) (l : LiteralAst) (found a next r : Option Problem) → i < length values → l ≡ get_or values i l
    → next ≡ sooner found a → a ≡ least (value_problems columns names i l) → sooner found (least (values_problems columns names i (drop i values))) ≡ r
    → sooner next (least (values_problems columns names (suc i) (drop (suc i) values))) ≡ r
values_step columns names values i l found a next r n e s x h =
    let rest = least (values_problems columns names (suc i) (drop (suc i) values)) in
    let here = drop-cons values i l n ∙ ap (λ (m : LiteralAst). m ∷ drop (suc i) values) (sym e) in
    ap (λ (z : Option Problem). sooner z rest) s ∙ sooner_assoc found a rest ∙ ap (λ (z : Option Problem). sooner found (sooner z rest)) x
    ∙ ap (sooner found) (sym (least_append (value_problems columns names i l) (values_problems columns names (suc i) (drop (suc i) values))))
    ∙ ap (λ (z : List LiteralAst). sooner found (least (values_problems columns names i z))) (sym here) ∙ h

nothing_left : (values : List LiteralAst) (i : ℕ) → length values ≤ i → drop i values ≡ []
nothing_left values i n = drop_of_length-le values n

pub values_end : (columns : List ColumnDef) (names : List NameAt) (values : List LiteralAst) (i : ℕ) (found r : Option Problem) → length values ≤ i
    → sooner found (least (values_problems columns names i (drop i values))) ≡ r → found ≡ r
values_end columns names values i found r n h = sym (sooner_none found) ∙ ap (λ (z : List LiteralAst). sooner found (least (values_problems columns names i z))) (sym (nothing_left values i n)) ∙ h
