-- A SELECT without a problem is bound to one that fits.
use Rattle.std.proofs.Common.{◌≡◌, ℕ, suc, ◌+◌, Bool, true, false, ◌&&◌, ◌||◌, not, nat_lt, nat_le, Option, Some, None, Result, Ok, List, [], ◌∷◌, ◌++◌, length, map, flat_map, slice_get, option_map, option_and_then, is_some, length-append, refl, sym, ap, ◌∙◌, arith}
use Rattle.std.specs.List.{list_all, list_any, range_with_len}
use Rattle.std.proofs.lemmas.Bool.{and_from, and_parts}
use Rattle.std.proofs.lemmas.List.{length-map}
use Rattle.std.proofs.lemmas.List.Folds.{list_all-append, list_any-append, list_all-map}
use Rattle.std.proofs.lemmas.List.FromFn.{length-map-range_with_len}
use Rattle.std.proofs.lemmas.Option.{slice_get-map}
use Rattle.hr_base.specs.Lists.{is_empty}
use Rattle.hr_base.specs.declared.limits.TheConstants.{MAX_ITEMS}
use Rattle.hr_rel.specs.declared.catalog.ColumnDef.{ColumnDef}
use Rattle.hr_rel.specs.declared.catalog.ColKind.TheVariants as col
use Rattle.hr_rel.specs.declared.expr.ColRef.{ColRef}
use Rattle.hr_rel.specs.declared.expr.Expr.{Expr}
use Rattle.hr_rel.specs.declared.expr.Expr.TheVariants as expr
use Rattle.hr_rel.specs.declared.stmt.Item.{Item}
use Rattle.hr_rel.specs.declared.stmt.Item.TheVariants as item
use Rattle.hr_rel.specs.declared.stmt.SelectStmt.{SelectStmt}
use Rattle.hr_rel.specs.Fit as fit
use Rattle.hr_rel.specs.Fit.{Entries, agree, is_number, expr_kind, has_column, is_plain, is_grouped, same_column, item_fits, items_fit, filter_fits}
use Rattle.hr_parse.specs.declared.ast.AggWord.{AggWord}
use Rattle.hr_parse.specs.declared.ast.AggWord.TheVariants as agg
use Rattle.hr_parse.specs.declared.ast.ColumnAst.{ColumnAst}
use Rattle.hr_parse.specs.declared.ast.Items.{Items}
use Rattle.hr_parse.specs.declared.ast.Items.TheVariants as items_ast
use Rattle.hr_parse.specs.declared.ast.ItemAst.{ItemAst}
use Rattle.hr_parse.specs.declared.ast.ItemAst.TheVariants as item_ast
use Rattle.hr_parse.specs.declared.ast.JoinAst.{JoinAst}
use Rattle.hr_parse.specs.declared.ast.SelectAst.{SelectAst}
use Rattle.hr_parse.specs.declared.ast.ExprAst.{ExprAst, out-ExprAst, fold_out-ExprAst}
use Rattle.hr_parse.specs.declared.ast.ExprKind.{ExprKind, fold-ExprKind, fold-roll-ExprKind}
use Rattle.hr_parse.specs.declared.ast.ExprKind.TheVariants as form
use Rattle.hr_parse.specs.declared.ast.ExprKind.TheOpen.{ExprKind-F}
use Rattle.hr_problem.specs.declared.problem.ProblemKind.{ProblemKind}
use Rattle.hr_problem.specs.declared.problem.ProblemKind.TheVariants as kind
use Rattle.hr_problem.specs.Problems.{problem_where}
use Rattle.hr_names.specs.declared.scope.Place.{Place}
use Rattle.hr_names.specs.Scope.{Entry, Scope, meant}
use Rattle.hr_names.specs.Operands.{column_problems, column_kind, mismatch}
use Rattle.hr_check.specs.Expressions as told
use Rattle.hr_check.specs.Expressions.{Judged, judged}
use Rattle.hr_check.specs.Statements.{is_aggregate, has_aggregate, is_grouping, is_meant, meets, is_same, column_in, is_group, is_group_item, is_mixed, sum_problems, plain_problems, item_problems, first_at, width, wrong_width, items_problems, on_problems}
use Rattle.hr_bind.specs.Bound as bound
use Rattle.hr_bind.specs.Bound.{ref_of, bound_column, bound_expr, bound_aggregate, bound_item, column_item, all_columns, bound_items, bound_on, bound_select}
use Rattle.hr_fitting.proofs.Words.{left_none, right_none, not_so, passed, empty_map, all_pass, any_map, all_range, get_less}
use Rattle.hr_fitting.proofs.Columns.{entries, is_meant_by, column_ok, agreed}
use Rattle.hr_fitting.proofs.Conditions.{cond_ok}
use Rattle.hr_fitting.proofs.Expressions.{kind_col, agree_back, expr_ok}

not_false : (b : Bool) → not b ≡ false → b ≡ true
not_false true e = refl
not_false false e = cc

is_column : (k : ExprKind) (c : ColumnAst) → column_in k ≡ Some c → k ≡ form.Column c
is_column (form.Column d) c e =
    let same : d ≡ c = cc in
    ap form.Column same
is_column _ c e = cc

module _ (scope : Scope) where
  abbrev es : Entries
  es = entries scope

  -- ---- whether a SELECT groups

  aggregate_is : (word : AggWord) (c : ColRef) → not (is_plain (bound_aggregate word c)) ≡ true
  aggregate_is agg.Count c = refl
  aggregate_is agg.Sum c = refl
  aggregate_is agg.Min c = refl
  aggregate_is agg.Max c = refl

  plain_is : (i : ItemAst) → not (is_plain (bound_item scope i)) ≡ is_aggregate i
  plain_is (item_ast.Plain e) = refl
  plain_is (item_ast.CountAll at) = refl
  plain_is (item_ast.Aggregate word c at) = aggregate_is word (bound_column scope c)

  all_plain : (n : ℕ) (xs : List ℕ) → list_any (λ (i : Item). not (is_plain i)) (map (column_item n) xs) ≡ false
  all_plain n [] = refl
  all_plain n (x ∷ xs) = all_plain n xs

  star_plain : (n : ℕ) (rest : Scope) → list_any (λ (i : Item). not (is_plain i)) (all_columns n rest) ≡ false
  star_plain n [] = refl
  star_plain n (entry ∷ rest) =
      list_any-append (λ (i : Item). not (is_plain i)) (map (column_item n) (range_with_len 0 (length entry.columns))) (all_columns (suc n) rest)
      ∙ ap (λ (b : Bool). b || list_any (λ (i : Item). not (is_plain i)) (all_columns (suc n) rest)) (all_plain n (range_with_len 0 (length entry.columns))) ∙ star_plain (suc n) rest

  items_group : (items : Items) → list_any (λ (i : Item). not (is_plain i)) (bound_items scope items) ≡ has_aggregate items
  items_group (items_ast.Star at) = star_plain 0 scope
  items_group (items_ast.Listed all) = any_map is_aggregate (bound_item scope) (λ (i : Item). not (is_plain i)) plain_is all

  grouped_is : (tables : List ℕ) (s : SelectAst) → is_grouped (bound_select tables scope s) ≡ is_grouping s
  grouped_is tables s =
      ap (λ (b : Bool). not b || list_any (λ (i : Item). not (is_plain i)) (bound_items scope s.items)) (empty_map (bound_column scope) s.groups)
      ∙ ap (λ (b : Bool). not (is_empty s.groups) || b) (items_group s.items)

  -- ---- columns of GROUP BY

  same_as : (c g : ColumnAst) (p q : Place) → meant scope c ≡ Ok p → meant scope g ≡ Ok q → is_same scope c g ≡ same_column (bound_column scope c) (bound_column scope g)
  same_as c g p q m n =
      ap (λ (r : Result Place ProblemKind). meets scope c r g) m ∙ ap (λ (r : Result Place ProblemKind). is_meant r p) n
      ∙ sym (ap (λ (r : Result Place ProblemKind). same_column (ref_of r) (bound_column scope g)) m ∙ ap (λ (r : Result Place ProblemKind). same_column (ref_of (Ok p)) (ref_of r)) n)

  among_groups : (c : ColumnAst) (p : Place) → meant scope c ≡ Ok p → (groups : List ColumnAst) → flat_map (column_problems scope) groups ≡ []
      → list_any (λ (g : ColRef). same_column (bound_column scope c) g) (map (bound_column scope) groups) ≡ list_any (is_same scope c) groups
  among_groups c p m [] e = refl
  among_groups c p m (g ∷ groups) e =
      let q = is_meant_by scope g (left_none (column_problems scope g) (flat_map (column_problems scope) groups) e) in
      ap (λ (b : Bool). b || list_any (λ (g : ColRef). same_column (bound_column scope c) g) (map (bound_column scope) groups)) (sym (same_as c g p q.0 m q.1))
      ∙ ap (λ (b : Bool). is_same scope c g || b) (among_groups c p m groups (right_none (column_problems scope g) (flat_map (column_problems scope) groups) e))

  -- an expression that is a column
  told_column : (e : ExprAst) (c : ColumnAst) → (out-ExprAst e).kind ≡ form.Column c → (judged scope e).problems ≡ column_problems scope c
  told_column e c is = ap (λ (j : Judged). j.problems) (fold_out-ExprAst (ℕ → Judged) Judged (told.kind_layer scope) told.expr_layer e)
      ∙ ap (λ (k : ExprKind). (fold-ExprKind (ℕ → Judged) Judged (told.kind_layer scope) told.expr_layer k (out-ExprAst e).at).problems) (is ∙ sym (form.rolls-Column c))
      ∙ ap (λ (f : ℕ → Judged). (f (out-ExprAst e).at).problems) (fold-roll-ExprKind (ℕ → Judged) Judged (told.kind_layer scope) told.expr_layer (ExprKind-F.Column c))

  bound_col : (e : ExprAst) (c : ColumnAst) → (out-ExprAst e).kind ≡ form.Column c → bound_expr scope e ≡ expr.Col (bound_column scope c)
  bound_col e c is = fold_out-ExprAst Expr Expr (bound.kind_layer scope) bound.expr_layer e
      ∙ ap (λ (k : ExprKind). fold-ExprKind Expr Expr (bound.kind_layer scope) bound.expr_layer k) (is ∙ sym (form.rolls-Column c))
      ∙ fold-roll-ExprKind Expr Expr (bound.kind_layer scope) bound.expr_layer (ExprKind-F.Column c)

  in_groups : (groups : List ColumnAst) → flat_map (column_problems scope) groups ≡ [] → (e : ExprAst) → (judged scope e).problems ≡ [] → (o : Option ColumnAst) → column_in (out-ExprAst e).kind ≡ o
      → is_group scope groups o ≡ true → fit.is_group (map (bound_column scope) groups) (fit.column_in (bound_expr scope e)) ≡ true
  in_groups groups none e own None is any = cc
  in_groups groups none e own (Some c) is any =
      let shape = is_column (out-ExprAst e).kind c is in
      let p = is_meant_by scope c (sym (told_column e c shape) ∙ own) in
      ap (λ (x : Expr). fit.is_group (map (bound_column scope) groups) (fit.column_in x)) (bound_col e c shape) ∙ among_groups c p.0 p.1 groups none ∙ any

  module _ (tables : List ℕ) (s : SelectAst) (none : flat_map (column_problems scope) s.groups ≡ []) where
    abbrev whole : SelectStmt
    whole = bound_select tables scope s

    -- ---- items

    plain_ok : (e : ExprAst) → plain_problems scope s e ≡ [] → item_fits es whole (item.Plain (bound_expr scope e)) ≡ true
    plain_ok e f =
        let mixed = problem_where (is_mixed scope s e) kind.AggregateMix (out-ExprAst e).at in
        let own = left_none (judged scope e).problems mixed f in
        let grouped = fit.is_group whole.groups (fit.column_in (bound_expr scope e)) in
        and_from (is_some (expr_kind es (bound_expr scope e))) (not (is_grouped whole) || grouped) (ap is_some (expr_ok scope e own))
        (ap (λ (b : Bool). not b || grouped) (grouped_is tables s) ∙ by own (is_grouping s) (not_so (is_mixed scope s e) kind.AggregateMix (out-ExprAst e).at (right_none (judged scope e).problems mixed f)))
      where
        by : (judged scope e).problems ≡ [] → (b : Bool) → (b && not (is_group_item scope s.groups e)) ≡ false → (not b || fit.is_group whole.groups (fit.column_in (bound_expr scope e))) ≡ true
        by own false m = refl
        by own true m = in_groups s.groups none e own (column_in (out-ExprAst e).kind) refl (not_false (is_group_item scope s.groups e) m)

    aggregate_ok : (word : AggWord) (c : ColumnAst) → column_problems scope c ++ sum_problems word (column_kind scope c) c.first.at ≡ [] → item_fits es whole (bound_aggregate word (bound_column scope c)) ≡ true
    aggregate_ok agg.Count c e = ap is_some (column_ok scope c (left_none (column_problems scope c) [] e)).1
    aggregate_ok agg.Min c e = ap is_some (column_ok scope c (left_none (column_problems scope c) [] e)).1
    aggregate_ok agg.Max c e = ap is_some (column_ok scope c (left_none (column_problems scope c) [] e)).1
    aggregate_ok agg.Sum c e =
        let differs = mismatch (Some col.Int) (column_kind scope c) c.first.at in
        let k = column_ok scope c (left_none (column_problems scope c) differs e) in
        let same = agreed (Some col.Int) (column_kind scope c) c.first.at (right_none (column_problems scope c) differs e) in
        ap is_number k.1 ∙ agree_back (Some k.0) (ap (agree (Some col.Int)) (sym k.2) ∙ same)

    item_ok : (i : ItemAst) → item_problems scope s i ≡ [] → item_fits es whole (bound_item scope i) ≡ true
    item_ok (item_ast.Plain e) f = plain_ok e f
    item_ok (item_ast.CountAll at) f = refl
    item_ok (item_ast.Aggregate word c at) f = aggregate_ok word c f

    -- ---- `*`

    column_fits : is_grouping s ≡ false → (r : ColRef) (d : ColumnDef) → fit.column_at es r ≡ Some d → item_fits es whole (item.Plain (expr.Col r)) ≡ true
    column_fits g r d at =
        let grouped = fit.is_group whole.groups (fit.column_in (expr.Col r)) in
        and_from (is_some (expr_kind es (expr.Col r))) (not (is_grouped whole) || grouped)
        (ap is_some (kind_col es r ∙ ap (option_map (λ (d : ColumnDef). Some d.kind)) at)) (ap (λ (b : Bool). not b || grouped) (grouped_is tables s ∙ g))

    star_fits : is_grouping s ≡ false → (n : ℕ) (rest : Scope) → ((i : ℕ) → slice_get es (n + i) ≡ option_map (λ (e : Entry). e.columns) (slice_get rest i)) → list_all (item_fits es whole) (all_columns n rest) ≡ true
    star_fits g n [] h = refl
    star_fits g n (entry ∷ rest) h =
        let first : n + 0 ≡ n = omega arith in
        let long = length entry.columns in
        list_all-append (item_fits es whole) (map (column_item n) (range_with_len 0 long)) (all_columns (suc n) rest)
        ∙ and_from (list_all (item_fits es whole) (map (column_item n) (range_with_len 0 long))) (list_all (item_fits es whole) (all_columns (suc n) rest))
        (list_all-map (item_fits es whole) (column_item n) (range_with_len 0 long)
        ∙ all_range (λ (c : ℕ). item_fits es whole (column_item n c)) 0 long (λ c lt.
        let same : 0 + c ≡ c = omega arith in
        let d = get_less entry.columns (0 + c) (omega (arith, lt)) in
        column_fits g (record { entry = n; column = 0 + c }) d.0 (ap (option_and_then (λ (columns : List ColumnDef). slice_get columns (0 + c))) (ap (slice_get es) (sym first) ∙ h 0) ∙ d.1)))
        (star_fits g (suc n) rest (λ i. let next : suc n + i ≡ n + suc i = omega arith in ap (slice_get es) next ∙ h (suc i)))

    star_long : (n : ℕ) (rest : Scope) → length (all_columns n rest) ≡ width rest
    star_long n [] = refl
    star_long n (entry ∷ rest) =
        let all = length-append (map (column_item n) (range_with_len 0 (length entry.columns))) (all_columns (suc n) rest) in
        let here = length-map-range_with_len (column_item n) 0 (length entry.columns) in
        let more = star_long (suc n) rest in
        all ∙ ap (λ (k : ℕ). k + length (all_columns (suc n) rest)) here ∙ ap (λ (k : ℕ). length entry.columns + k) more

    -- ---- the list

    some_there : (all : List Item) → nat_lt 0 (length all) ≡ true → not (is_empty all) ≡ true
    some_there [] e = cc
    some_there (i ∷ all) e = refl

    sized : (all : List Item) (n at : ℕ) → length all ≡ n → wrong_width n at ≡ [] → (not (is_empty all) && nat_le (length all) MAX_ITEMS) ≡ true
    sized all n at long e =
        let both = passed (nat_lt 0 n && nat_le n MAX_ITEMS) kind.WrongArity at e in
        let parts = and_parts (nat_lt 0 n) (nat_le n MAX_ITEMS) both in
        and_from (not (is_empty all)) (nat_le (length all) MAX_ITEMS) (some_there all (ap (nat_lt 0) long ∙ parts.0)) (ap (λ (k : ℕ). nat_le k MAX_ITEMS) long ∙ parts.1)

    pub items_ok : (items : Items) → items_problems scope s items ≡ []
        → (not (is_empty (bound_items scope items)) && nat_le (length (bound_items scope items)) MAX_ITEMS && list_all (item_fits es whole) (bound_items scope items)) ≡ true
    items_ok (items_ast.Star at) e =
        let wrong = wrong_width (width scope) at in
        let mixed = problem_where (is_grouping s) kind.AggregateMix at in
        let all = all_columns 0 scope in
        and_from (not (is_empty all) && nat_le (length all) MAX_ITEMS) (list_all (item_fits es whole) all)
        (sized all (width scope) at (star_long 0 scope) (left_none wrong mixed e))
        (star_fits (not_so (is_grouping s) kind.AggregateMix at (right_none wrong mixed e)) 0 scope
        (λ i. let same : 0 + i ≡ i = omega arith in ap (slice_get es) same ∙ slice_get-map (λ (e : Entry). e.columns) scope i))
    items_ok (items_ast.Listed all) e =
        let wrong = wrong_width (length all) (first_at all) in
        let each = flat_map (item_problems scope s) all in
        let these = map (bound_item scope) all in
        and_from (not (is_empty these) && nat_le (length these) MAX_ITEMS) (list_all (item_fits es whole) these)
        (sized these (length all) (first_at all) (length-map all (bound_item scope)) (left_none wrong each e))
        (all_pass (item_problems scope s) (bound_item scope) (item_fits es whole) item_ok all (right_none wrong each e))

    -- ---- its parts together

    pub on_ok : (join : Option JoinAst) → on_problems scope join ≡ [] → filter_fits es (bound_on scope join) ≡ true
    on_ok None e = refl
    on_ok (Some j) e = cond_ok scope j.on e

    pub groups_ok : list_all (has_column es) whole.groups ≡ true
    groups_ok = all_pass (column_problems scope) (bound_column scope) (has_column es) (λ c e. ap is_some (column_ok scope c e).1) s.groups none
