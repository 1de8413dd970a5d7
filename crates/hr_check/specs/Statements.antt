-- All problems of a statement, part by part.
use Rattle.std.specs.Prelude.{if◌then◌else◌, ℕ, ◌+◌, suc, nat_lt, nat_le, Bool, true, false, not, ◌&&◌, ◌||◌, ◌==◌, Option, Some, None, Result, Ok, Err, List, [], ◌∷◌, ◌++◌, length, flat_map, slice_get}
use Rattle.std.specs.List.{list_any}
use Rattle.std.specs.Option.{option_and_then}
use Rattle.hr_base.specs.Lists.{is_empty}
use Rattle.hr_base.specs.declared.limits.TheConstants.{MAX_ITEMS}
use Rattle.hr_rel.specs.declared.catalog.Catalog.{Catalog}
use Rattle.hr_rel.specs.declared.catalog.ColumnDef.{ColumnDef}
use Rattle.hr_rel.specs.declared.catalog.ColKind.{ColKind}
use Rattle.hr_rel.specs.declared.catalog.ColKind.TheVariants as col
use Rattle.hr_rel.specs.Fit.{has_table}
use Rattle.hr_parse.specs.declared.ast.Ast.{Ast}
use Rattle.hr_parse.specs.declared.ast.Ast.TheVariants as ast
use Rattle.hr_parse.specs.declared.ast.AggWord.{AggWord}
use Rattle.hr_parse.specs.declared.ast.AggWord.TheVariants as agg
use Rattle.hr_parse.specs.declared.ast.Items.{Items}
use Rattle.hr_parse.specs.declared.ast.Items.TheVariants as items
use Rattle.hr_parse.specs.declared.ast.ItemAst.{ItemAst}
use Rattle.hr_parse.specs.declared.ast.ItemAst.TheVariants as item
use Rattle.hr_parse.specs.declared.ast.NameAt.{NameAt}
use Rattle.hr_parse.specs.declared.ast.ColumnAst.{ColumnAst}
use Rattle.hr_parse.specs.declared.ast.EntryAst.{EntryAst}
use Rattle.hr_parse.specs.declared.ast.JoinAst.{JoinAst}
use Rattle.hr_parse.specs.declared.ast.LiteralAst.{LiteralAst}
use Rattle.hr_parse.specs.declared.ast.TupleAst.{TupleAst}
use Rattle.hr_parse.specs.declared.ast.SetAst.{SetAst}
use Rattle.hr_parse.specs.declared.ast.SelectAst.{SelectAst}
use Rattle.hr_parse.specs.declared.ast.InsertAst.{InsertAst}
use Rattle.hr_parse.specs.declared.ast.UpdateAst.{UpdateAst}
use Rattle.hr_parse.specs.declared.ast.ExprAst.{ExprAst, out-ExprAst}
use Rattle.hr_parse.specs.declared.ast.ExprKind.{ExprKind}
use Rattle.hr_parse.specs.declared.ast.ExprKind.TheVariants as expr
use Rattle.hr_problem.specs.declared.problem.Problem.{Problem}
use Rattle.hr_problem.specs.declared.problem.ProblemKind.{ProblemKind}
use Rattle.hr_problem.specs.declared.problem.ProblemKind.TheVariants as kind
use Rattle.hr_names.specs.declared.scope.Place.{Place}
use Rattle.hr_problem.specs.Problems.{problem_where, none_at_all}
use Rattle.hr_names.specs.Scope.{Scope, same_name, table_of, column_of, called, meant, columns_in, scope_of, select_entries, alone}
use Rattle.hr_names.specs.Names.{unknown_name, named_twice, names_problems, kind_of}
use Rattle.hr_names.specs.Operands.{column_problems, column_kind, literal_problems, literal_kind, mismatch}
use Rattle.hr_check.specs.Conditions.{cond_problems, filter_problems}
use Rattle.hr_check.specs.Expressions.{judged}

-- ---- tables

abbrev pub unknown_table : Catalog → NameAt → List Problem
unknown_table catalog table = problem_where (not (has_table catalog (table_of catalog table.name))) kind.UnknownTable table.at

-- both entries are called the same
abbrev pub called_twice : EntryAst → EntryAst → List Problem
called_twice first second = problem_where (same_name (called first).name (called second).name) kind.NameTwice (called second).at

abbrev pub join_problems : Catalog → EntryAst → Option JoinAst → List Problem
join_problems catalog first None = []
join_problems catalog first (Some j) = unknown_table catalog j.entry.table ++ called_twice first j.entry

-- the problems of the table entries, in order
abbrev pub table_problems : Catalog → Ast → List Problem
table_problems catalog (ast.Select s) = unknown_table catalog s.first.table ++ join_problems catalog s.first s.join
table_problems catalog (ast.Insert i) = unknown_table catalog i.table
table_problems catalog (ast.Update u) = unknown_table catalog u.table
table_problems catalog (ast.Delete d) = unknown_table catalog d.table

-- ---- SELECT

abbrev pub is_aggregate : ItemAst → Bool
is_aggregate (item.Plain e) = false
is_aggregate (item.CountAll at) = true
is_aggregate (item.Aggregate word c at) = true

abbrev pub has_aggregate : Items → Bool
has_aggregate (items.Star at) = false
has_aggregate (items.Listed all) = list_any is_aggregate all

-- a SELECT groups where it has GROUP BY or an aggregate
abbrev pub is_grouping : SelectAst → Bool
is_grouping s = not (is_empty s.groups) || has_aggregate s.items

abbrev pub same_place : Place → Place → Bool
same_place p q = (p.entry == q.entry) && (p.column == q.column)

abbrev pub is_meant : Result Place ProblemKind → Place → Bool
is_meant (Ok q) p = same_place p q
is_meant (Err k) p = false

abbrev pub same_second : Option NameAt → Option NameAt → Bool
same_second None None = true
same_second (Some a) (Some b) = same_name a.name b.name
same_second None (Some b) = false
same_second (Some a) None = false

abbrev pub written_alike : ColumnAst → ColumnAst → Bool
written_alike c g = same_name c.first.name g.first.name && same_second c.second g.second

abbrev pub meets : Scope → ColumnAst → Result Place ProblemKind → ColumnAst → Bool
meets scope c (Ok p) g = is_meant (meant scope g) p
meets scope c (Err k) g = written_alike c g

-- Whether a column is that of GROUP BY: both mean the same one. One that isn't found is written like it.
abbrev pub is_same : Scope → ColumnAst → ColumnAst → Bool
is_same scope c g = meets scope c (meant scope c) g

-- the column that an expression is
abbrev pub column_in : ExprKind → Option ColumnAst
column_in (expr.Column c) = Some c
column_in _ = None

abbrev pub is_group : Scope → List ColumnAst → Option ColumnAst → Bool
is_group scope groups None = false
is_group scope groups (Some c) = list_any (is_same scope c) groups

abbrev pub is_group_item : Scope → List ColumnAst → ExprAst → Bool
is_group_item scope groups e = is_group scope groups (column_in (out-ExprAst e).kind)

-- an item that is neither an aggregate nor a column of GROUP BY, where the SELECT groups
abbrev pub is_mixed : Scope → SelectAst → ExprAst → Bool
is_mixed scope s e = is_grouping s && not (is_group_item scope s.groups e)

-- SUM takes numbers alone
abbrev pub sum_problems : AggWord → Option ColKind → ℕ → List Problem
sum_problems agg.Sum k at = mismatch (Some col.Int) k at
sum_problems _ k at = []

abbrev pub plain_problems : Scope → SelectAst → ExprAst → List Problem
plain_problems scope s e = (judged scope e).problems ++ problem_where (is_mixed scope s e) kind.AggregateMix (out-ExprAst e).at

abbrev pub item_problems : Scope → SelectAst → ItemAst → List Problem
item_problems scope s (item.Plain e) = plain_problems scope s e
item_problems scope s (item.CountAll at) = []
item_problems scope s (item.Aggregate word c at) = column_problems scope c ++ sum_problems word (column_kind scope c) c.first.at

abbrev pub item_at : ItemAst → ℕ
item_at (item.Plain e) = (out-ExprAst e).at
item_at (item.CountAll at) = at
item_at (item.Aggregate word c at) = at

-- the place of the first item; no text has a list without one
abbrev pub first_at : List ItemAst → ℕ
first_at [] = 0
first_at (i ∷ all) = item_at i

-- how many columns `*` stands for
abbrev pub width : Scope → ℕ
width [] = 0
width (entry ∷ scope) = length entry.columns + width scope

-- an answer has at least one column, and at most 8
abbrev pub wrong_width : ℕ → ℕ → List Problem
wrong_width n at = problem_where (not (nat_lt 0 n && nat_le n MAX_ITEMS)) kind.WrongArity at

abbrev pub items_problems : Scope → SelectAst → Items → List Problem
items_problems scope s (items.Star at) = wrong_width (width scope) at ++ problem_where (is_grouping s) kind.AggregateMix at
items_problems scope s (items.Listed all) = wrong_width (length all) (first_at all) ++ flat_map (item_problems scope s) all

abbrev pub on_problems : Scope → Option JoinAst → List Problem
on_problems scope None = []
on_problems scope (Some j) = cond_problems scope j.on

abbrev pub select_problems : Scope → SelectAst → List Problem
select_problems scope s = items_problems scope s s.items ++ on_problems scope s.join ++ filter_problems scope s.filter ++ flat_map (column_problems scope) s.groups

-- ---- INSERT

-- the place of the column that gets the value at this place of a tuple
abbrev pub target : List ColumnDef → List NameAt → ℕ → Option ℕ
target columns names i = if is_empty names then Some i else option_and_then (λ (n : NameAt). column_of columns n.name) (slice_get names i)

abbrev pub target_kind : List ColumnDef → List NameAt → ℕ → Option ColKind
target_kind columns names i = kind_of columns (target columns names i)

-- an inserted literal: whether it is a value, and of its column's kind
abbrev pub value_problems : List ColumnDef → List NameAt → ℕ → LiteralAst → List Problem
value_problems columns names i l = literal_problems l ++ mismatch (target_kind columns names i) (literal_kind l.value) l.at

-- the literals of a tuple from this place on
abbrev pub values_problems : List ColumnDef → List NameAt → ℕ → List LiteralAst → List Problem
values_problems columns names i [] = []
values_problems columns names i (l ∷ values) = value_problems columns names i l ++ values_problems columns names (suc i) values

-- how many values a tuple has to have: one for each column named, or for each of the table where none is
abbrev pub arity : List ColumnDef → List NameAt → ℕ
arity columns names = if is_empty names then length columns else length names

abbrev pub tuple_problems : List ColumnDef → List NameAt → TupleAst → List Problem
tuple_problems columns names t = problem_where (not (length t.values == arity columns names)) kind.WrongArity t.at ++ values_problems columns names 0 t.values

abbrev pub insert_problems : List ColumnDef → InsertAst → List Problem
insert_problems columns i = none_at_all i.tuples ++ names_problems columns i.columns ++ flat_map (tuple_problems columns i.columns) i.tuples

-- ---- UPDATE

abbrev pub is_key : Option ℕ → Bool
is_key None = false
is_key (Some at) = at == 0

-- an assignment: to a column that is there and isn't the key, of an expression of its kind
abbrev pub set_problems : Scope → List ColumnDef → SetAst → List Problem
set_problems scope columns s = unknown_name columns s.column ++ problem_where (is_key (column_of columns s.column.name)) kind.KeyAssigned s.column.at
    ++ (judged scope s.value).problems ++ mismatch (kind_of columns (column_of columns s.column.name)) (judged scope s.value).kind (out-ExprAst s.value).at

abbrev pub assigned_twice : List ColumnDef → SetAst → SetAst → List Problem
assigned_twice columns s later = named_twice columns s.column later.column

abbrev pub sets_problems : Scope → List ColumnDef → List SetAst → List Problem
sets_problems scope columns [] = []
sets_problems scope columns (s ∷ sets) = set_problems scope columns s ++ flat_map (assigned_twice columns s) sets ++ sets_problems scope columns sets

abbrev pub update_problems : Scope → List ColumnDef → UpdateAst → List Problem
update_problems scope columns u = none_at_all u.sets ++ sets_problems scope columns u.sets ++ filter_problems scope u.filter

-- ---- statements

-- all problems but those of the table entries
abbrev pub problems : Catalog → Ast → List Problem
problems catalog (ast.Select s) = select_problems (scope_of catalog (select_entries s)) s
problems catalog (ast.Insert i) = insert_problems (columns_in catalog i.table) i
problems catalog (ast.Update u) = update_problems (scope_of catalog (alone u.table)) (columns_in catalog u.table) u
problems catalog (ast.Delete d) = filter_problems (scope_of catalog (alone d.table)) d.filter
