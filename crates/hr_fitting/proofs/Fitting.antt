-- What a statement without a problem is bound to fits the catalog.
use Rattle.std.proofs.Common.{◌≡◌, ℕ, true, ◌&&◌, not, Option, Some, None, Result, Ok, Err, IfOk, List, [], ◌∷◌, ◌++◌, map, flat_map, refl, sym, ap, ◌∙◌, subst}
use Rattle.std.specs.List.{list_all}
use Rattle.std.proofs.lemmas.Bool.{and_from}
use Rattle.hr_base.specs.Lists.{is_empty}
use Rattle.hr_rel.specs.declared.catalog.Catalog.{Catalog}
use Rattle.hr_rel.specs.declared.stmt.Stmt.{Stmt}
use Rattle.hr_rel.specs.Database.{columns_of}
use Rattle.hr_rel.specs.Holds.{row_fits}
use Rattle.hr_rel.specs.Fit.{Entries, entries_of, has_table, has_column, items_fit, filter_fits, is_joined, set_fits, assign_apart, select_fits, insert_fits, update_fits, delete_fits, fits}
use Rattle.hr_parse.specs.declared.ast.Ast.{Ast}
use Rattle.hr_parse.specs.declared.ast.Ast.TheVariants as ast
use Rattle.hr_parse.specs.declared.ast.NameAt.{NameAt}
use Rattle.hr_parse.specs.declared.ast.EntryAst.{EntryAst}
use Rattle.hr_parse.specs.declared.ast.JoinAst.{JoinAst}
use Rattle.hr_parse.specs.declared.ast.SelectAst.{SelectAst}
use Rattle.hr_parse.specs.declared.ast.InsertAst.{InsertAst}
use Rattle.hr_parse.specs.declared.ast.UpdateAst.{UpdateAst}
use Rattle.hr_parse.specs.declared.ast.DeleteAst.{DeleteAst}
use Rattle.hr_problem.specs.declared.problem.Problem.{Problem}
use Rattle.hr_problem.specs.declared.problem.ProblemKind.TheVariants as kind
use Rattle.hr_problem.specs.Problems.{first_of, least, none_at_all}
use Rattle.hr_problem.proofs.First.{empty_of}
use Rattle.hr_names.specs.Scope.{Entry, Scope, table_of, columns_in, joined, alone, select_entries, entry_of, scope_of}
use Rattle.hr_names.specs.Names.{names_problems}
use Rattle.hr_names.specs.Operands.{column_problems}
use Rattle.hr_check.specs.Conditions.{filter_problems}
use Rattle.hr_check.specs.Statements.{unknown_table, called_twice, join_problems, table_problems, items_problems, on_problems, tuple_problems, sets_problems, problems}
use Rattle.hr_check.specs.Told.{or_else, problem_of}
use Rattle.hr_bind.specs.Bound.{tables_of, bound_on, bound_filter, bound_row, bound_set, select_of, insert_of, update_of, delete_of, bound}
use Rattle.hr_bind.specs.Bind.{bound_of, unless, bind_of}
use Rattle.hr_parse.specs.declared.parsing.ParseError.{ParseError}
use Rattle.hr_parse.specs.Parse.{parsed}
use Rattle.hr_bind.specs.Prepare.{settled, tree_prepared, prepared}
use Rattle.hr_fitting.proofs.Words.{left_none, right_none, passed, not_empty, empty_map, all_pass, map_map}
use Rattle.hr_fitting.proofs.Columns.{entries}
use Rattle.hr_fitting.proofs.Conditions.{filter_ok}
use Rattle.hr_fitting.proofs.Rows.{row_ok, apart_ok, sets_ok}
use Rattle.hr_fitting.proofs.Selects.{items_ok, on_ok, groups_ok}

table_there : (catalog : Catalog) (t : NameAt) → unknown_table catalog t ≡ [] → has_table catalog (table_of catalog t.name) ≡ true
table_there catalog t e = passed (has_table catalog (table_of catalog t.name)) kind.UnknownTable t.at e

-- ---- SELECT

tables_there : (catalog : Catalog) (first : EntryAst) (join : Option JoinAst) → unknown_table catalog first.table ++ join_problems catalog first join ≡ []
    → list_all (has_table catalog) (tables_of catalog (first ∷ joined join)) ≡ true
tables_there catalog first None e =
    and_from (has_table catalog (table_of catalog first.table.name)) true (table_there catalog first.table (left_none (unknown_table catalog first.table) [] e)) refl
tables_there catalog first (Some j) e =
    let more = right_none (unknown_table catalog first.table) (join_problems catalog first (Some j)) e in
    let one = has_table catalog (table_of catalog first.table.name) in
    let two = has_table catalog (table_of catalog j.entry.table.name) in
    and_from one (two && true) (table_there catalog first.table (left_none (unknown_table catalog first.table) (join_problems catalog first (Some j)) e))
    (and_from two true (table_there catalog j.entry.table (left_none (unknown_table catalog j.entry.table) (called_twice first j.entry) more)) refl)

joined_right : (catalog : Catalog) (scope : Scope) (first : EntryAst) (join : Option JoinAst) → is_joined (tables_of catalog (first ∷ joined join)) (bound_on scope join) ≡ true
joined_right catalog scope first None = refl
joined_right catalog scope first (Some j) = refl

same_entries : (catalog : Catalog) (all : List EntryAst) → entries_of catalog (tables_of catalog all) ≡ entries (scope_of catalog all)
same_entries catalog all = map_map (λ (e : EntryAst). table_of catalog e.table.name) (columns_of catalog) all
    ∙ sym (map_map (entry_of catalog) (λ (e : Entry). e.columns) all)

select_ok : (catalog : Catalog) (s : SelectAst) → table_problems catalog (ast.Select s) ≡ [] → problems catalog (ast.Select s) ≡ [] → select_fits catalog (select_of catalog s) ≡ true
select_ok catalog s e f =
    let scope = scope_of catalog (select_entries s) in
    let tables = tables_of catalog (select_entries s) in
    let b = select_of catalog s in
    let items = items_problems scope s s.items in
    let ons = on_problems scope s.join in
    let filters = filter_problems scope s.filter in
    let groups = flat_map (column_problems scope) s.groups in
    let no_groups = right_none (items ++ ons ++ filters) groups f in
    let front = left_none (items ++ ons ++ filters) groups f in
    let no_filter = right_none (items ++ ons) filters front in
    let first = left_none (items ++ ons) filters front in
    let fitting = λ (es : Entries). (is_joined b.tables b.on && list_all (has_table catalog) b.tables && filter_fits es b.on && filter_fits es b.filter
    && list_all (has_column es) b.groups && items_fit es b) ≡ true in
    let es = entries scope in
    let p = is_joined b.tables b.on in
    let q = list_all (has_table catalog) b.tables in
    let r = filter_fits es b.on in
    let t = filter_fits es b.filter in
    let u = list_all (has_column es) b.groups in
    subst fitting (sym (same_entries catalog (select_entries s)))
    (and_from (p && q && r && t && u) (items_fit es b)
    (and_from (p && q && r && t) u
    (and_from (p && q && r) t
    (and_from (p && q) r
    (and_from p q (joined_right catalog scope s.first s.join) (tables_there catalog s.first s.join e))
    (on_ok scope tables s no_groups s.join (right_none items ons first)))
    (filter_ok scope s.filter no_filter))
    (groups_ok scope tables s no_groups))
    (items_ok scope tables s no_groups s.items (left_none items ons first)))

-- ---- INSERT, UPDATE, DELETE

insert_ok : (catalog : Catalog) (i : InsertAst) → table_problems catalog (ast.Insert i) ≡ [] → problems catalog (ast.Insert i) ≡ [] → insert_fits catalog (insert_of catalog i) ≡ true
insert_ok catalog i e f =
    let columns = columns_in catalog i.table in
    let each = flat_map (tuple_problems columns i.columns) i.tuples in
    let front = left_none (none_at_all i.tuples ++ names_problems columns i.columns) each f in
    let rows = map (bound_row columns i.columns) i.tuples in
    let there = has_table catalog (table_of catalog i.table.name) in
    and_from (there && not (is_empty rows)) (list_all (row_fits columns) rows)
    (and_from there (not (is_empty rows)) (table_there catalog i.table e)
    (ap not (empty_map (bound_row columns i.columns) i.tuples) ∙ not_empty i.tuples kind.WrongArity 0 (left_none (none_at_all i.tuples) (names_problems columns i.columns) front)))
    (all_pass (tuple_problems columns i.columns) (bound_row columns i.columns) (row_fits columns) (row_ok columns i.columns) i.tuples
    (right_none (none_at_all i.tuples ++ names_problems columns i.columns) each f))

update_ok : (catalog : Catalog) (u : UpdateAst) → table_problems catalog (ast.Update u) ≡ [] → problems catalog (ast.Update u) ≡ [] → update_fits catalog (update_of catalog u) ≡ true
update_ok catalog u e f =
    let scope = scope_of catalog (alone u.table) in
    let columns = columns_in catalog u.table in
    let filters = filter_problems scope u.filter in
    let front = left_none (none_at_all u.sets ++ sets_problems scope columns u.sets) filters f in
    let none = right_none (none_at_all u.sets) (sets_problems scope columns u.sets) front in
    let sets = map (bound_set scope columns) u.sets in
    let es = entries scope in
    let there = has_table catalog (table_of catalog u.table.name) in
    let each = list_all (set_fits es) sets in
    and_from (there && not (is_empty sets) && each && assign_apart sets) (filter_fits es (bound_filter scope u.filter))
    (and_from (there && not (is_empty sets) && each) (assign_apart sets)
    (and_from (there && not (is_empty sets)) each
    (and_from there (not (is_empty sets)) (table_there catalog u.table e)
    (ap not (empty_map (bound_set scope columns) u.sets) ∙ not_empty u.sets kind.WrongArity 0 (left_none (none_at_all u.sets) (sets_problems scope columns u.sets) front)))
    (sets_ok scope columns refl u.sets none))
    (apart_ok scope columns refl u.sets none))
    (filter_ok scope u.filter (right_none (none_at_all u.sets ++ sets_problems scope columns u.sets) filters f))

delete_ok : (catalog : Catalog) (d : DeleteAst) → table_problems catalog (ast.Delete d) ≡ [] → problems catalog (ast.Delete d) ≡ [] → delete_fits catalog (delete_of catalog d) ≡ true
delete_ok catalog d e f =
    let scope = scope_of catalog (alone d.table) in
    and_from (has_table catalog (table_of catalog d.table.name)) (filter_fits (entries scope) (bound_filter scope d.filter)) (table_there catalog d.table e) (filter_ok scope d.filter f)

-- ---- statements

statement_ok : (catalog : Catalog) (a : Ast) → table_problems catalog a ≡ [] → problems catalog a ≡ [] → fits catalog (bound catalog a) ≡ true
statement_ok catalog (ast.Select s) e f = select_ok catalog s e f
statement_ok catalog (ast.Insert i) e f = insert_ok catalog i e f
statement_ok catalog (ast.Update u) e f = update_ok catalog u e f
statement_ok catalog (ast.Delete d) e f = delete_ok catalog d e f

none_first : (ps : List Problem) → first_of ps ≡ None → ps ≡ []
none_first [] e = refl
none_first (p ∷ ps) e = cc

neither : (a b : Option Problem) → or_else a b ≡ None → (a ≡ None) × (b ≡ None)
neither None b e = (refl, e)
neither (Some p) b e = cc

-- a statement of which no problem is told is bound to one that fits
bound_fits : (catalog : Catalog) (a : Ast) → problem_of catalog a ≡ None → fits catalog (bound_of catalog a) ≡ true
unfolding problem_of bound_of
bound_fits catalog a e =
    let none = neither (first_of (table_problems catalog a)) (least (problems catalog a)) e in
    statement_ok catalog a (none_first (table_problems catalog a) none.0) (empty_of (problems catalog a) none.1)

by_problem : (catalog : Catalog) (a : Ast) (o : Option Problem) → problem_of catalog a ≡ o → IfOk (unless o (bound_of catalog a)) (λ s. fits catalog s ≡ true)
by_problem catalog a None e = bound_fits catalog a e
by_problem catalog a (Some p) e = tt

pub tree_fits : (catalog : Catalog) (a : Ast) → IfOk (bind_of catalog a) (λ s. fits catalog s ≡ true)
unfolding bind_of
tree_fits catalog a = by_problem catalog a (problem_of catalog a) refl

settled_fits : (catalog : Catalog) (r : Result Stmt Problem) → IfOk r (λ s. fits catalog s ≡ true) → IfOk (settled r) (λ s. fits catalog s ≡ true)
settled_fits catalog (Ok s) e = e
settled_fits catalog (Err p) e = tt

by_tree : (catalog : Catalog) (r : Result Ast ParseError) → IfOk (tree_prepared catalog r) (λ s. fits catalog s ≡ true)
by_tree catalog (Ok a) = settled_fits catalog (bind_of catalog a) (tree_fits catalog a)
by_tree catalog (Err e) = tt

pub text_fits : (catalog : Catalog) (text : List ℕ) → IfOk (prepared catalog text) (λ s. fits catalog s ≡ true)
unfolding prepared
text_fits catalog text = by_tree catalog (parsed text)
