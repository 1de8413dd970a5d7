-- The bound statement of a tree that has no problem. It is total: a name that means nothing is column 0 of entry 0.
use Rattle.std.specs.Prelude.{ℕ, suc, Bool, true, false, ◌==◌, if◌then◌else◌, Option, Some, None, unwrap_or, Result, Ok, Err, List, [], ◌∷◌, ◌++◌, length, map, slice_get, position}
use Rattle.std.specs.List.{range_with_len}
use Rattle.std.specs.Option.{option_map, option_and_then}
use Rattle.hr_base.specs.Lists.{is_empty}
use Rattle.hr_rel.specs.declared.value.Value.{Value}
use Rattle.hr_rel.specs.declared.value.Value.TheVariants as value
use Rattle.hr_rel.specs.declared.catalog.Catalog.{Catalog}
use Rattle.hr_rel.specs.declared.catalog.ColumnDef.{ColumnDef}
use Rattle.hr_rel.specs.declared.expr.ColRef.{ColRef}
use Rattle.hr_rel.specs.declared.expr.Op.TheVariants as op
use Rattle.hr_rel.specs.declared.expr.Operand.{Operand}
use Rattle.hr_rel.specs.declared.expr.Operand.TheVariants as operand
use Rattle.hr_rel.specs.declared.expr.Expr.{Expr}
use Rattle.hr_rel.specs.declared.expr.Expr.TheVariants as expr
use Rattle.hr_rel.specs.declared.expr.Pred.{Pred}
use Rattle.hr_rel.specs.declared.expr.Pred.TheVariants as pred
use Rattle.hr_rel.specs.declared.stmt.Item.{Item}
use Rattle.hr_rel.specs.declared.stmt.Item.TheVariants as item
use Rattle.hr_rel.specs.declared.stmt.Set.{Set}
use Rattle.hr_rel.specs.declared.stmt.Stmt.{Stmt}
use Rattle.hr_rel.specs.declared.stmt.Stmt.TheVariants as stmt
use Rattle.hr_rel.specs.declared.stmt.SelectStmt.{SelectStmt}
use Rattle.hr_rel.specs.declared.stmt.InsertStmt.{InsertStmt}
use Rattle.hr_rel.specs.declared.stmt.UpdateStmt.{UpdateStmt}
use Rattle.hr_rel.specs.declared.stmt.DeleteStmt.{DeleteStmt}
use Rattle.hr_parse.specs.declared.ast.Ast.{Ast}
use Rattle.hr_parse.specs.declared.ast.Ast.TheVariants as ast
use Rattle.hr_parse.specs.declared.ast.AggWord.{AggWord}
use Rattle.hr_parse.specs.declared.ast.AggWord.TheVariants as agg
use Rattle.hr_parse.specs.declared.ast.Items.{Items}
use Rattle.hr_parse.specs.declared.ast.Items.TheVariants as items_ast
use Rattle.hr_parse.specs.declared.ast.ItemAst.{ItemAst}
use Rattle.hr_parse.specs.declared.ast.ItemAst.TheVariants as item_ast
use Rattle.hr_parse.specs.declared.ast.NameAt.{NameAt}
use Rattle.hr_parse.specs.declared.ast.ColumnAst.{ColumnAst}
use Rattle.hr_parse.specs.declared.ast.EntryAst.{EntryAst}
use Rattle.hr_parse.specs.declared.ast.JoinAst.{JoinAst}
use Rattle.hr_parse.specs.declared.ast.LitAst.{LitAst}
use Rattle.hr_parse.specs.declared.ast.LitAst.TheVariants as lit
use Rattle.hr_parse.specs.declared.ast.LiteralAst.{LiteralAst}
use Rattle.hr_parse.specs.declared.ast.TupleAst.{TupleAst}
use Rattle.hr_parse.specs.declared.ast.OperandAst.{OperandAst}
use Rattle.hr_parse.specs.declared.ast.OperandAst.TheVariants as operand_ast
use Rattle.hr_parse.specs.declared.ast.SetAst.{SetAst}
use Rattle.hr_parse.specs.declared.ast.SelectAst.{SelectAst}
use Rattle.hr_parse.specs.declared.ast.InsertAst.{InsertAst}
use Rattle.hr_parse.specs.declared.ast.UpdateAst.{UpdateAst}
use Rattle.hr_parse.specs.declared.ast.DeleteAst.{DeleteAst}
use Rattle.hr_parse.specs.declared.ast.CondAst.{CondAst, fold-CondAst}
use Rattle.hr_parse.specs.declared.ast.CondAst.TheOpen.{CondAst-F}
use Rattle.hr_parse.specs.declared.ast.ExprAst.{ExprAst, fold-ExprAst}
use Rattle.hr_parse.specs.declared.ast.ExprKind.TheOpen.{ExprKind-F, ExprAst-F}
use Rattle.hr_problem.specs.declared.problem.ProblemKind.{ProblemKind}
use Rattle.hr_names.specs.declared.scope.Place.{Place}
use Rattle.hr_names.specs.Scope.{Scope, table_of, column_of, meant, columns_in, scope_of, select_entries, alone}

-- ---- columns, literals and operands

abbrev pub ref_of : Result Place ProblemKind → ColRef
ref_of (Ok p) = record { entry = p.entry; column = p.column }
ref_of (Err k) = record { entry = 0; column = 0 }

abbrev pub bound_column : Scope → ColumnAst → ColRef
bound_column scope c = ref_of (meant scope c)

abbrev pub bound_value : LitAst → Value
bound_value lit.Null = value.Null
bound_value (lit.Int n) = value.Int n
bound_value (lit.Text t) = value.Text t

abbrev pub bound_operand : Scope → OperandAst → Operand
bound_operand scope (operand_ast.Column c) = operand.Col (bound_column scope c)
bound_operand scope (operand_ast.Literal l) = operand.Lit (bound_value l.value)

-- ---- conditions

abbrev pub negated_where : Bool → Pred → Pred
negated_where true p = pred.Not p
negated_where false p = p

-- x = a
abbrev pub equals : Operand → LiteralAst → Pred
equals x l = pred.Compare op.Eq x (operand.Lit (bound_value l.value))

-- this, or x equals one of the list; grouped from the left
abbrev pub or_equals : Operand → Pred → List LiteralAst → Pred
or_equals x so_far [] = so_far
or_equals x so_far (l ∷ list) = or_equals x (pred.Or so_far (equals x l)) list

-- x IN (a, b, ..) is x = a OR x = b OR ..
abbrev pub is_one_of : Operand → List LiteralAst → Pred
is_one_of x [] = pred.IsNull x
is_one_of x (l ∷ list) = or_equals x (equals x l) list

-- x BETWEEN a AND b is x >= a AND x <= b
abbrev pub is_between : Operand → Operand → Operand → Pred
is_between x low high = pred.And (pred.Compare op.Ge x low) (pred.Compare op.Le x high)

abbrev pub cond_layer : Scope → CondAst-F Pred → Pred
cond_layer scope (CondAst-F.Or a b) = pred.Or a b
cond_layer scope (CondAst-F.And a b) = pred.And a b
cond_layer scope (CondAst-F.Not a) = pred.Not a
cond_layer scope (CondAst-F.Compare o left right) = pred.Compare o (bound_operand scope left) (bound_operand scope right)
cond_layer scope (CondAst-F.IsNull left negated) = negated_where negated (pred.IsNull (bound_operand scope left))
cond_layer scope (CondAst-F.Between left low high negated) =
    negated_where negated (is_between (bound_operand scope left) (bound_operand scope low) (bound_operand scope high))
cond_layer scope (CondAst-F.Among left list negated) = negated_where negated (is_one_of (bound_operand scope left) list)

abbrev pub bound_cond : Scope → CondAst → Pred
bound_cond scope c = fold-CondAst Pred (cond_layer scope) c

abbrev pub bound_filter : Scope → Option CondAst → Option Pred
bound_filter scope filter = option_map (bound_cond scope) filter

-- ---- expressions

abbrev pub kind_layer : Scope → ExprKind-F Expr Expr → Expr
kind_layer scope (ExprKind-F.Literal l) = expr.Lit (bound_value l.value)
kind_layer scope (ExprKind-F.Column c) = expr.Col (bound_column scope c)
kind_layer scope (ExprKind-F.Add a b) = expr.Add a b
kind_layer scope (ExprKind-F.Sub a b) = expr.Sub a b
kind_layer scope (ExprKind-F.Mul a b) = expr.Mul a b

abbrev pub expr_layer : ExprAst-F Expr Expr → Expr
expr_layer e = e.kind

abbrev pub bound_expr : Scope → ExprAst → Expr
bound_expr scope e = fold-ExprAst Expr Expr (kind_layer scope) expr_layer e

-- ---- SELECT

abbrev pub bound_aggregate : AggWord → ColRef → Item
bound_aggregate agg.Count c = item.Count c
bound_aggregate agg.Sum c = item.Sum c
bound_aggregate agg.Min c = item.Min c
bound_aggregate agg.Max c = item.Max c

abbrev pub bound_item : Scope → ItemAst → Item
bound_item scope (item_ast.Plain e) = item.Plain (bound_expr scope e)
bound_item scope (item_ast.CountAll at) = item.CountAll
bound_item scope (item_ast.Aggregate word c at) = bound_aggregate word (bound_column scope c)

abbrev pub column_item : ℕ → ℕ → Item
column_item entry column = item.Plain (expr.Col (record { entry = entry; column = column }))

-- the columns of the entries from this number on, each in table order
abbrev pub all_columns : ℕ → Scope → List Item
all_columns number [] = []
all_columns number (entry ∷ scope) = map (column_item number) (range_with_len 0 (length entry.columns)) ++ all_columns (suc number) scope

abbrev pub bound_items : Scope → Items → List Item
bound_items scope (items_ast.Star at) = all_columns 0 scope
bound_items scope (items_ast.Listed all) = map (bound_item scope) all

abbrev pub bound_on : Scope → Option JoinAst → Option Pred
bound_on scope join = option_map (λ (j : JoinAst). bound_cond scope j.on) join

abbrev pub tables_of : Catalog → List EntryAst → List ℕ
tables_of catalog all = map (λ (e : EntryAst). table_of catalog e.table.name) all

abbrev pub bound_select : List ℕ → Scope → SelectAst → SelectStmt
bound_select tables scope s = record {
  tables = tables;
  on = bound_on scope s.join;
  filter = bound_filter scope s.filter;
  items = bound_items scope s.items;
  groups = map (bound_column scope) s.groups;
}

-- ---- INSERT

-- whether a name means the column at this place
abbrev pub is_at : ℕ → Option ℕ → Bool
is_at column None = false
is_at column (Some at) = at == column

-- the place, within a tuple, of the value of a column, if it is named
abbrev pub source : List ColumnDef → List NameAt → ℕ → Option ℕ
source columns names column = if is_empty names then Some column else position (λ (n : NameAt). is_at column (column_of columns n.name)) names

-- the value of a column in a tuple; NULL where it isn't named
abbrev pub value_in : List ColumnDef → List NameAt → List LiteralAst → ℕ → Value
value_in columns names values column =
    unwrap_or (option_map (λ (l : LiteralAst). bound_value l.value) (option_and_then (slice_get values) (source columns names column))) value.Null

-- a whole row, in table order
abbrev pub bound_row : List ColumnDef → List NameAt → TupleAst → List Value
bound_row columns names t = map (value_in columns names t.values) (range_with_len 0 (length columns))

abbrev pub bound_insert : ℕ → List ColumnDef → InsertAst → InsertStmt
bound_insert table columns i = record { table = table; rows = map (bound_row columns i.columns) i.tuples }

-- ---- UPDATE, DELETE

abbrev pub bound_set : Scope → List ColumnDef → SetAst → Set
bound_set scope columns s = record { column = unwrap_or (column_of columns s.column.name) 0; value = bound_expr scope s.value }

abbrev pub bound_update : ℕ → Scope → List ColumnDef → UpdateAst → UpdateStmt
bound_update table scope columns u = record { table = table; sets = map (bound_set scope columns) u.sets; filter = bound_filter scope u.filter }

abbrev pub bound_delete : ℕ → Scope → DeleteAst → DeleteStmt
bound_delete table scope d = record { table = table; filter = bound_filter scope d.filter }

-- ---- statements

abbrev pub select_of : Catalog → SelectAst → SelectStmt
select_of catalog s = bound_select (tables_of catalog (select_entries s)) (scope_of catalog (select_entries s)) s

abbrev pub insert_of : Catalog → InsertAst → InsertStmt
insert_of catalog i = bound_insert (table_of catalog i.table.name) (columns_in catalog i.table) i

abbrev pub update_of : Catalog → UpdateAst → UpdateStmt
update_of catalog u = bound_update (table_of catalog u.table.name) (scope_of catalog (alone u.table)) (columns_in catalog u.table) u

abbrev pub delete_of : Catalog → DeleteAst → DeleteStmt
delete_of catalog d = bound_delete (table_of catalog d.table.name) (scope_of catalog (alone d.table)) d

-- the bound statement
abbrev pub bound : Catalog → Ast → Stmt
bound catalog (ast.Select s) = stmt.Select (select_of catalog s)
bound catalog (ast.Insert i) = stmt.Insert (insert_of catalog i)
bound catalog (ast.Update u) = stmt.Update (update_of catalog u)
bound catalog (ast.Delete d) = stmt.Delete (delete_of catalog d)
