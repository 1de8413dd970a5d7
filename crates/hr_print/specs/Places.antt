-- A tree without its places: each of them is 0.
use Rattle.std.specs.Prelude.{map}
use Rattle.std.specs.Option.{option_map}
use Rattle.hr_parse.specs.declared.ast.Ast.{Ast}
use Rattle.hr_parse.specs.declared.ast.SelectAst.{SelectAst}
use Rattle.hr_parse.specs.declared.ast.InsertAst.{InsertAst}
use Rattle.hr_parse.specs.declared.ast.UpdateAst.{UpdateAst}
use Rattle.hr_parse.specs.declared.ast.DeleteAst.{DeleteAst}
use Rattle.hr_parse.specs.declared.ast.EntryAst.{EntryAst}
use Rattle.hr_parse.specs.declared.ast.JoinAst.{JoinAst}
use Rattle.hr_parse.specs.declared.ast.TupleAst.{TupleAst}
use Rattle.hr_parse.specs.declared.ast.SetAst.{SetAst}
use Rattle.hr_parse.specs.declared.ast.ItemAst.{ItemAst}
use Rattle.hr_parse.specs.declared.ast.Items.{Items}
use Rattle.hr_parse.specs.declared.ast.OperandAst.{OperandAst}
use Rattle.hr_parse.specs.declared.ast.LiteralAst.{LiteralAst}
use Rattle.hr_parse.specs.declared.ast.NameAt.{NameAt}
use Rattle.hr_parse.specs.declared.ast.ColumnAst.{ColumnAst}
use Rattle.hr_parse.specs.declared.ast.Ast.TheVariants as ast
use Rattle.hr_parse.specs.declared.ast.ItemAst.TheVariants as item
use Rattle.hr_parse.specs.declared.ast.Items.TheVariants as items
use Rattle.hr_parse.specs.declared.ast.OperandAst.TheVariants as operand
use Rattle.hr_parse.specs.declared.ast.CondAst.{CondAst, fold-CondAst}
use Rattle.hr_parse.specs.declared.ast.CondAst.TheVariants as cond
use Rattle.hr_parse.specs.declared.ast.CondAst.TheOpen.{CondAst-F}
use Rattle.hr_parse.specs.declared.ast.ExprAst.{ExprAst, fold-ExprAst}
use Rattle.hr_parse.specs.declared.ast.ExprKind.{ExprKind}
use Rattle.hr_parse.specs.declared.ast.ExprKind.TheVariants as kind
use Rattle.hr_parse.specs.declared.ast.ExprKind.TheOpen.{ExprKind-F, ExprAst-F}
use Rattle.hr_parse.specs.Trees.{expr}

abbrev pub bare_name : NameAt → NameAt
bare_name a = record { name = a.name; at = 0 }

abbrev pub bare_column : ColumnAst → ColumnAst
bare_column c = record { first = bare_name c.first; second = option_map bare_name c.second }

abbrev pub bare_literal : LiteralAst → LiteralAst
bare_literal l = record { value = l.value; at = 0 }

abbrev pub bare_operand : OperandAst → OperandAst
bare_operand (operand.Column c) = operand.Column (bare_column c)
bare_operand (operand.Literal l) = operand.Literal (bare_literal l)

abbrev pub bare_test : CondAst-F CondAst → CondAst
bare_test (CondAst-F.Or a b) = cond.Or a b
bare_test (CondAst-F.And a b) = cond.And a b
bare_test (CondAst-F.Not a) = cond.Not a
bare_test (CondAst-F.Compare o a b) = cond.Compare o (bare_operand a) (bare_operand b)
bare_test (CondAst-F.IsNull a negated) = cond.IsNull (bare_operand a) negated
bare_test (CondAst-F.Between a low high negated) = cond.Between (bare_operand a) (bare_operand low) (bare_operand high) negated
bare_test (CondAst-F.Among a list negated) = cond.Among (bare_operand a) (map bare_literal list) negated

abbrev pub bare_cond : CondAst → CondAst
bare_cond = fold-CondAst CondAst bare_test

abbrev pub bare_kind : ExprKind-F ExprKind ExprAst → ExprKind
bare_kind (ExprKind-F.Literal l) = kind.Literal (bare_literal l)
bare_kind (ExprKind-F.Column c) = kind.Column (bare_column c)
bare_kind (ExprKind-F.Add a b) = kind.Add a b
bare_kind (ExprKind-F.Sub a b) = kind.Sub a b
bare_kind (ExprKind-F.Mul a b) = kind.Mul a b

abbrev pub bare_node : ExprAst-F ExprKind ExprAst → ExprAst
bare_node e = expr e.kind 0

abbrev pub bare_expr : ExprAst → ExprAst
bare_expr = fold-ExprAst ExprKind ExprAst bare_kind bare_node

abbrev pub bare_item : ItemAst → ItemAst
bare_item (item.Plain e) = item.Plain (bare_expr e)
bare_item (item.CountAll at) = item.CountAll 0
bare_item (item.Aggregate word c at) = item.Aggregate word (bare_column c) 0

abbrev pub bare_items : Items → Items
bare_items (items.Star at) = items.Star 0
bare_items (items.Listed all) = items.Listed (map bare_item all)

abbrev pub bare_entry : EntryAst → EntryAst
bare_entry e = record { table = bare_name e.table; alias = option_map bare_name e.alias }

abbrev pub bare_join : JoinAst → JoinAst
bare_join j = record { entry = bare_entry j.entry; on = bare_cond j.on }

abbrev pub bare_select : SelectAst → SelectAst
bare_select s = record {
  items = bare_items s.items;
  first = bare_entry s.first;
  join = option_map bare_join s.join;
  filter = option_map bare_cond s.filter;
  groups = map bare_column s.groups;
}

abbrev pub bare_tuple : TupleAst → TupleAst
bare_tuple t = record { values = map bare_literal t.values; at = 0 }

abbrev pub bare_insert : InsertAst → InsertAst
bare_insert i = record { table = bare_name i.table; columns = map bare_name i.columns; tuples = map bare_tuple i.tuples }

abbrev pub bare_set : SetAst → SetAst
bare_set s = record { column = bare_name s.column; value = bare_expr s.value }

abbrev pub bare_update : UpdateAst → UpdateAst
bare_update u = record { table = bare_name u.table; sets = map bare_set u.sets; filter = option_map bare_cond u.filter }

abbrev pub bare_delete : DeleteAst → DeleteAst
bare_delete d = record { table = bare_name d.table; filter = option_map bare_cond d.filter }

abbrev pub bare : Ast → Ast
bare (ast.Select s) = ast.Select (bare_select s)
bare (ast.Insert i) = ast.Insert (bare_insert i)
bare (ast.Update u) = ast.Update (bare_update u)
bare (ast.Delete d) = ast.Delete (bare_delete d)
