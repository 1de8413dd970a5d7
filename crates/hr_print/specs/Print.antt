-- The one text of a tree. Places play no part in it.
use Rattle.std.specs.Prelude.{ℕ, Bool, true, false, nat_lt, List, [], ◌∷◌, ◌++◌, map, Option, Some, None, codes}
use Rattle.std.specs.Fmt.{signed_decimal}
use Rattle.hr_base.specs.Texts.{doubled}
use Rattle.hr_rel.specs.declared.expr.Op.{Op}
use Rattle.hr_rel.specs.declared.expr.Op.TheVariants as op
use Rattle.hr_print.specs.declared.parts.Level.{Level}
use Rattle.hr_print.specs.declared.parts.Level.TheVariants as level
use Rattle.hr_parse.specs.declared.ast.Ast.{Ast}
use Rattle.hr_parse.specs.declared.ast.SelectAst.{SelectAst}
use Rattle.hr_parse.specs.declared.ast.InsertAst.{InsertAst}
use Rattle.hr_parse.specs.declared.ast.UpdateAst.{UpdateAst}
use Rattle.hr_parse.specs.declared.ast.DeleteAst.{DeleteAst}
use Rattle.hr_parse.specs.declared.ast.EntryAst.{EntryAst}
use Rattle.hr_parse.specs.declared.ast.JoinAst.{JoinAst}
use Rattle.hr_parse.specs.declared.ast.TupleAst.{TupleAst}
use Rattle.hr_parse.specs.declared.ast.SetAst.{SetAst}
use Rattle.hr_parse.specs.declared.ast.AggWord.{AggWord}
use Rattle.hr_parse.specs.declared.ast.ItemAst.{ItemAst}
use Rattle.hr_parse.specs.declared.ast.Items.{Items}
use Rattle.hr_parse.specs.declared.ast.OperandAst.{OperandAst}
use Rattle.hr_parse.specs.declared.ast.LitAst.{LitAst}
use Rattle.hr_parse.specs.declared.ast.LiteralAst.{LiteralAst}
use Rattle.hr_parse.specs.declared.ast.NameAt.{NameAt}
use Rattle.hr_parse.specs.declared.ast.ColumnAst.{ColumnAst}
use Rattle.hr_parse.specs.declared.ast.Ast.TheVariants as ast
use Rattle.hr_parse.specs.declared.ast.AggWord.TheVariants as agg
use Rattle.hr_parse.specs.declared.ast.ItemAst.TheVariants as item
use Rattle.hr_parse.specs.declared.ast.Items.TheVariants as items
use Rattle.hr_parse.specs.declared.ast.OperandAst.TheVariants as operand
use Rattle.hr_parse.specs.declared.ast.LitAst.TheVariants as lit
use Rattle.hr_parse.specs.declared.ast.CondAst.{CondAst, fold-CondAst}
use Rattle.hr_parse.specs.declared.ast.CondAst.TheOpen.{CondAst-F}
use Rattle.hr_parse.specs.declared.ast.ExprAst.{ExprAst, fold-ExprAst}
use Rattle.hr_parse.specs.declared.ast.ExprKind.TheOpen.{ExprKind-F, ExprAst-F}

-- each behind a comma and a blank
abbrev pub more : List (List ℕ) → List ℕ
more [] = []
more (x ∷ xs) = codes ", " ++ x ++ more xs

-- with a comma and a blank between
abbrev pub joined : List (List ℕ) → List ℕ
joined [] = []
joined (x ∷ xs) = x ++ more xs

abbrev pub opening : Bool → List ℕ
opening true = codes "("
opening false = []

abbrev pub closing : Bool → List ℕ
closing true = codes ")"
closing false = []

-- within parentheses, where the test says so
abbrev pub enclosed : Bool → List ℕ → List ℕ
enclosed test text = opening test ++ text ++ closing test

-- ---- columns and literals

abbrev pub dotted : Option NameAt → List ℕ
dotted None = []
dotted (Some a) = codes "." ++ a.name

abbrev pub column_text : ColumnAst → List ℕ
column_text c = c.first.name ++ dotted c.second

abbrev pub value_text : LitAst → List ℕ
value_text lit.Null = codes "NULL"
value_text (lit.Int n) = signed_decimal n
value_text (lit.Text t) = codes "'" ++ doubled t ++ codes "'"

abbrev pub literal_text : LiteralAst → List ℕ
literal_text l = value_text l.value

abbrev pub operand_text : OperandAst → List ℕ
operand_text (operand.Column c) = column_text c
operand_text (operand.Literal l) = literal_text l

abbrev pub op_text : Op → List ℕ
op_text op.Eq = codes " = "
op_text op.Ne = codes " <> "
op_text op.Lt = codes " < "
op_text op.Le = codes " <= "
op_text op.Gt = codes " > "
op_text op.Ge = codes " >= "

-- ---- conditions: parentheses stand where a part binds less tightly than its place asks, 0 for OR, 1 for AND, 2 for NOT

abbrev pub rank : Level → ℕ
rank level.Loose = 0
rank level.Tight = 1
rank level.Part = 2

abbrev pub is_text : Bool → List ℕ
is_text true = codes " IS NOT NULL"
is_text false = codes " IS NULL"

abbrev pub between_text : Bool → List ℕ
between_text true = codes " NOT BETWEEN "
between_text false = codes " BETWEEN "

abbrev pub in_text : Bool → List ℕ
in_text true = codes " NOT IN ("
in_text false = codes " IN ("

abbrev pub cond_layer : CondAst-F (ℕ → List ℕ) → ℕ → List ℕ
cond_layer (CondAst-F.Or a b) least = enclosed (nat_lt 0 least) (a 0 ++ codes " OR " ++ b 1)
cond_layer (CondAst-F.And a b) least = enclosed (nat_lt 1 least) (a 1 ++ codes " AND " ++ b 2)
cond_layer (CondAst-F.Not a) least = codes "NOT " ++ a 2
cond_layer (CondAst-F.Compare o a b) least = operand_text a ++ op_text o ++ operand_text b
cond_layer (CondAst-F.IsNull a negated) least = operand_text a ++ is_text negated
cond_layer (CondAst-F.Between a low high negated) least = operand_text a ++ between_text negated ++ operand_text low ++ codes " AND " ++ operand_text high
cond_layer (CondAst-F.Among a list negated) least = operand_text a ++ in_text negated ++ joined (map literal_text list) ++ codes ")"

abbrev pub cond_text : CondAst → ℕ → List ℕ
cond_text = fold-CondAst (ℕ → List ℕ) cond_layer

-- ---- expressions: the same, with 0 for + and -, 1 for *, 2 for an operand

abbrev pub kind_layer : ExprKind-F (ℕ → List ℕ) (ℕ → List ℕ) → ℕ → List ℕ
kind_layer (ExprKind-F.Literal l) least = literal_text l
kind_layer (ExprKind-F.Column c) least = column_text c
kind_layer (ExprKind-F.Add a b) least = enclosed (nat_lt 0 least) (a 0 ++ codes " + " ++ b 1)
kind_layer (ExprKind-F.Sub a b) least = enclosed (nat_lt 0 least) (a 0 ++ codes " - " ++ b 1)
kind_layer (ExprKind-F.Mul a b) least = enclosed (nat_lt 1 least) (a 1 ++ codes " * " ++ b 2)

abbrev pub expr_layer : ExprAst-F (ℕ → List ℕ) (ℕ → List ℕ) → ℕ → List ℕ
expr_layer e = e.kind

abbrev pub expr_text : ExprAst → ℕ → List ℕ
expr_text = fold-ExprAst (ℕ → List ℕ) (ℕ → List ℕ) kind_layer expr_layer

-- ---- SELECT

abbrev pub word_text : AggWord → List ℕ
word_text agg.Count = codes "COUNT("
word_text agg.Sum = codes "SUM("
word_text agg.Min = codes "MIN("
word_text agg.Max = codes "MAX("

abbrev pub item_text : ItemAst → List ℕ
item_text (item.Plain e) = expr_text e 0
item_text (item.CountAll at) = codes "COUNT(*)"
item_text (item.Aggregate word c at) = word_text word ++ column_text c ++ codes ")"

abbrev pub items_text : Items → List ℕ
items_text (items.Star at) = codes "*"
items_text (items.Listed all) = joined (map item_text all)

abbrev pub alias_text : Option NameAt → List ℕ
alias_text None = []
alias_text (Some a) = codes " AS " ++ a.name

abbrev pub entry_text : EntryAst → List ℕ
entry_text e = e.table.name ++ alias_text e.alias

abbrev pub join_text : Option JoinAst → List ℕ
join_text None = []
join_text (Some j) = codes " JOIN " ++ entry_text j.entry ++ codes " ON " ++ cond_text j.on 0

abbrev pub filter_text : Option CondAst → List ℕ
filter_text None = []
filter_text (Some c) = codes " WHERE " ++ cond_text c 0

abbrev pub groups_text : List ColumnAst → List ℕ
groups_text [] = []
groups_text (c ∷ all) = codes " GROUP BY " ++ joined (map column_text (c ∷ all))

abbrev pub select_text : SelectAst → List ℕ
select_text s = codes "SELECT " ++ items_text s.items ++ codes " FROM " ++ entry_text s.first ++ join_text s.join ++ filter_text s.filter ++ groups_text s.groups

-- ---- INSERT, UPDATE and DELETE

abbrev pub tuple_text : TupleAst → List ℕ
tuple_text t = codes "(" ++ joined (map literal_text t.values) ++ codes ")"

abbrev pub name_text : NameAt → List ℕ
name_text a = a.name

abbrev pub columns_text : List NameAt → List ℕ
columns_text [] = []
columns_text (c ∷ all) = codes " (" ++ joined (map name_text (c ∷ all)) ++ codes ")"

abbrev pub insert_text : InsertAst → List ℕ
insert_text i = codes "INSERT INTO " ++ i.table.name ++ columns_text i.columns ++ codes " VALUES " ++ joined (map tuple_text i.tuples)

abbrev pub set_text : SetAst → List ℕ
set_text s = s.column.name ++ codes " = " ++ expr_text s.value 0

abbrev pub update_text : UpdateAst → List ℕ
update_text u = codes "UPDATE " ++ u.table.name ++ codes " SET " ++ joined (map set_text u.sets) ++ filter_text u.filter

abbrev pub delete_text : DeleteAst → List ℕ
delete_text d = codes "DELETE FROM " ++ d.table.name ++ filter_text d.filter

abbrev pub text : Ast → List ℕ
text (ast.Select s) = select_text s
text (ast.Insert i) = insert_text i
text (ast.Update u) = update_text u
text (ast.Delete d) = delete_text d
