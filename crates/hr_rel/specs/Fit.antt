-- Whether a bound statement fits a catalog.
use Rattle.std.specs.Prelude.{ℕ, Bool, true, false, not, ◌&&◌, ◌||◌, ◌==◌, nat_lt, nat_le, if◌then◌else◌, Option, Some, None, is_some, is_none, List, [], ◌∷◌, length, map, slice_get}
use Rattle.std.specs.Option.{option_map, option_and_then}
use Rattle.std.specs.List.{list_all, list_any}
use Rattle.hr_base.specs.Lists.{is_empty}
use Rattle.hr_base.specs.declared.limits.TheConstants.{MAX_ITEMS}
use Rattle.hr_rel.specs.declared.value.Value.{Value}
use Rattle.hr_rel.specs.declared.value.Value.TheVariants as value
use Rattle.hr_rel.specs.declared.catalog.Catalog.{Catalog}
use Rattle.hr_rel.specs.declared.catalog.ColumnDef.{ColumnDef}
use Rattle.hr_rel.specs.declared.catalog.ColKind.{ColKind}
use Rattle.hr_rel.specs.declared.catalog.ColKind.TheVariants as kind
use Rattle.hr_rel.specs.declared.expr.ColRef.{ColRef}
use Rattle.hr_rel.specs.declared.expr.Operand.{Operand}
use Rattle.hr_rel.specs.declared.expr.Operand.TheVariants as operand
use Rattle.hr_rel.specs.declared.expr.Expr.{Expr, fold-Expr}
use Rattle.hr_rel.specs.declared.expr.Expr as expr
use Rattle.hr_rel.specs.declared.expr.Expr.TheOpen.{Expr-F}
use Rattle.hr_rel.specs.declared.expr.Pred.{Pred, fold-Pred}
use Rattle.hr_rel.specs.declared.expr.Pred.TheOpen.{Pred-F}
use Rattle.hr_rel.specs.declared.stmt.Item.{Item}
use Rattle.hr_rel.specs.declared.stmt.Item.TheVariants as item
use Rattle.hr_rel.specs.declared.stmt.Set.{Set}
use Rattle.hr_rel.specs.declared.stmt.Stmt.{Stmt}
use Rattle.hr_rel.specs.declared.stmt.Stmt.TheVariants as stmt
use Rattle.hr_rel.specs.declared.stmt.SelectStmt.{SelectStmt}
use Rattle.hr_rel.specs.declared.stmt.InsertStmt.{InsertStmt}
use Rattle.hr_rel.specs.declared.stmt.UpdateStmt.{UpdateStmt}
use Rattle.hr_rel.specs.declared.stmt.DeleteStmt.{DeleteStmt}
use Rattle.hr_rel.specs.Database.{columns_of}
use Rattle.hr_rel.specs.Kinds.{same_kind, fits_i64}
use Rattle.hr_rel.specs.Holds.{row_fits}

-- The columns of each table entry of a statement.
abbrev pub Entries : Type 0
Entries = List (List ColumnDef)

abbrev pub entries_of : Catalog → List ℕ → Entries
entries_of catalog tables = map (columns_of catalog) tables

-- a table with this number is in the catalog
abbrev pub has_table : Catalog → ℕ → Bool
has_table catalog t = nat_lt t (length catalog.tables)

-- ---- kinds

-- What is known of the kind of an operand or an expression: None where it doesn't fit, `Some None` where it may be of either
-- kind, as NULL.
abbrev pub Kind : Type 0
Kind = Option (Option ColKind)

-- whether two kinds don't differ; what may be of either kind agrees with each
abbrev pub agree : Option ColKind → Option ColKind → Bool
agree None b = true
agree (Some a) None = true
agree (Some a) (Some b) = same_kind a b

-- whether two parts that fit have kinds that don't differ
abbrev pub both_agree : Kind → Kind → Bool
both_agree None b = false
both_agree (Some a) None = false
both_agree (Some a) (Some b) = agree a b

-- whether a part fits, and may be a number
abbrev pub is_number : Kind → Bool
is_number k = both_agree k (Some (Some kind.Int))

-- the kind of a literal; a number has 64 bits, as each of the program has
abbrev pub literal_kind : Value → Kind
literal_kind value.Null = Some None
literal_kind (value.Int n) = if fits_i64 n then Some (Some kind.Int) else None
literal_kind (value.Text t) = Some (Some kind.Text)

abbrev pub column_at : Entries → ColRef → Option ColumnDef
column_at entries c = option_and_then (λ (columns : List ColumnDef). slice_get columns c.column) (slice_get entries c.entry)

abbrev pub column_kind : Entries → ColRef → Kind
column_kind entries c = option_map (λ (d : ColumnDef). Some d.kind) (column_at entries c)

-- whether there is such a column
abbrev pub has_column : Entries → ColRef → Bool
has_column entries c = is_some (column_kind entries c)

abbrev pub operand_kind : Entries → Operand → Kind
operand_kind entries (operand.Lit v) = literal_kind v
operand_kind entries (operand.Col c) = column_kind entries c

-- a sum, a difference or a product is a number, and so are its operands
abbrev pub number_kind : Kind → Kind → Kind
number_kind a b = if is_number a && is_number b then Some (Some kind.Int) else None

abbrev pub kind_layer : Entries → Expr-F Kind → Kind
kind_layer entries (Expr-F.Lit v) = literal_kind v
kind_layer entries (Expr-F.Col c) = column_kind entries c
kind_layer entries (Expr-F.Add a b) = number_kind a b
kind_layer entries (Expr-F.Sub a b) = number_kind a b
kind_layer entries (Expr-F.Mul a b) = number_kind a b

abbrev pub expr_kind : Entries → Expr → Kind
expr_kind entries e = fold-Expr Kind (kind_layer entries) e

-- ---- conditions

abbrev pub fits_layer : Entries → Pred-F Bool → Bool
fits_layer entries (Pred-F.Compare o a b) = both_agree (operand_kind entries a) (operand_kind entries b)
fits_layer entries (Pred-F.IsNull a) = is_some (operand_kind entries a)
fits_layer entries (Pred-F.And a b) = a && b
fits_layer entries (Pred-F.Or a b) = a && b
fits_layer entries (Pred-F.Not a) = a

abbrev pub pred_fits : Entries → Pred → Bool
pred_fits entries p = fold-Pred Bool (fits_layer entries) p

abbrev pub filter_fits : Entries → Option Pred → Bool
filter_fits entries None = true
filter_fits entries (Some p) = pred_fits entries p

-- ---- SELECT

abbrev pub is_plain : Item → Bool
is_plain (item.Plain e) = true
is_plain _ = false

-- a SELECT groups where it has GROUP BY or an aggregate
abbrev pub is_grouped : SelectStmt → Bool
is_grouped s = not (is_empty s.groups) || list_any (λ (i : Item). not (is_plain i)) s.items

abbrev pub same_column : ColRef → ColRef → Bool
same_column a b = (a.entry == b.entry) && (a.column == b.column)

-- the column that an expression is
abbrev pub column_in : expr.Expr → Option ColRef
column_in (expr.Col c) = Some c
column_in _ = None

-- whether this is one of the columns of GROUP BY
abbrev pub is_group : List ColRef → Option ColRef → Bool
is_group groups None = false
is_group groups (Some c) = list_any (λ (g : ColRef). same_column c g) groups

-- where a SELECT groups, a plain item is one of the columns of GROUP BY
abbrev pub item_fits : Entries → SelectStmt → Item → Bool
item_fits entries s (item.Plain e) = is_some (expr_kind entries e) && (not (is_grouped s) || is_group s.groups (column_in e))
item_fits entries s item.CountAll = true
item_fits entries s (item.Count c) = has_column entries c
item_fits entries s (item.Sum c) = is_number (column_kind entries c)
item_fits entries s (item.Min c) = has_column entries c
item_fits entries s (item.Max c) = has_column entries c

-- one table entry and no ON, or two and an ON
abbrev pub is_joined : List ℕ → Option Pred → Bool
is_joined (t ∷ []) on = is_none on
is_joined (t ∷ u ∷ []) on = is_some on
is_joined _ on = false

-- at least one item, and no more than an answer may have columns
abbrev pub items_fit : Entries → SelectStmt → Bool
items_fit entries s = not (is_empty s.items) && nat_le (length s.items) MAX_ITEMS && list_all (item_fits entries s) s.items

abbrev pub select_fits : Catalog → SelectStmt → Bool
select_fits catalog s =
    let entries = entries_of catalog s.tables in
    is_joined s.tables s.on && list_all (has_table catalog) s.tables && filter_fits entries s.on && filter_fits entries s.filter
    && list_all (has_column entries) s.groups && items_fit entries s

-- ---- INSERT, UPDATE, DELETE

abbrev pub insert_fits : Catalog → InsertStmt → Bool
insert_fits catalog s = has_table catalog s.table && not (is_empty s.rows) && list_all (row_fits (columns_of catalog s.table)) s.rows

-- the column is one of the table's and not the key, and the new value is of its kind
abbrev pub set_fits : Entries → Set → Bool
set_fits entries s = nat_lt 0 s.column && both_agree (column_kind entries record { entry = 0; column = s.column }) (expr_kind entries s.value)

-- no two assignments are to one column
abbrev pub assign_apart : List Set → Bool
assign_apart [] = true
assign_apart (s ∷ sets) = not (list_any (λ (t : Set). t.column == s.column) sets) && assign_apart sets

-- at least one assignment, and no two to one column
abbrev pub update_fits : Catalog → UpdateStmt → Bool
update_fits catalog s =
    let entries = entries_of catalog (s.table ∷ []) in
    has_table catalog s.table && not (is_empty s.sets) && list_all (set_fits entries) s.sets
    && assign_apart s.sets && filter_fits entries s.filter

abbrev pub delete_fits : Catalog → DeleteStmt → Bool
delete_fits catalog s = has_table catalog s.table && filter_fits (entries_of catalog (s.table ∷ [])) s.filter

-- whether a statement fits the catalog
abbrev pub fits : Catalog → Stmt → Bool
fits catalog (stmt.Select s) = select_fits catalog s
fits catalog (stmt.Insert s) = insert_fits catalog s
fits catalog (stmt.Update s) = update_fits catalog s
fits catalog (stmt.Delete s) = delete_fits catalog s
