-- By which path the rows of a statement's first table entry are found.
use Rattle.std.specs.Prelude.{ℕ, suc, ℤ, Bool, true, false, not, ◌&&◌, ◌==◌, if◌then◌else◌, nat_le, Option, Some, None, List, [], ◌∷◌, length, replicate, map}
use Rattle.std.specs.List.{list_all}
use Rattle.std.specs.Ordering.{int_eq, is_eq, is_le}
use Rattle.hr_base.specs.Bytes.{is_printable}
use Rattle.hr_base.specs.declared.limits.TheConstants.{MAX_TEXT_BYTES}
use Rattle.hr_rel.specs.declared.value.Value.{Value}
use Rattle.hr_rel.specs.declared.value.Value.TheVariants as value
use Rattle.hr_rel.specs.declared.catalog.Catalog.{Catalog}
use Rattle.hr_rel.specs.declared.catalog.ColumnDef.{ColumnDef}
use Rattle.hr_rel.specs.declared.catalog.ColKind.{ColKind}
use Rattle.hr_rel.specs.declared.catalog.ColKind.TheVariants as kind
use Rattle.hr_rel.specs.declared.expr.ColRef.{ColRef}
use Rattle.hr_rel.specs.declared.expr.Op.{Op}
use Rattle.hr_rel.specs.declared.expr.Op.TheVariants as op
use Rattle.hr_rel.specs.declared.expr.Operand.{Operand}
use Rattle.hr_rel.specs.declared.expr.Operand.TheVariants as operand
use Rattle.hr_rel.specs.declared.expr.Pred.{Pred, fold-Pred}
use Rattle.hr_rel.specs.declared.expr.Pred.TheOpen.{Pred-F}
use Rattle.hr_rel.specs.declared.stmt.Stmt.{Stmt}
use Rattle.hr_rel.specs.declared.stmt.Stmt.TheVariants as stmt
use Rattle.hr_rel.specs.Database.{columns_of, key_of, value_at}
use Rattle.hr_rel.specs.Kinds.{is_null}
use Rattle.hr_rel.specs.Holds.{has_number_key, row_fits}
use Rattle.hr_meaning.specs.Order.{value_cmp}
use Rattle.hr_meaning.specs.Select.{lesser, greater}
use Rattle.hr_parts.specs.declared.keys.Keys.{Keys}
use Rattle.hr_parts.specs.Parts.{takes}
use Rattle.hr_parts.specs.Footprints.{least_key, greatest_key}
use Rattle.hr_parts.specs.Keys.{has_in, common, mirrored, kept_keys, select_keys, new_keys}
use Rattle.hr_plan.specs.declared.bounds.Bounds.{Bounds}
use Rattle.hr_plan.specs.declared.path.Path.{Path}
use Rattle.hr_plan.specs.declared.path.Path.TheVariants as path

-- ---- bounds of a column's values, both in them; None where there are no values

abbrev pub is_within : Option Bounds → Value → Bool
is_within None v = false
is_within (Some b) v = is_le (value_cmp b.low v) && is_le (value_cmp v b.high)

-- the greatest value that a column of this kind may have
abbrev pub greatest_value : ColKind → Value
greatest_value kind.Int = value.Int greatest_key
greatest_value kind.Text = value.Text (replicate MAX_TEXT_BYTES 126)

abbrev pub all_values : ColKind → Option Bounds
all_values k = Some record { low = value.Null; high = greatest_value k }

abbrev pub values_from_to : Value → Value → Option Bounds
values_from_to low high = if is_le (value_cmp low high) then Some record { low = low; high = high } else None

-- the values in both
abbrev pub common_values : Option Bounds → Option Bounds → Option Bounds
common_values None b = None
common_values (Some a) None = None
common_values (Some a) (Some b) = values_from_to (greater a.low b.low) (lesser a.high b.high)

-- the least bounds that hold both
abbrev pub spanning_values : Option Bounds → Option Bounds → Option Bounds
spanning_values None b = b
spanning_values (Some a) None = Some a
spanning_values (Some a) (Some b) = Some record { low = lesser a.low b.low; high = greater a.high b.high }

-- The values that stand so to another one. A strict comparison keeps that one for its bound: the condition is tested on every
-- row that is found.
abbrev pub values_to : ColKind → Op → Value → Option Bounds
values_to k op.Eq v = Some record { low = v; high = v }
values_to k op.Ne v = all_values k
values_to k op.Lt v = Some record { low = value.Null; high = v }
values_to k op.Le v = Some record { low = value.Null; high = v }
values_to k op.Gt v = Some record { low = v; high = greatest_value k }
values_to k op.Ge v = Some record { low = v; high = greatest_value k }

-- with NULL none
abbrev pub values_by : ColKind → Op → Value → Option Bounds
values_by k o v = if is_null v then None else values_to k o v

-- a column of the first table entry, of this kind and with this place
module _ (k : ColKind) (column : ℕ) where
  abbrev pub is_the_column : ColRef → Bool
  is_the_column c = (c.entry == 0) && (c.column == column)

  abbrev pub compared_values : Op → Operand → Operand → Option Bounds
  compared_values o (operand.Col c) (operand.Lit v) = if is_the_column c then values_by k o v else all_values k
  compared_values o (operand.Lit v) (operand.Col c) = if is_the_column c then values_by k (mirrored o) v else all_values k
  compared_values o (operand.Col c) (operand.Col d) = all_values k
  compared_values o (operand.Lit v) (operand.Lit w) = all_values k

  abbrev pub values_layer : Pred-F (Option Bounds) → Option Bounds
  values_layer (Pred-F.Compare o a b) = compared_values o a b
  values_layer (Pred-F.IsNull a) = all_values k
  values_layer (Pred-F.And a b) = common_values a b
  values_layer (Pred-F.Or a b) = spanning_values a b
  values_layer (Pred-F.Not a) = all_values k

  -- the bounds outside which a condition isn't true
  abbrev pub values_in : Pred → Option Bounds
  values_in p = fold-Pred (Option Bounds) values_layer p

  abbrev pub kept_values : Option Pred → Option Bounds
  kept_values None = all_values k
  kept_values (Some p) = values_in p

  -- of two conditions, as by AND
  abbrev pub both_values : Option Pred → Option Pred → Option Bounds
  both_values on filter = common_values (kept_values on) (kept_values filter)

-- ---- paths

abbrev pub are_all_values : ColKind → Option Bounds → Bool
are_all_values k None = false
are_all_values k (Some b) = is_eq (value_cmp b.low value.Null) && is_eq (value_cmp b.high (greatest_value k))

abbrev pub are_all_keys : Keys → Bool
are_all_keys keys = int_eq keys.low least_key && int_eq keys.high greatest_key

-- the rows whose values in a column lie in these bounds
abbrev pub by_values : ℕ → Option Bounds → Path
by_values column None = path.Nothing
by_values column (Some b) = path.Index column b.low b.high

-- By the first of these columns, of which the first has this place, that has an index and whose bounds aren't all values; where
-- there is none, by all keys.
abbrev pub index_path : Option Pred → Option Pred → ℕ → List ColumnDef → Path
index_path on filter column [] = path.Keys least_key greatest_key
index_path on filter column (d ∷ columns) =
    let bounds = both_values d.kind column on filter in
    if d.indexed && not (are_all_values d.kind bounds) then by_values column bounds else index_path on filter (suc column) columns

abbrev pub by_keys : Option Keys → Path
by_keys None = path.Nothing
by_keys (Some keys) = path.Keys keys.low keys.high

-- by keys, where their interval isn't all; else by an index, if one helps
abbrev pub condition_path : Option Keys → Option Pred → Option Pred → List ColumnDef → Path
condition_path None on filter columns = path.Nothing
condition_path (Some keys) on filter columns = if are_all_keys keys then index_path on filter 0 columns else path.Keys keys.low keys.high

-- the columns of the first table entry
abbrev pub first_columns : Catalog → List ℕ → List ColumnDef
first_columns catalog [] = []
first_columns catalog (t ∷ ts) = columns_of catalog t

abbrev pub path_of : Catalog → Stmt → Path
path_of catalog (stmt.Select s) = condition_path (select_keys 0 s) s.on s.filter (first_columns catalog s.tables)
path_of catalog (stmt.Insert s) = by_keys (new_keys s.rows)
path_of catalog (stmt.Update s) = condition_path (kept_keys 0 s.filter) None s.filter (columns_of catalog s.table)
path_of catalog (stmt.Delete s) = condition_path (kept_keys 0 s.filter) None s.filter (columns_of catalog s.table)

-- ---- what a path finds

abbrev pub finds : Path → List Value → Bool
finds (path.Keys low high) row = takes (has_in (Some record { low = low; high = high })) (key_of row)
finds (path.Index column low high) row = is_within (Some record { low = low; high = high }) (value_at column row)
finds path.Nothing row = false

-- a text of the program: at most 64 printable bytes
abbrev pub is_short : Value → Bool
is_short (value.Text t) = nat_le (length t) MAX_TEXT_BYTES && list_all is_printable t
is_short _ = true

-- a row that a table with these columns may have in the program
abbrev pub is_stored : List ColumnDef → List Value → Bool
is_stored columns row = row_fits columns row && has_number_key row && list_all is_short row
