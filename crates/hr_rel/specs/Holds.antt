-- Whether rows fit a catalog, and which databases are in order.
use Rattle.std.specs.Prelude.{◌≡◌, ℤ, int_lt, Bool, true, false, not, ◌&&◌, ◌==◌, nat_le, Option, Some, None, List, [], ◌∷◌, length, drop}
use Rattle.std.specs.List.{list_all, list_any, zip}
use Rattle.hr_base.specs.declared.limits.TheConstants.{MAX_COLUMNS}
use Rattle.hr_rel.specs.declared.value.Value.{Value}
use Rattle.hr_rel.specs.declared.catalog.Catalog.{Catalog}
use Rattle.hr_rel.specs.declared.catalog.TableDef.{TableDef}
use Rattle.hr_rel.specs.declared.catalog.ColumnDef.{ColumnDef}
use Rattle.hr_rel.specs.declared.catalog.ColKind.TheVariants as kind
use Rattle.hr_rel.specs.Database.{Database, key_of}
use Rattle.hr_rel.specs.Kinds.{fits_i64, same_kind, is_of_kind, refuses}

-- ---- rows that fit a catalog

-- a row has a value of its kind for each column
abbrev pub row_fits : List ColumnDef → List Value → Bool
row_fits columns row = (length row == length columns) && list_all (λ (p : ColumnDef × Value). is_of_kind p.0.kind p.1) (zip columns row)

-- the same, with NULL in nullable columns alone
abbrev pub row_holds : List ColumnDef → List Value → Bool
row_holds columns row = row_fits columns row && not (list_any refuses (zip columns row))

-- whether a row has a key, a number of 64 bits
abbrev pub is_key : Option ℤ → Bool
is_key None = false
is_key (Some n) = fits_i64 n

abbrev pub has_number_key : List Value → Bool
has_number_key row = is_key (key_of row)

-- whether the second key is the greater number
abbrev pub is_below : Option ℤ → Option ℤ → Bool
is_below (Some m) (Some n) = int_lt m n
is_below (Some m) None = false
is_below None n = false

-- whether the second row of two has the greater key
abbrev pub ascends : List Value × List Value → Bool
ascends p = is_below (key_of p.0) (key_of p.1)

-- each row has a key, which is greater than that of the row before
abbrev pub is_ordered : List (List Value) → Bool
is_ordered rows = list_all has_number_key rows && list_all ascends (zip rows (drop 1 rows))

-- the rows of a table, in ascending order of their keys, of which no two are the same
abbrev pub table_holds : List ColumnDef → List (List Value) → Bool
table_holds columns rows = list_all (row_holds columns) rows && is_ordered rows

-- whether rows fit a catalog: one list of rows for each table
abbrev pub holds : Catalog → List (List (List Value)) → Bool
holds catalog tables = (length tables == length catalog.tables)
    && list_all (λ (p : TableDef × List (List Value)). table_holds p.0.columns p.1) (zip catalog.tables tables)

-- ---- databases in order

-- the first column is the key: numbers, and none of them NULL
abbrev pub has_key_column : List ColumnDef → Bool
has_key_column [] = false
has_key_column (d ∷ columns) = same_kind d.kind kind.Int && not d.nullable

-- Each table of a sound catalog has its key, and no more columns than a table may have.
pub record IsSound (catalog : Catalog) : Type 0 where
  pub keys : list_all (λ (t : TableDef). has_key_column t.columns) catalog.tables ≡ true
  pub columns : list_all (λ (t : TableDef). nat_le (length t.columns) MAX_COLUMNS) catalog.tables ≡ true

-- A database in order: a sound catalog, and one list of rows for each table, in the order of keys.
pub record IsOrdered (db : Database) : Type 0 where
  pub sound : IsSound db.catalog
  pub tables : length db.tables ≡ length db.catalog.tables
  pub ordered : list_all is_ordered db.tables ≡ true
