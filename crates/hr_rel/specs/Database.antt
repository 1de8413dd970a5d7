-- What a database is.
use Rattle.std.specs.Prelude.{ℕ, ℤ, Option, Some, None, unwrap_or, List, [], ◌∷◌, map, slice_get, slice_set}
use Rattle.std.specs.Option.{option_map}
use Rattle.hr_rel.specs.declared.value.Value.{Value}
use Rattle.hr_rel.specs.declared.value.Value.TheVariants.{Null, Int}
use Rattle.hr_rel.specs.declared.catalog.Catalog.{Catalog}
use Rattle.hr_rel.specs.declared.catalog.TableDef.{TableDef}
use Rattle.hr_rel.specs.declared.catalog.ColumnDef.{ColumnDef}

-- A catalog, which no statement changes, and for each of its tables the rows, in ascending order of their keys.
pub record Database : Type 0 where
  pub catalog : Catalog
  pub tables : List (List (List Value))

-- the database in which no table has a row
abbrev pub empty_database : Catalog → Database
empty_database catalog = record { catalog = catalog; tables = map (λ (t : TableDef). []) catalog.tables }

-- the columns of the table with this number
abbrev pub columns_of : Catalog → ℕ → List ColumnDef
columns_of catalog t = unwrap_or (option_map (λ (d : TableDef). d.columns) (slice_get catalog.tables t)) []

-- the rows of the table with this number
abbrev pub rows_of : Database → ℕ → List (List Value)
rows_of db t = unwrap_or (slice_get db.tables t) []

-- the database with these rows in that table
abbrev pub with_rows : Database → ℕ → List (List Value) → Database
with_rows db t rows = record { catalog = db.catalog; tables = slice_set db.tables t rows }

-- the key of a row, its first value, where that is a number
abbrev pub key_of : List Value → Option ℤ
key_of (Int n ∷ row) = Some n
key_of _ = None

-- the value at this place of a row
abbrev pub value_at : ℕ → List Value → Value
value_at c row = unwrap_or (slice_get row c) Null
