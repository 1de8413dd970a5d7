-- The lines of tables and indexes.
use Rattle.std.specs.Prelude.{ℕ, Bool, true, false, not, ◌||◌, ◌==◌, nat_le, nat_lt, List, [], ◌∷◌, ◌++◌, length, map, slice_get, slice_set, position, Option, Some, None, Result}
use Rattle.std.specs.List.{list_any}
use Rattle.std.specs.Option.{is_some, is_none, option_and_then, option_map}
use Rattle.std.specs.Str.{bytes_eq}
use Rattle.hr_base.specs.Lists.{when, first_some}
use Rattle.hr_base.specs.Texts.{Text}
use Rattle.hr_base.specs.declared.limits.TheConstants.{MAX_COLUMNS}
use Rattle.hr_rel.specs.Database.{columns_of}
use Rattle.hr_rel.specs.declared.catalog.Catalog.{Catalog}
use Rattle.hr_rel.specs.declared.catalog.TableDef.{TableDef}
use Rattle.hr_rel.specs.declared.catalog.ColumnDef.{ColumnDef}
use Rattle.hr_line.specs.declared.name.LineName.{LineName}
use Rattle.hr_line.specs.declared.name.LineName.TheVariants.{Short, TooLong}
use Rattle.hr_forms.specs.declared.column.ColumnForm.{ColumnForm}
use Rattle.hr_said.specs.declared.limits.TheConstants.{MAX_TABLES}
use Rattle.hr_said.specs.declared.said.Said.{Said}
use Rattle.hr_said.specs.declared.error.InputKind.{InputKind}
use Rattle.hr_said.specs.declared.error.InputKind.TheVariants as kind
use Rattle.hr_said.specs.Limits.{may_stand, is_too_long}
use Rattle.hr_said.specs.Outcomes.{unless}

-- ---- names

-- a name's bytes; one that is too long has none, and is refused
abbrev pub short : LineName → Text
short (Short name) = name
short TooLong = []

-- whether columns are called the same
abbrev pub same_name : ColumnForm → ColumnForm → Bool
same_name column other = bytes_eq column.name other.name

abbrev pub is_table_called : Text → TableDef → Bool
is_table_called name table = bytes_eq table.name name

abbrev pub table_in : List TableDef → LineName → Option ℕ
table_in tables (Short name) = position (λ t. is_table_called name t) tables
table_in tables TooLong = None

-- the number of the table of this name
abbrev pub table_named : Catalog → LineName → Option ℕ
table_named catalog name = table_in catalog.tables name

abbrev pub is_column_called : Text → ColumnDef → Bool
is_column_called name column = bytes_eq column.name name

-- the place of the column of this name
abbrev pub column_named : List ColumnDef → LineName → Option ℕ
column_named columns (Short name) = position (λ c. is_column_called name c) columns
column_named columns TooLong = None

-- ---- `table NAME (COL int key, COL KIND [null], ..)`

abbrev pub column_too_long : ColumnForm → Bool
column_too_long column = column.is_too_long

-- whether a column is called as one behind it
abbrev pub any_again : List ColumnForm → Bool
any_again [] = false
any_again (column ∷ others) = list_any (λ other. same_name column other) others || any_again others

abbrev pub column_def : ColumnForm → ColumnDef
column_def column = record { name = column.name; kind = column.kind; nullable = column.nullable; indexed = false }

abbrev pub table_def : LineName → List ColumnForm → TableDef
table_def name columns = record { name = short name; columns = map column_def columns }

abbrev pub table_refusal : Said → LineName → List ColumnForm → Option InputKind
table_refusal said name columns = first_some
    (when (not (may_stand said.part 5)) kind.Form
    ∷ when (is_too_long name || list_any (λ c. column_too_long c) columns || nat_lt MAX_COLUMNS (length columns) || nat_le MAX_TABLES (length said.catalog.tables)) kind.Limit
    ∷ when (is_some (table_named said.catalog name) || any_again columns) kind.Repeated
    ∷ [])

abbrev pub with_table : Catalog → TableDef → Catalog
with_table catalog table = record { tables = catalog.tables ++ table ∷ [] }

abbrev pub table : Said → LineName → List ColumnForm → Result Said InputKind
table said name columns = unless (table_refusal said name columns)
    (record said { part = 5; catalog = with_table said.catalog (table_def name columns); rows = said.rows ++ [] ∷ [] })

-- ---- `index TABLE COL`

-- the table and the place of a column
abbrev pub column_in : Catalog → LineName → LineName → Option (ℕ × ℕ)
column_in catalog table column =
    option_and_then (λ t. option_map (λ c. (t, c)) (column_named (columns_of catalog t) column)) (table_named catalog table)

-- the first column is the key
abbrev pub is_key : Option (ℕ × ℕ) → Bool
is_key None = false
is_key (Some at) = at.1 == 0

abbrev pub has_index : Option ColumnDef → Bool
has_index None = false
has_index (Some column) = column.indexed

abbrev pub is_indexed : Catalog → Option (ℕ × ℕ) → Bool
is_indexed catalog None = false
is_indexed catalog (Some at) = has_index (slice_get (columns_of catalog at.0) at.1)

abbrev pub index_refusal : Said → LineName → LineName → Option (ℕ × ℕ) → Option InputKind
index_refusal said table column found = first_some
    (when (not (may_stand said.part 5) || is_key found) kind.Form
    ∷ when (is_too_long table || is_too_long column) kind.Limit
    ∷ when (is_none found) kind.Unknown
    ∷ when (is_indexed said.catalog found) kind.Repeated
    ∷ [])

abbrev pub indexed : ColumnDef → ColumnDef
indexed column = record column { indexed = true }

abbrev pub with_indexed : List ColumnDef → ℕ → Option ColumnDef → List ColumnDef
with_indexed columns c None = columns
with_indexed columns c (Some column) = slice_set columns c (indexed column)

abbrev pub with_columns : Catalog → ℕ → Option TableDef → List ColumnDef → Catalog
with_columns catalog t None columns = catalog
with_columns catalog t (Some table) columns = record { tables = slice_set catalog.tables t (record table { columns = columns }) }

-- the catalog in which this column has an index
abbrev pub with_index : Catalog → ℕ → ℕ → Catalog
with_index catalog t c =
    with_columns catalog t (slice_get catalog.tables t) (with_indexed (columns_of catalog t) c (slice_get (columns_of catalog t) c))

abbrev pub with_index_in : Catalog → Option (ℕ × ℕ) → Catalog
with_index_in catalog None = catalog
with_index_in catalog (Some at) = with_index catalog at.0 at.1

abbrev pub index : Said → LineName → LineName → Result Said InputKind
index said table column = unless (index_refusal said table column (column_in said.catalog table column))
    (record said { part = 5; catalog = with_index_in said.catalog (column_in said.catalog table column) })
