-- What a reader keeps of the rows.
use Rattle.std.specs.Prelude.{◌≡◌, ℕ, Bool, true, List, [], length, slice_get, unwrap_or}
use Rattle.std.specs.List.{list_all}
use Rattle.hr_rel.specs.declared.value.Value.{Value}
use Rattle.hr_rel.specs.Holds.{is_ordered}
use Rattle.hr_said.specs.declared.said.Said.{Said}

-- there is one list of rows for each table
abbrev pub HasTables : Said → Type 0
HasTables said = length said.rows ≡ length said.catalog.tables

-- the rows of each table are in the order of their keys, where this is known
abbrev pub AreOrdered : Bool → Said → Type 0
AreOrdered known said = known ≡ true → list_all is_ordered said.rows ≡ true

-- the rows of the table with this number
abbrev pub rows_at : List (List (List Value)) → ℕ → List (List Value)
rows_at tables t = unwrap_or (slice_get tables t) []
