-- What a change of many rows does at each place.
use Rattle.std.specs.Prelude.{◌≡◌, ℕ, ℤ, Bool, true, if◌then◌else◌, Option, Some, None, List, IsSome}
use Rattle.std.specs.List.{list_any, find}
use Rattle.std.specs.BTreeMap.{BTreeMap, get, is_at}
use Rattle.hr_rel.specs.declared.value.Value.{Value}
use Rattle.hr_store.specs.declared.place.Place.{Place}
use Rattle.hr_store.specs.declared.cell.Cell.{Cell}
use Rattle.hr_store.specs.Places.{place_cmp, place_of, belongs_at}
use Rattle.hr_store.specs.Cells.{with_pending, written_by, is_listed}

-- whether one of the rows of a table belongs at the place
abbrev pub is_any_at : ℕ → List (List Value) → Place → Bool
is_any_at table rows q = list_any (belongs_at table q) rows

-- whether one of these keys stands for the place
abbrev pub is_key_at : ℕ → List ℤ → Place → Bool
is_key_at table keys q = list_any (λ key. is_at (place_cmp (place_of table key)) q) keys

-- a cell with this row pending, if there is one
abbrev pub put_in : ℕ → Option (List Value) → Cell → Cell
put_in txn None cell = cell
put_in txn (Some row) cell = with_pending txn (Some row) cell

-- a cell after rows of a table have been put by a transaction: the row that belongs there is pending
abbrev pub after_put : ℕ → ℕ → List (List Value) → Place → Cell → Cell
after_put txn table rows q cell = put_in txn (find (belongs_at table q) rows) cell

-- a cell after the rows at these keys of a table have been removed by a transaction: it is pending that there is none
abbrev pub after_remove : ℕ → ℕ → List ℤ → Place → Cell → Cell
after_remove txn table keys q cell = if is_key_at table keys q then with_pending txn None cell else cell

-- a place at which a transaction can write without memory: it has a cell, and is listed
abbrev pub IsReady : BTreeMap Place Cell → BTreeMap ℕ (List Place) → ℕ → Place → Type 0
IsReady cells written txn place = IsSome (get place_cmp cells place) × (is_listed place (written_by written txn) ≡ true)
