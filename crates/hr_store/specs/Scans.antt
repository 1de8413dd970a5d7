-- What a walk over the cells, which stand in the order of their places, finds.
use Rattle.std.specs.Prelude.{◌≡◌, ℕ, ℤ, int_lt, true, ◌==◌, if◌then◌else◌, Option, Some, None, List, [], ◌∷◌, map}
use Rattle.std.specs.List.{list_all, flat_map, range_with_len}
use Rattle.std.specs.Option.{option_to_list}
use Rattle.std.specs.BTreeMap.Range.{entries_between}
use Rattle.std.specs.declared.ops.Bound.TheVariants.{Included}
use Rattle.hr_rel.specs.declared.value.Value.{Value}
use Rattle.hr_store.specs.declared.place.Place.{Place}
use Rattle.hr_store.specs.declared.cell.Cell.{Cell}
use Rattle.hr_store.specs.Places.{place_cmp, place_of}
use Rattle.hr_store.specs.Cells.{seen_in}

-- ---- what is committed

-- the committed row of a cell, if it is of this table
abbrev pub committed_in : ℕ → Place × Cell → List (List Value)
committed_in table e = if e.0.table == table then option_to_list e.1.committed else []

-- the committed rows of a table, in the order of their keys
abbrev pub committed_rows : ℕ → List (Place × Cell) → List (List Value)
committed_rows table cells = flat_map (committed_in table) cells

-- the same of each of so many tables
abbrev pub all_committed : ℕ → List (Place × Cell) → List (List (List Value))
all_committed count cells = map (λ table. committed_rows table cells) (range_with_len 0 count)

-- ---- which keys a transaction finds

abbrev pub key_where : ℤ → Option (List Value) → List ℤ
key_where key None = []
key_where key (Some row) = key ∷ []

-- the key of a cell, if the transaction sees a row in it
abbrev pub key_seen : ℕ → Place × Cell → List ℤ
key_seen txn e = key_where e.0.key (seen_in txn e.1)

abbrev pub keys_seen : ℕ → List (Place × Cell) → List ℤ
keys_seen txn cells = flat_map (key_seen txn) cells

-- the cells of a table from one key to another
abbrev pub cells_between : ℕ → ℤ → ℤ → List (Place × Cell) → List (Place × Cell)
cells_between table low high cells = entries_between place_cmp (Included (place_of table low)) (Included (place_of table high)) cells

-- each key is less than all behind it
abbrev pub Rising : List ℤ → Type 0
Rising [] = Unit {0}
Rising (key ∷ keys) = (list_all (int_lt key) keys ≡ true) × Rising keys
