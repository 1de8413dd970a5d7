-- What stands in a store, and what each call does there.
use Rattle.std.specs.Prelude.{ℕ, ℤ, Bool, List}
use Rattle.hr_rel.specs.declared.value.Value.{Value}
use Rattle.hr_store.specs.declared.cell.Cell.{Cell}
use Rattle.hr_store.specs.declared.store.Store.{Store}
use Rattle.hr_store.specs.Places.{place_of}
use Rattle.hr_store.specs.Cells.{empty_cell, held_at}
use Rattle.hr_store.specs.Changes.{is_key_at, after_put, after_remove}
use Rattle.hr_store.specs.Loads.{all_loaded}
use Rattle.hr_store.specs.Scans.{all_committed}

-- what stands at a key of a table
abbrev pub cell_at : Store → ℕ → ℤ → Cell
cell_at store table key = held_at store.cells (place_of table key)

-- what stands there at the start: the row of that key is committed, and nothing is pending
abbrev pub start_cell : List (List (List Value)) → ℕ → ℤ → Cell
start_cell rows table key = all_loaded 0 rows (place_of table key) empty_cell

-- what stands there after a put into a table: where a row has the key, it is pending
abbrev pub put_cell : ℕ → ℕ → List (List Value) → ℕ → ℤ → Cell → Cell
put_cell txn into rows table key cell = after_put txn into rows (place_of table key) cell

-- what stands there after a remove from a table: where the key is among these, it is pending that there is no row
abbrev pub remove_cell : ℕ → ℕ → List ℤ → ℕ → ℤ → Cell → Cell
remove_cell txn from keys table key cell = after_remove txn from keys (place_of table key) cell

-- how many tables there are
abbrev pub tables_of : Store → ℕ
tables_of store = store.tables

-- how many keys were handed out
abbrev pub handed_of : Store → ℕ
handed_of store = store.handed

-- whether a key is among these of a table
abbrev pub is_key_in : ℕ → List ℤ → ℤ → Bool
is_key_in table keys key = is_key_at table keys (place_of table key)

-- the committed rows of each table, in the order of keys
abbrev pub dumped : Store → List (List (List Value))
dumped store = all_committed store.tables store.cells.entries
