-- The rows with which a store starts.
use Rattle.std.specs.Prelude.{ℕ, ◌+◌, if◌then◌else◌, Some, None, List, [], ◌∷◌}
use Rattle.hr_rel.specs.declared.value.Value.{Value}
use Rattle.hr_store.specs.declared.place.Place.{Place}
use Rattle.hr_store.specs.declared.cell.Cell.{Cell}
use Rattle.hr_store.specs.Places.{belongs_at}

-- a cell in which a row is committed, and nothing pending
abbrev pub committed_cell : List Value → Cell
committed_cell row = record { committed = Some row; pending = None }

-- what stands at a place after rows of a table have been laid down, one after another
abbrev pub loaded : ℕ → List (List Value) → Place → Cell → Cell
loaded table [] q cell = cell
loaded table (row ∷ rows) q cell = loaded table rows q (if belongs_at table q row then committed_cell row else cell)

-- what stands at a place after the rows of these tables have, the first of them with this number
abbrev pub all_loaded : ℕ → List (List (List Value)) → Place → Cell → Cell
all_loaded table [] q cell = cell
all_loaded table (rows ∷ tables) q cell = all_loaded (table + 1) tables q (loaded table rows q cell)
