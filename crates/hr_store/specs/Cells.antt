-- Cells: what is committed at a place, and what is pending there and whose it is.
use Rattle.std.specs.Prelude.{◌≡◌, ℕ, Bool, true, false, ◌&&◌, ◌==◌, if◌then◌else◌, Option, Some, None, unwrap_or, List, [], is_none}
use Rattle.std.specs.List.{list_any}
use Rattle.std.specs.Ordering.{nat_cmp}
use Rattle.std.specs.BTreeMap.{BTreeMap, get, is_at}
use Rattle.hr_rel.specs.declared.value.Value.{Value}
use Rattle.hr_store.specs.declared.place.Place.{Place}
use Rattle.hr_store.specs.Places.{place_cmp}
use Rattle.hr_store.specs.declared.cell.Cell.{Cell}
use Rattle.hr_store.specs.declared.cell.Pending.{Pending}
use Rattle.hr_store.specs.declared.ending.Ending.{Ending}
use Rattle.hr_store.specs.declared.ending.Ending.TheVariants.{Commit, Rollback}

-- ---- one cell

-- where nothing stands
abbrev pub empty_cell : Cell
empty_cell = record { committed = None; pending = None }

abbrev pub is_empty : Cell → Bool
is_empty cell = is_none cell.committed && is_none cell.pending

-- whether something pending is this transaction's
abbrev pub is_of : ℕ → Option Pending → Bool
is_of txn None = false
is_of txn (Some pending) = pending.txn == txn

abbrev pub is_pending_of : ℕ → Cell → Bool
is_pending_of txn cell = is_of txn cell.pending

-- what a pending entry makes of a row: another, or none
abbrev pub pending_row : Option Pending → Option (List Value)
pending_row None = None
pending_row (Some pending) = pending.row

-- the row that a transaction sees: its own pending one first, else the committed one
abbrev pub seen_in : ℕ → Cell → Option (List Value)
seen_in txn cell = if is_pending_of txn cell then pending_row cell.pending else cell.committed

-- a cell with this row pending, or with none to be
abbrev pub with_pending : ℕ → Option (List Value) → Cell → Cell
with_pending txn row cell = record { committed = cell.committed; pending = Some (record { txn = txn; row = row }) }

-- what was pending is committed, or goes
abbrev pub closed : Ending → Cell → Cell
closed Commit cell = record { committed = pending_row cell.pending; pending = None }
closed Rollback cell = record { committed = cell.committed; pending = None }

-- a cell after a transaction's end: only what is pending and the transaction's is touched
abbrev pub ended : Ending → ℕ → Cell → Cell
ended ending txn cell = if is_pending_of txn cell then closed ending cell else cell

-- ---- cells by their places

-- what stands at a place
abbrev pub held_at : BTreeMap Place Cell → Place → Cell
held_at cells place = unwrap_or (get place_cmp cells place) empty_cell

-- ---- what is listed as written

abbrev pub is_listed : Place → List Place → Bool
is_listed place places = list_any (λ p. is_at (place_cmp p) place) places

-- the places that a transaction may have written
abbrev pub written_by : BTreeMap ℕ (List Place) → ℕ → List Place
written_by written txn = unwrap_or (get nat_cmp written txn) []

-- whatever is pending is listed under its transaction
abbrev pub IsListed : BTreeMap Place Cell → BTreeMap ℕ (List Place) → Type 0
IsListed cells written = (txn : ℕ) (place : Place) → is_pending_of txn (held_at cells place) ≡ true → is_listed place (written_by written txn) ≡ true

-- a cell without what is pending
abbrev pub forgotten : Cell → Cell
forgotten cell = closed Rollback cell
