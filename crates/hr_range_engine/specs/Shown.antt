-- What is committed in a store of rows, what each transaction sees there, and where it has written.
use Rattle.std.specs.Prelude.{◌≡◌, ℕ, ℤ, Bool, true, ◌&&◌, ◌==◌, nat_lt, int_le, if◌then◌else◌, Option, Some, None, List, [], ◌∷◌, length}
use Rattle.std.specs.Int.{int_max, int_min}
use Rattle.std.specs.List.{flat_map}
use Rattle.std.specs.Option.{option_to_list}
use Rattle.hr_rel.specs.declared.value.Value.{Value}
use Rattle.hr_rel.specs.declared.catalog.Catalog.{Catalog}
use Rattle.hr_rel.specs.Database.{Database}
use Rattle.hr_rel.specs.Holds.{has_number_key, IsSound}
use Rattle.hr_meaning.specs.Insert.{has_key}
use Rattle.hr_locks.specs.declared.need.Need.{Need}
use Rattle.hr_locks.specs.Locks.{is_exclusive}
use Rattle.hr_plan.specs.declared.span.Span.{Span}
use Rattle.hr_store.specs.declared.cell.Cell.{Cell}
use Rattle.hr_store.specs.declared.store.Store.{Store}
use Rattle.hr_store.specs.Cells.{pending_row, is_pending_of, seen_in}
use Rattle.hr_store.specs.Store.{cell_at, tables_of, dumped}
use Rattle.hr_lock_engine.specs.Views.{Seen, Wrote}

-- a row stands at its own key, in a table that there is
abbrev pub stands_at : ℕ → ℕ → ℤ → Option (List Value) → Bool
stands_at tables t k None = true
stands_at tables t k (Some row) = nat_lt t tables && (has_key k row && has_number_key row)

abbrev pub is_sound_at : ℕ → ℕ → ℤ → Cell → Bool
is_sound_at tables t k cell = stands_at tables t k cell.committed && stands_at tables t k (pending_row cell.pending)

-- all rows, committed and pending, stand at their keys
abbrev pub AreSound : Store → Type 0
AreSound store = (t : ℕ) (k : ℤ) → is_sound_at (tables_of store) t k (cell_at store t k) ≡ true

-- what is committed
abbrev pub committed_base : Catalog → Store → Database
committed_base catalog store = record { catalog = catalog; tables = dumped store }

-- what a transaction sees, and where it has written
abbrev pub seen_by : Store → Seen
seen_by store u t k = seen_in u (cell_at store t k)

abbrev pub wrote_by : Store → Wrote
wrote_by store u t k = is_pending_of u (cell_at store t k)

-- A store of the rows of this catalog.
pub record IsOf (catalog : Catalog) (store : Store) : Type 0 where
  pub sound : IsSound catalog
  pub count : tables_of store ≡ length catalog.tables
  pub rows : AreSound store

-- the same cells
abbrev pub SameCells : Store → Store → Type 0
SameCells before now = (t : ℕ) (k : ℤ) → cell_at now t k ≡ cell_at before t k

-- ---- rows that are looked at

-- the rows at these keys, where there are any
abbrev pub rows_by : (ℤ → Option (List Value)) → List ℤ → List (List Value)
rows_by row keys = flat_map (λ k. option_to_list (row k)) keys

abbrev pub is_within : ℤ → ℤ → ℤ → Bool
is_within low high k = int_le low k && int_le k high

-- the row at a key of the interval, and no other
abbrev pub row_within : ℤ → ℤ → (ℤ → Option (List Value)) → ℤ → Option (List Value)
row_within low high row k = if is_within low high k then row k else None

-- an interval that has the keys of another one too, if that is of the same table
abbrev pub widened : Span → Span → Span
widened span other = if span.table == other.table then record { table = span.table; low = int_min span.low other.low; high = int_max span.high other.high } else span

-- the interval in which a statement with these needs may change rows, if there is one
abbrev pub changed_in : List (Need Span) → Option Span
changed_in [] = None
changed_in (need ∷ needs) = if is_exclusive need.mode then Some need.name else None
