-- Tables whose changes can be undone: beside each table, the rows from before a transaction changed it.
use Rattle.std.specs.Prelude.{ℕ, ℤ, Bool, true, false, not, ◌==◌, if◌then◌else◌, Option, Some, None, unwrap_or, slice_get, slice_set, List, [], ◌∷◌}
use Rattle.hr_rel.specs.declared.value.Value.{Value}
use Rattle.hr_rel.specs.declared.stmt.Stmt.{Stmt}
use Rattle.hr_rel.specs.declared.stmt.Stmt.TheVariants as stmt
use Rattle.hr_rel.specs.Database.{Database}
use Rattle.hr_rel.specs.Holds.{is_ordered}
use Rattle.hr_parts.specs.Parts.{row_at}
use Rattle.hr_table_engine.specs.declared.before.Before.{Before}

-- the rows of a table once the changes of these writers are undone
abbrev pub slot_rows : (ℕ → Bool) → Option Before → List (List Value) → List (List Value)
slot_rows undoes None rows = rows
slot_rows undoes (Some b) rows = if undoes b.txn then b.rows else rows

abbrev pub undone : (ℕ → Bool) → List (Option Before) → List (List (List Value)) → List (List (List Value))
undone undoes [] tables = []
undone undoes (slot ∷ slots) [] = []
undone undoes (slot ∷ slots) (rows ∷ tables) = slot_rows undoes slot rows ∷ undone undoes slots tables

-- the database once the changes of these writers are undone
abbrev pub database_without : (ℕ → Bool) → List (Option Before) → Database → Database
database_without undoes slots db = record { catalog = db.catalog; tables = undone undoes slots db.tables }

abbrev pub everyone : ℕ → Bool
everyone w = true

abbrev pub others_than : ℕ → ℕ → Bool
others_than u w = not (w == u)

-- what is committed, and what a transaction sees
abbrev pub committed_in : List (Option Before) → Database → Database
committed_in slots db = database_without everyone slots db

abbrev pub seen_in : List (Option Before) → Database → ℕ → ℕ → ℤ → Option (List Value)
seen_in slots db u t k = row_at (database_without (others_than u) slots db) t k

-- who has changed a table
abbrev pub slot_at : List (Option Before) → ℕ → Option Before
slot_at slots t = unwrap_or (slice_get slots t) None

abbrev pub is_of : ℕ → Option Before → Bool
is_of u None = false
is_of u (Some b) = b.txn == u

abbrev pub wrote_in : List (Option Before) → ℕ → ℕ → ℤ → Bool
wrote_in slots u t k = is_of u (slot_at slots t)

-- the rows that are kept are in the order of keys
abbrev pub is_kept_ordered : Option Before → Bool
is_kept_ordered None = true
is_kept_ordered (Some b) = is_ordered b.rows

-- ---- a statement

-- the table that a statement changes
abbrev pub written_table : Stmt → Option ℕ
written_table (stmt.Select s) = None
written_table (stmt.Insert s) = Some s.table
written_table (stmt.Update s) = Some s.table
written_table (stmt.Delete s) = Some s.table

-- whether there is a table here whose rows aren't kept
abbrev pub is_open : Option (Option Before) → Bool
is_open (Some None) = true
is_open _ = false

-- the rows to be kept of the table that is changed, unless some are kept already
abbrev pub saved_of : List (Option Before) → List (List (List Value)) → Option ℕ → Option (ℕ × List (List Value))
saved_of slots tables None = None
saved_of slots tables (Some t) = if is_open (slice_get slots t) then Some (t, unwrap_or (slice_get tables t) []) else None

abbrev pub kept : ℕ → Option (ℕ × List (List Value)) → List (Option Before) → List (Option Before)
kept txn None slots = slots
kept txn (Some saved) slots = slice_set slots saved.0 (Some (record { txn = txn; rows = saved.1 }))

-- ---- ends

abbrev pub cleared : ℕ → Option Before → Option Before
cleared txn None = None
cleared txn (Some b) = if b.txn == txn then None else Some b
