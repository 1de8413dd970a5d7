-- Parts of a database, and what of a database a list of statements reads and changes.
use Rattle.std.specs.Prelude.{◌≡◌, ℕ, ℤ, int_le, Bool, true, false, not, ◌&&◌, ◌||◌, ◌==◌, Option, Some, None, List, filter}
use Rattle.std.specs.List.{list_all, list_any, find}
use Rattle.hr_rel.specs.declared.value.Value.{Value}
use Rattle.hr_rel.specs.declared.stmt.Stmt.{Stmt}
use Rattle.hr_rel.specs.Database.{Database, rows_of, key_of}
use Rattle.hr_rel.specs.Holds.{IsOrdered}
use Rattle.hr_meaning.specs.Insert.{has_key}
use Rattle.hr_meaning.specs.Serial.{play}

-- The rows of one table whose keys lie from one number to another, and whether they may be changed.
pub record Part : Type 0 where
  pub table : ℕ
  pub low : ℤ
  pub high : ℤ
  pub written : Bool

-- whether the row of a table with this key is in the part
abbrev pub is_in : ℕ → ℤ → Part → Bool
is_in t k part = (part.table == t) && int_le part.low k && int_le k part.high

-- whether it is in one of the parts
abbrev pub covers : List Part → ℕ → ℤ → Bool
covers parts t k = list_any (is_in t k) parts

abbrev pub written : List Part → List Part
written parts = filter (λ (part : Part). part.written) parts

-- whether these keys take in a row's key; a row without one needs none
abbrev pub takes : (ℤ → Bool) → Option ℤ → Bool
takes keys None = true
takes keys (Some k) = keys k

abbrev pub lies : (ℤ → Bool) → List Value → Bool
lies keys row = takes keys (key_of row)

-- the row of a table with this key, if there is one
abbrev pub row_at : Database → ℕ → ℤ → Option (List Value)
row_at db t k = find (has_key k) (rows_of db t)

-- ---- footprints

-- Two databases of one catalog have the same rows in these parts.
pub record Agree (parts : List Part) (d e : Database) : Type 0 where
  pub catalog : d.catalog ≡ e.catalog
  pub rows : (t : ℕ) (k : ℤ) → covers parts t k ≡ true → row_at d t k ≡ row_at e t k

-- The parts are a footprint of the statements, played one after another: what they answer, and what they leave in the parts,
-- depends on the rows of the parts alone, and no row outside the written ones changes.
pub record Within (parts : List Part) (stmts : List Stmt) : Type 0 where
  pub answers : (d e : Database) → IsOrdered d → IsOrdered e → Agree parts d e → (play d stmts).answers ≡ (play e stmts).answers
  pub results : (d e : Database) → IsOrdered d → IsOrdered e → Agree parts d e → Agree parts (play d stmts).after (play e stmts).after
  pub frame : (d : Database) → IsOrdered d → (t : ℕ) (k : ℤ) → covers (written parts) t k ≡ false → row_at (play d stmts).after t k ≡ row_at d t k

-- ---- footprints that don't meet

-- no row of one that is in what the other may change
abbrev pub Untouched : List Part → List Part → Type 0
Untouched parts others = (t : ℕ) (k : ℤ) → covers (written others) t k ≡ true → covers parts t k ≡ false

-- Two footprints are apart: no row is in both that one of them may change.
pub record Apart (parts others : List Part) : Type 0 where
  pub left : Untouched parts others
  pub right : Untouched others parts

-- whether two parts are of one table and share a key
abbrev pub share : Part → Part → Bool
share a b = (a.table == b.table) && int_le a.low b.high && int_le b.low a.high

-- whether two parts share a key at which one of them may change
abbrev pub conflict : Part → Part → Bool
conflict a b = (a.written || b.written) && share a b

-- whether no two of them do
abbrev pub are_apart : List Part → List Part → Bool
are_apart parts others = list_all (λ a. not (list_any (conflict a) others)) parts
