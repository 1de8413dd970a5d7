-- Footprints of statements: what has to be covered, whole tables, and intervals of keys.
use Rattle.std.specs.Prelude.{◌≡◌, ℕ, ℤ, pos, negsuc, ◌^◌, ◌-◌, Bool, true, false, not, ◌&&◌, ◌||◌, Option, List, [], ◌∷◌, map}
use Rattle.std.specs.List.{list_all, flat_map}
use Rattle.hr_rel.specs.declared.value.Value.{Value}
use Rattle.hr_rel.specs.declared.expr.Pred.{Pred}
use Rattle.hr_rel.specs.declared.stmt.Stmt.{Stmt}
use Rattle.hr_rel.specs.declared.stmt.Stmt.TheVariants as stmt
use Rattle.hr_rel.specs.Holds.{has_number_key}
use Rattle.hr_meaning.specs.Truth.{Tuple, is_kept}
use Rattle.hr_parts.specs.Parts.{Part, covers, written, lies}

-- ---- what has to be covered

-- whether rows, one of each of these tables, lie in the parts
abbrev pub all_lie : List Part → List ℕ → Tuple → Bool
all_lie parts [] rows = true
all_lie parts (t ∷ ts) [] = true
all_lie parts (t ∷ ts) (row ∷ rows) = lies (covers parts t) row && all_lie parts ts rows

-- each row of the table that passes the condition lies in the written parts
abbrev pub ChangesLie : List Part → ℕ → Option Pred → Type 0
ChangesLie parts t condition = (row : List Value) → has_number_key row ≡ true → is_kept condition (row ∷ []) ≡ true → lies (covers (written parts) t) row ≡ true

-- whether a new row, if it has a key, lies there
abbrev pub new_lies : (ℤ → Bool) → List Value → Bool
new_lies keys row = not (has_number_key row) || lies keys row

-- The parts cover a statement: each row of what it keeps, and each row that it changes, lies in them.
abbrev pub Covers : List Part → Stmt → Type 0
Covers parts (stmt.Select s) = (rows : Tuple) → list_all has_number_key rows ≡ true → (is_kept s.on rows && is_kept s.filter rows) ≡ true → all_lie parts s.tables rows ≡ true
Covers parts (stmt.Insert s) = list_all (new_lies (covers (written parts) s.table)) s.rows ≡ true
Covers parts (stmt.Update s) = ChangesLie parts s.table s.filter
Covers parts (stmt.Delete s) = ChangesLie parts s.table s.filter

-- ---- whole tables

abbrev pub least_key : ℤ
least_key = negsuc (2 ^ 63 - 1)

abbrev pub greatest_key : ℤ
greatest_key = pos (2 ^ 63 - 1)

-- all rows of a table
abbrev pub whole : Bool → ℕ → Part
whole w t = record { table = t; low = least_key; high = greatest_key; written = w }

-- the tables that a statement reads, whole, or the one that it changes
abbrev pub table_parts : Stmt → List Part
table_parts (stmt.Select s) = map (whole false) s.tables
table_parts (stmt.Insert s) = whole true s.table ∷ []
table_parts (stmt.Update s) = whole true s.table ∷ []
table_parts (stmt.Delete s) = whole true s.table ∷ []

-- the tables of a list of statements
abbrev pub tables_of : List Stmt → List Part
tables_of stmts = flat_map table_parts stmts
