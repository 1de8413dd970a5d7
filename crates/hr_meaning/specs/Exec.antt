-- What a statement means on a database.
use Rattle.std.specs.Prelude.{ℕ, ◌+◌, not, ◌&&◌, if◌then◌else◌, Option, Some, None, List, [], ◌∷◌, length, map, filter, slice_get, slice_set, Result, Ok, Err}
use Rattle.std.specs.List.{flat_map}
use Rattle.hr_rel.specs.declared.value.Value.{Value}
use Rattle.hr_rel.specs.declared.answer.Answer.{Answer}
use Rattle.hr_rel.specs.declared.answer.Answer.TheVariants.{Count, Failed}
use Rattle.hr_rel.specs.declared.answer.RunError.{RunError}
use Rattle.hr_rel.specs.declared.answer.RunError.TheVariants.{NullRefused, Unfit}
use Rattle.hr_rel.specs.declared.catalog.ColumnDef.{ColumnDef}
use Rattle.hr_rel.specs.declared.expr.Pred.{Pred}
use Rattle.hr_rel.specs.declared.stmt.Set.{Set}
use Rattle.hr_rel.specs.declared.stmt.Stmt.{Stmt}
use Rattle.hr_rel.specs.declared.stmt.Stmt.TheVariants as stmt
use Rattle.hr_rel.specs.declared.stmt.SelectStmt.{SelectStmt}
use Rattle.hr_rel.specs.declared.stmt.UpdateStmt.{UpdateStmt}
use Rattle.hr_rel.specs.Database.{Database, columns_of, rows_of, with_rows}
use Rattle.hr_rel.specs.Kinds.{refuses}
use Rattle.hr_rel.specs.Fit.{fits}
use Rattle.hr_meaning.specs.Truth.{Tuple, is_kept}
use Rattle.hr_meaning.specs.Value.{and_then, each, value_of}
use Rattle.hr_meaning.specs.Select.{answer_from}
use Rattle.hr_meaning.specs.Insert.{inserted}

-- The database after a statement, and the answer.
pub record Outcome : Type 0 where
  pub after : Database
  pub answer : Answer

-- ---- SELECT

-- a row of each of these tables: all rows of one, all pairs of two, in order of first key and then second
abbrev pub tuples : List (List (List Value)) → List Tuple
tuples [] = [] ∷ []
tuples (rows ∷ others) = flat_map (λ row. map (λ t. row ∷ t) (tuples others)) rows

-- the rows or pairs of which ON and WHERE are true
abbrev pub kept : Database → SelectStmt → List Tuple
kept db s = filter (λ t. is_kept s.on t && is_kept s.filter t) (tuples (map (rows_of db) s.tables))

-- ---- UPDATE and DELETE

-- the value, if the column takes it
abbrev pub taken : Option ColumnDef → ℕ → Value → Result Value RunError
taken None c v = Ok v
taken (Some d) c v = if refuses (d, v) then Err (NullRefused (c + 1)) else Ok v

-- the new value of an assignment, evaluated over the old row
abbrev pub set_value : List ColumnDef → List Value → Set → Result Value RunError
set_value columns old s = and_then (value_of s.value (old ∷ [])) (taken (slice_get columns s.column) s.column)

-- a row after the assignments, from the left, or the first error
abbrev pub assigned : List ColumnDef → List Value → List Set → List Value → Result (List Value) RunError
assigned columns old [] row = Ok row
assigned columns old (s ∷ sets) row = and_then (set_value columns old s) (λ v. assigned columns old sets (slice_set row s.column v))

-- a row after an UPDATE: one that it doesn't keep stays as it is
abbrev pub updated : List ColumnDef → UpdateStmt → List Value → Result (List Value) RunError
updated columns s row = if is_kept s.filter (row ∷ []) then assigned columns row s.sets row else Ok row

abbrev pub kept_rows : Option Pred → List (List Value) → List (List Value)
kept_rows condition rows = filter (λ row. is_kept condition (row ∷ [])) rows

abbrev pub other_rows : Option Pred → List (List Value) → List (List Value)
other_rows condition rows = filter (λ row. not (is_kept condition (row ∷ []))) rows

-- ---- statements

-- a failed statement changes nothing
abbrev pub failed : Database → RunError → Outcome
failed db e = record { after = db; answer = Failed e }

-- a table gets these rows, and this many are counted; or the statement fails
abbrev pub changed : Database → ℕ → ℕ → Result (List (List Value)) RunError → Outcome
changed db t count (Ok rows) = record { after = with_rows db t rows; answer = Count count }
changed db t count (Err e) = failed db e

-- what a statement that fits means
abbrev pub meaning : Database → Stmt → Outcome
meaning db (stmt.Select s) = record { after = db; answer = answer_from s (kept db s) }
meaning db (stmt.Insert s) = changed db s.table (length s.rows) (inserted (columns_of db.catalog s.table) (rows_of db s.table) s.rows)
meaning db (stmt.Update s) = changed db s.table (length (kept_rows s.filter (rows_of db s.table))) (each (updated (columns_of db.catalog s.table) s) (rows_of db s.table))
meaning db (stmt.Delete s) = changed db s.table (length (kept_rows s.filter (rows_of db s.table))) (Ok (other_rows s.filter (rows_of db s.table)))

-- a statement: one that doesn't fit the catalog fails before all else
abbrev pub exec : Database → Stmt → Outcome
exec db s = if fits db.catalog s then meaning db s else failed db Unfit
