-- Not to be believed: how the code changes a table, which these mirror.
use Rattle.std.specs.Prelude.{◌≡◌, ℕ, ◌+◌, ℤ, ◌||◌, if◌then◌else◌, Option, Some, None, List, [], ◌∷◌, ◌++◌, Result, Ok, Err, unwrap_or, slice_get, slice_set}
use Rattle.std.specs.Option.{option_or}
use Rattle.std.specs.List.{list_any}
use Rattle.hr_rel.specs.declared.value.Value.{Value}
use Rattle.hr_rel.specs.declared.answer.Answer.{Answer}
use Rattle.hr_rel.specs.declared.answer.Answer.TheVariants.{Count, Failed}
use Rattle.hr_rel.specs.declared.answer.RunError.{RunError}
use Rattle.hr_rel.specs.declared.answer.RunError.TheVariants.{DuplicateKey}
use Rattle.hr_rel.specs.declared.catalog.ColumnDef.{ColumnDef}
use Rattle.hr_rel.specs.declared.stmt.UpdateStmt.{UpdateStmt}
use Rattle.hr_rel.specs.Database.{key_of}
use Rattle.hr_meaning.specs.Truth.{is_kept}
use Rattle.hr_meaning.specs.Value.{and_then}
use Rattle.hr_meaning.specs.Insert.{has_key, null_refused, put_row}
use Rattle.hr_meaning.specs.Exec.{assigned}
use Rattle.hr_machine.specs.declared.update.Change.{Change}

-- ---- a table

-- the rows of the table with this number
abbrev pub rows_at : List (List (List Value)) → ℕ → List (List Value)
rows_at tables t = unwrap_or (slice_get tables t) []

-- The table with this number got these rows, and this many are counted; or the statement failed, and nothing changed.
abbrev pub IsChange : Answer → List (List (List Value)) → List (List (List Value)) → ℕ → ℕ → Result (List (List Value)) RunError → Type 0
IsChange answer old new t count (Ok rows) = (answer ≡ Count count) × (new ≡ slice_set old t rows)
IsChange answer old new t count (Err e) = (answer ≡ Failed e) × (new ≡ old)

-- ---- UPDATE

-- the new row of one at a place, if the UPDATE keeps it, or its first error
abbrev pub change_at : List ColumnDef → UpdateStmt → ℕ → List Value → Result (Option Change) RunError
change_at columns s n row = if is_kept s.filter (row ∷ []) then and_then (assigned columns row s.sets row) (λ new. Ok (Some record { place = n; row = new })) else Ok None

abbrev pub with_change : Option Change → List Change → List Change
with_change None changes = changes
with_change (Some c) changes = c ∷ changes

-- the changes of some rows, of which the first has this place; or the first error
abbrev pub changes_from : List ColumnDef → UpdateStmt → ℕ → List (List Value) → Result (List Change) RunError
changes_from columns s n [] = Ok []
changes_from columns s n (row ∷ rows) = and_then (change_at columns s n row) (λ c. and_then (changes_from columns s (n + 1) rows) (λ more. Ok (with_change c more)))

-- some rows after these changes
abbrev pub changed_rows : List (List Value) → List Change → List (List Value)
changed_rows rows [] = rows
changed_rows rows (c ∷ changes) = changed_rows (slice_set rows c.place c.row) changes

-- ---- INSERT

-- a table with these rows too, put in one after another
abbrev pub put_rows : List (List Value) → List (List Value) → List (List Value)
put_rows table [] = table
put_rows table (row ∷ rows) = put_rows (put_row table row) rows

-- whether a row of either has the key
abbrev pub key_error : List (List Value) → List (List Value) → Option ℤ → Option RunError
key_error table earlier None = None
key_error table earlier (Some n) = if list_any (has_key n) table || list_any (has_key n) earlier then Some (DuplicateKey n) else None

-- why a row can't be inserted after some earlier ones
abbrev pub row_error : List ColumnDef → List (List Value) → List (List Value) → List Value → Option RunError
row_error columns table earlier row = option_or (null_refused columns row) (key_error table earlier (key_of row))

-- the first error of some rows that come after earlier ones
abbrev pub rows_error : List ColumnDef → List (List Value) → List (List Value) → List (List Value) → Option RunError
rows_error columns table earlier [] = None
rows_error columns table earlier (row ∷ rows) = option_or (row_error columns table earlier row) (rows_error columns table (earlier ++ row ∷ []) rows)
