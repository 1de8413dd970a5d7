-- What an INSERT does to the rows of its table.
use Rattle.std.specs.Prelude.{ℕ, ◌+◌, ℤ, Bool, false, if◌then◌else◌, Option, Some, None, unwrap_or, List, [], ◌∷◌, length, Result, Ok, Err, int_lt, insert, position}
use Rattle.std.specs.Option.{option_map, option_or, option_and_then}
use Rattle.std.specs.List.{list_any, zip}
use Rattle.std.specs.Ordering.{int_eq}
use Rattle.hr_rel.specs.declared.value.Value.{Value}
use Rattle.hr_rel.specs.declared.answer.RunError.{RunError}
use Rattle.hr_rel.specs.declared.answer.RunError.TheVariants.{DuplicateKey, NullRefused}
use Rattle.hr_rel.specs.declared.catalog.ColumnDef.{ColumnDef}
use Rattle.hr_rel.specs.Database.{key_of}
use Rattle.hr_rel.specs.Kinds.{refuses}
use Rattle.hr_meaning.specs.Value.{and_then}

abbrev pub is_number : ℤ → Option ℤ → Bool
is_number n None = false
is_number n (Some m) = int_eq m n

abbrev pub is_greater : ℤ → Option ℤ → Bool
is_greater n None = false
is_greater n (Some m) = int_lt n m

-- whether the row's key is this number
abbrev pub has_key : ℤ → List Value → Bool
has_key n row = is_number n (key_of row)

-- whether the row's key is greater than this number
abbrev pub comes_after : ℤ → List Value → Bool
comes_after n row = is_greater n (key_of row)

-- the first column, counted from 1, that refuses its NULL
abbrev pub null_refused : List ColumnDef → List Value → Option RunError
null_refused columns row = option_map (λ i. NullRefused (i + 1)) (position refuses (zip columns row))

-- the key of the row, where a row of the table has it
abbrev pub duplicate_key : List (List Value) → List Value → Option RunError
duplicate_key table row = option_and_then (λ n. if list_any (has_key n) table then Some (DuplicateKey n) else None) (key_of row)

-- why the row can't be inserted: a NULL that is refused comes before a key that is there
abbrev pub insert_error : List ColumnDef → List (List Value) → List Value → Option RunError
insert_error columns table row = option_or (null_refused columns row) (duplicate_key table row)

-- the place of a new key: before the first greater one, or at the end
abbrev pub place_for : List (List Value) → ℤ → ℕ
place_for table n = unwrap_or (position (comes_after n) table) (length table)

-- the table with one more row; one whose key is no number can't be put in order and stands at the end
abbrev pub put_row : List (List Value) → List Value → List (List Value)
put_row table row = insert table (unwrap_or (option_map (place_for table) (key_of row)) (length table)) row

-- x, unless there is an error
abbrev pub unless : {X : Type 0} → Option RunError → X → Result X RunError
unless None x = Ok x
unless (Some e) x = Err e

-- the table with one more row, or why not
abbrev pub with_row : List ColumnDef → List (List Value) → List Value → Result (List (List Value)) RunError
with_row columns table row = unless (insert_error columns table row) (put_row table row)

-- the table with these rows too, put in one after another, or the first error
abbrev pub inserted : List ColumnDef → List (List Value) → List (List Value) → Result (List (List Value)) RunError
inserted columns table [] = Ok table
inserted columns table (row ∷ rows) = and_then (with_row columns table row) (λ next. inserted columns next rows)
