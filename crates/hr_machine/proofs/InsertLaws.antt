-- Rows that are put in one after another, and the first error among them.
use Rattle.std.proofs.Common.{◌≡◌, ℕ, zero, suc, ℤ, Bool, true, false, ◌||◌, if◌then◌else◌, cond, Option, Some, None, List, [], ◌∷◌, ◌++◌, length, Ok, Err, refl, ap, sym, ◌∙◌}
use Rattle.std.specs.Prelude.{insert, unwrap_or}
use Rattle.std.specs.Option.{option_map, option_or, option_and_then}
use Rattle.std.specs.List.{list_any}
use Rattle.hr_rel.specs.declared.value.Value.{Value}
use Rattle.hr_rel.specs.declared.answer.RunError.{RunError}
use Rattle.hr_rel.specs.declared.answer.RunError.TheVariants.{DuplicateKey}
use Rattle.hr_rel.specs.declared.catalog.ColumnDef.{ColumnDef}
use Rattle.hr_rel.specs.Database.{key_of}
use Rattle.hr_meaning.specs.Value.{and_then}
use Rattle.hr_meaning.specs.Insert.{has_key, null_refused, insert_error, place_for, put_row, unless, inserted}
use Rattle.hr_machine.specs.Changes.{put_rows, key_error, row_error, rows_error}

module _ (p : List Value → Bool) where
  any_insert : (rows : List (List Value)) (i : ℕ) (row : List Value) → list_any p (insert rows i row) ≡ (p row || list_any p rows)
  any_insert rows zero row = refl
  any_insert [] (suc i) row = refl
  any_insert (first ∷ rows) (suc i) row = ap (λ b. p first || b) (any_insert rows i row) ∙ turn (p first) (p row) (list_any p rows)
    where
      turn : (a b c : Bool) → (a || (b || c)) ≡ (b || (a || c))
      turn true true c = refl
      turn true false c = refl
      turn false true c = refl
      turn false false c = refl

  any_put : (table : List (List Value)) (row : List Value) → list_any p (put_row table row) ≡ (p row || list_any p table)
  any_put table row = any_insert table (unwrap_or (option_map (place_for table) (key_of row)) (length table)) row

  pub any_put_rows : (table rows : List (List Value)) → list_any p (put_rows table rows) ≡ (list_any p table || list_any p rows)
  any_put_rows table [] = nothing (list_any p table)
    where
      nothing : (a : Bool) → a ≡ (a || false)
      nothing true = refl
      nothing false = refl
  any_put_rows table (row ∷ rows) = any_put_rows (put_row table row) rows ∙ ap (λ b. b || list_any p rows) (any_put table row) ∙ turn (p row) (list_any p table) (list_any p rows)
    where
      turn : (a b c : Bool) → ((a || b) || c) ≡ (b || (a || c))
      turn true true c = refl
      turn true false c = refl
      turn false true c = refl
      turn false false c = refl

pub put_rows_last : (table rows : List (List Value)) (row : List Value) → put_rows table (rows ++ row ∷ []) ≡ put_row (put_rows table rows) row
put_rows_last table [] row = refl
put_rows_last table (first ∷ rows) row = put_rows_last (put_row table first) rows row

key_error_as : (table earlier : List (List Value)) (k : Option ℤ)
    → option_and_then (λ n. if list_any (has_key n) (put_rows table earlier) then Some (DuplicateKey n) else None) k ≡ key_error table earlier k
key_error_as table earlier None = refl
key_error_as table earlier (Some n) = ap (λ (b : Bool). cond b (Some (DuplicateKey n)) None) (any_put_rows (has_key n) table earlier)

module _ (columns : List ColumnDef) (table : List (List Value)) where
  error_as : (earlier : List (List Value)) (row : List Value) → insert_error columns (put_rows table earlier) row ≡ row_error columns table earlier row
  error_as earlier row = ap (option_or (null_refused columns row)) (key_error_as table earlier (key_of row))

  inserted_by : (earlier : List (List Value)) (row : List Value) (rows : List (List Value)) (e : Option RunError)
      → inserted columns (put_rows table (earlier ++ row ∷ [])) rows ≡ unless (rows_error columns table (earlier ++ row ∷ []) rows) (put_rows (put_rows table (earlier ++ row ∷ [])) rows)
      → and_then (unless e (put_row (put_rows table earlier) row)) (λ next. inserted columns next rows)
      ≡ unless (option_or e (rows_error columns table (earlier ++ row ∷ []) rows)) (put_rows (put_rows table earlier) (row ∷ rows))
  inserted_by earlier row rows (Some e) ih = refl
  inserted_by earlier row rows None ih =
      ap (λ next. inserted columns next rows) (sym (put_rows_last table earlier row)) ∙ ih
      ∙ ap (λ next. unless (rows_error columns table (earlier ++ row ∷ []) rows) (put_rows next rows)) (put_rows_last table earlier row)

  inserted_after : (earlier rows : List (List Value)) → inserted columns (put_rows table earlier) rows ≡ unless (rows_error columns table earlier rows) (put_rows (put_rows table earlier) rows)
  inserted_after earlier [] = refl
  inserted_after earlier (row ∷ rows) =
      ap (λ e. and_then (unless e (put_row (put_rows table earlier) row)) (λ next. inserted columns next rows)) (error_as earlier row)
      ∙ inserted_by earlier row rows (row_error columns table earlier row) (inserted_after (earlier ++ row ∷ []) rows)

  -- what an INSERT comes to
  pub inserted_as : (rows : List (List Value)) → inserted columns table rows ≡ unless (rows_error columns table [] rows) (put_rows table rows)
  inserted_as rows = inserted_after [] rows

  pub inserted_whole : (rows : List (List Value)) → rows_error columns table [] rows ≡ None → inserted columns table rows ≡ Ok (put_rows table rows)
  inserted_whole rows e = inserted_as rows ∙ ap (λ o. unless o (put_rows table rows)) e

  pub inserted_failed : (rows : List (List Value)) (d : RunError) → rows_error columns table [] rows ≡ Some d → inserted columns table rows ≡ Err d
  inserted_failed rows d e = inserted_as rows ∙ ap (λ o. unless o (put_rows table rows)) e
