-- A table in order stays so with one row more.
use Rattle.std.proofs.Common.{◌≡◌, ℕ, zero, suc, ℤ, Bool, true, false, cond, Option, Some, None, List, [], ◌∷◌, length, refl, ap, sym, subst, ◌∙◌}
use Rattle.std.specs.Prelude.{insert, unwrap_or, slice_set}
use Rattle.std.specs.Option.{option_map, option_or, option_and_then}
use Rattle.std.specs.List.{list_all, list_any}
use Rattle.std.proofs.lemmas.Bool.{and_from, and_parts}
use Rattle.hr_rel.specs.declared.value.Value.{Value}
use Rattle.hr_rel.specs.declared.answer.RunError.{RunError}
use Rattle.hr_rel.specs.declared.answer.RunError.TheVariants.{DuplicateKey}
use Rattle.hr_rel.specs.declared.catalog.ColumnDef.{ColumnDef}
use Rattle.hr_rel.specs.Database.{key_of}
use Rattle.hr_rel.specs.Holds.{is_key, has_number_key, is_ordered}
use Rattle.hr_meaning.specs.Insert.{has_key, comes_after, null_refused, duplicate_key, insert_error, place_for, put_row}
use Rattle.hr_statement_laws.proofs.Ascending.{Ascending, from_test, to_test, put, put_is, put_ascends}
use Rattle.hr_machine.proofs.MachineLaws.{rows_in_order}
use Rattle.hr_reader.specs.Shaped.{rows_at}

both_none : (a b : Option RunError) → option_or a b ≡ None → b ≡ None
both_none None b e = e
both_none (Some d) b e = cc

not_there : (b : Bool) (d : RunError) → cond b (Some d) None ≡ None → b ≡ false
not_there true d e = cc
not_there false d e = refl

with_row_by : (table : List (List Value)) (row : List Value) (k : Option ℤ) → key_of row ≡ k → is_key k ≡ true → is_ordered table ≡ true → duplicate_key table row ≡ None → is_ordered (put_row table row) ≡ true
with_row_by table row None e f h d = cc
with_row_by table row (Some n) e f h d =
    let fresh = not_there (list_any (has_key n) table) (DuplicateKey n)
    (sym (ap (option_and_then (λ m. cond (list_any (has_key m) table) (Some (DuplicateKey m)) None)) e) ∙ d) in
    let so : put_row table row ≡ put (comes_after n) row table =
    ap (λ (o : Option ℤ). insert table (unwrap_or (option_map (place_for table) o) (length table)) row) e ∙ put_is (comes_after n) row table in
    to_test (put_row table row) (subst Ascending (sym so) (put_ascends n row e f table fresh (from_test table h)))

-- a row with a key that isn't there
with_row : (columns : List ColumnDef) (table : List (List Value)) (row : List Value) → has_number_key row ≡ true → is_ordered table ≡ true → insert_error columns table row ≡ None
    → is_ordered (put_row table row) ≡ true
with_row columns table row keyed h none = with_row_by table row (key_of row) refl keyed h (both_none (null_refused columns row) (duplicate_key table row) none)

all_set : (tables : List (List (List Value))) (t : ℕ) (rows : List (List Value)) → list_all is_ordered tables ≡ true → is_ordered rows ≡ true → list_all is_ordered (slice_set tables t rows) ≡ true
all_set [] t rows h e = refl
all_set (old ∷ tables) zero rows h e = and_from (is_ordered rows) (list_all is_ordered tables) e (and_parts (is_ordered old) (list_all is_ordered tables) h).1
all_set (old ∷ tables) (suc t) rows h e =
    let parts = and_parts (is_ordered old) (list_all is_ordered tables) h in
    and_from (is_ordered old) (list_all is_ordered (slice_set tables t rows)) parts.0 (all_set tables t rows parts.1 e)

pub table_in_order : (tables : List (List (List Value))) (t : ℕ) → list_all is_ordered tables ≡ true → is_ordered (rows_at tables t) ≡ true
table_in_order tables t h = rows_in_order tables t h

-- all tables, where one of them has a row more
pub ordered_with_row : (columns : List ColumnDef) (tables : List (List (List Value))) (t : ℕ) (row : List Value) → list_all is_ordered tables ≡ true → has_number_key row ≡ true
    → insert_error columns (rows_at tables t) row ≡ None → list_all is_ordered (slice_set tables t (put_row (rows_at tables t) row)) ≡ true
ordered_with_row columns tables t row h keyed none = all_set tables t _ h (with_row columns (rows_at tables t) row keyed (rows_in_order tables t h) none)
