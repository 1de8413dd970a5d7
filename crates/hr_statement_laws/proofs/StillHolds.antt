-- Rows that fit their catalog do so after every statement.
use Rattle.std.proofs.Common.{◌≡◌, ℕ, zero, suc, ◌+◌, ◌==◌, ℤ, Bool, true, false, ◌&&◌, cond, not, nat_lt, length, List, [], ◌∷◌, refl, ap, sym, ◌∙◌, arith, lt-ltb, ltb-true, eqb-true}
use Rattle.std.specs.Prelude.{Option, Some, None, Result, Ok, Err, insert, position, unwrap_or, slice_get, slice_set}
use Rattle.std.specs.Option.{option_map}
use Rattle.std.specs.List.{list_all, list_any, zip, position_or_len}
use Rattle.std.proofs.lemmas.Bool.{and_from, and_parts}
use Rattle.hr_base.specs.Lists.{is_empty}
use Rattle.hr_rel.specs.declared.value.Value.{Value}
use Rattle.hr_rel.specs.declared.answer.RunError.{RunError}
use Rattle.hr_rel.specs.declared.answer.RunError.TheVariants.{NullRefused}
use Rattle.hr_rel.specs.declared.catalog.Catalog.{Catalog}
use Rattle.hr_rel.specs.declared.catalog.TableDef.{TableDef}
use Rattle.hr_rel.specs.declared.catalog.ColumnDef.{ColumnDef}
use Rattle.hr_rel.specs.declared.stmt.Stmt.{Stmt}
use Rattle.hr_rel.specs.declared.stmt.Stmt.TheVariants as stmt
use Rattle.hr_rel.specs.declared.stmt.InsertStmt.{InsertStmt}
use Rattle.hr_rel.specs.declared.stmt.UpdateStmt.{UpdateStmt}
use Rattle.hr_rel.specs.Database.{Database, columns_of, rows_of, key_of}
use Rattle.hr_rel.specs.Kinds.{refuses}
use Rattle.hr_rel.specs.Holds.{row_fits, row_holds, is_ordered, table_holds, holds, IsSound, IsOrdered}
use Rattle.hr_rel.specs.Fit.{entries_of, has_table, filter_fits, set_fits, assign_apart, fits}
use Rattle.hr_meaning.specs.Truth.{is_kept}
use Rattle.hr_meaning.specs.Value.{and_then, each}
use Rattle.hr_meaning.specs.Insert.{null_refused, duplicate_key, insert_error, put_row, with_row, inserted, place_for, comes_after}
use Rattle.hr_meaning.specs.Exec.{exec, meaning, changed, updated, other_rows}
use Rattle.hr_statement_laws.proofs.Shape.{by_fit, keeps_catalog}
use Rattle.hr_statement_laws.proofs.Ascending.{put, put_is, all_put, all_filtered}
use Rattle.hr_statement_laws.proofs.Ordered.{unless_ok, both_none, none_by, position_none, keeps_order}
use Rattle.hr_statement_laws.proofs.Fitting.{updated_holds, nor, size_set}

-- ---- INSERT

rest_by : {X : Type 0} (p : X → Bool) (xs : List X) (k : ℕ) (b : Bool) → b ≡ false → cond (nat_lt (cond (not b) (1 + k) 0) (suc (length xs))) (Some (cond (not b) (1 + k) 0)) None ≡ None
    → cond (nat_lt k (length xs)) (Some k) None ≡ None
rest_by p xs k true e h = cc
rest_by p xs k false e h = by_test (nat_lt k (length xs)) refl
  where
    by_test : (c : Bool) → nat_lt k (length xs) ≡ c → cond c (Some k) None ≡ None
    by_test false f = refl
    by_test true f =
        let less = ltb-true k (length xs) f in
        let within : nat_lt (1 + k) (suc (length xs)) ≡ true = lt-ltb (1 + k) (suc (length xs)) (omega (arith, less)) in
        let there : ◌≡◌ {A = Option ℕ} (Some (1 + k)) None = sym (ap (λ (c : Bool). cond c (Some (1 + k)) None) within) ∙ h in
        cc

-- where the first that passes isn't there, none passes
none_passes : {X : Type 0} (p : X → Bool) (xs : List X) → position p xs ≡ None → list_any p xs ≡ false
none_passes p [] e = refl
none_passes p (x ∷ xs) e =
    let first = position_none p x xs e in
    nor (p x) (list_any p xs) first (none_passes p xs (rest_by p xs (position_or_len p xs) (p x) first e))

put_all_by : (q : List Value → Bool) (table : List (List Value)) (row : List Value) (k : Option ℤ) → q row ≡ true → list_all q table ≡ true
    → list_all q (insert table (unwrap_or (option_map (place_for table) k) (length table)) row) ≡ true
put_all_by q table row (Some n) e h = ap (list_all q) (put_is (comes_after n) row table) ∙ all_put (comes_after n) row q table e h
put_all_by q table row None e h = ap (list_all q) (at_end table) ∙ all_put (λ r. false) row q table e h
  where
    at_end : (rows : List (List Value)) → insert rows (length rows) row ≡ put (λ r. false) row rows
    at_end [] = refl
    at_end (r ∷ rows) = ap (λ (l : List (List Value)). r ∷ l) (at_end rows)

module _ (columns : List ColumnDef) where
  with_row_holds : (table : List (List Value)) (row : List Value) (next : List (List Value)) → row_fits columns row ≡ true → list_all (row_holds columns) table ≡ true
      → with_row columns table row ≡ Ok next → list_all (row_holds columns) next ≡ true
  with_row_holds table row next fit h e =
      let made = unless_ok (insert_error columns table row) (put_row table row) next e in
      let errors = both_none (null_refused columns row) (duplicate_key table row) made.0 in
      let free = none_passes refuses (zip columns row) (none_by (λ (i : ℕ). NullRefused (i + 1)) (position refuses (zip columns row)) errors.0) in
      let one : row_holds columns row ≡ true = and_from (row_fits columns row) (not (list_any refuses (zip columns row))) fit (ap not free) in
      ap (list_all (row_holds columns)) (sym made.1) ∙ put_all_by (row_holds columns) table row (key_of row) one h

  inserted_by : (rest : List (List Value)) (r : Result (List (List Value)) RunError) (new : List (List Value)) → ((next : List (List Value)) → r ≡ Ok next → list_all (row_holds columns) next ≡ true)
      → ((next : List (List Value)) → list_all (row_holds columns) next ≡ true → inserted columns next rest ≡ Ok new → list_all (row_holds columns) new ≡ true)
      → and_then r (λ next. inserted columns next rest) ≡ Ok new → list_all (row_holds columns) new ≡ true
  inserted_by rest (Err d) new one others e = cc
  inserted_by rest (Ok next) new one others e = others next (one next refl) e

  inserted_holds : (table rows new : List (List Value)) → list_all (row_fits columns) rows ≡ true → list_all (row_holds columns) table ≡ true → inserted columns table rows ≡ Ok new
      → list_all (row_holds columns) new ≡ true
  inserted_holds table [] new fit h e = ap (list_all (row_holds columns)) same ∙ h
    where
      same : new ≡ table
      same = cc
  inserted_holds table (row ∷ rows) new fit h e =
      let parts = and_parts (row_fits columns row) (list_all (row_fits columns) rows) fit in
      inserted_by rows (with_row columns table row) new (λ next was. with_row_holds table row next parts.0 h was) (λ next on more. inserted_holds next rows new parts.1 on more) e

-- ---- UPDATE

module _ (q : List Value → Bool) (f : List Value → Result (List Value) RunError) (keeps : (row new : List Value) → q row ≡ true → f row ≡ Ok new → q new ≡ true) where
  each_by : (r : Result (List Value) RunError) (rest : Result (List (List Value)) RunError) (new : List (List Value)) → ((one : List Value) → r ≡ Ok one → q one ≡ true)
      → ((more : List (List Value)) → rest ≡ Ok more → list_all q more ≡ true) → and_then r (λ y. and_then rest (λ ys. Ok (y ∷ ys))) ≡ Ok new → list_all q new ≡ true
  each_by (Err d) rest new one others e = cc
  each_by (Ok y) (Err d) new one others e = cc
  each_by (Ok y) (Ok ys) [] one others e = cc
  each_by (Ok y) (Ok ys) (z ∷ zs) one others e =
      let head : z ≡ y = cc in
      let tail : zs ≡ ys = cc in
      and_from (q z) (list_all q zs) (ap q head ∙ one y refl) (ap (list_all q) tail ∙ others ys refl)

  each_holds : (rows new : List (List Value)) → list_all q rows ≡ true → each f rows ≡ Ok new → list_all q new ≡ true
  each_holds [] [] h e = refl
  each_holds [] (y ∷ new) h e = cc
  each_holds (row ∷ rows) new h e =
      let parts = and_parts (q row) (list_all q rows) h in
      each_by (f row) (each f rows) new (λ one was. keeps row one parts.0 was) (λ more was. each_holds rows more parts.1 was) e

-- ---- tables

abbrev fits_table : TableDef × List (List Value) → Bool
fits_table p = table_holds p.0.columns p.1

abbrev columns_in : List TableDef → ℕ → List ColumnDef
columns_in tables t = unwrap_or (option_map (λ (d : TableDef). d.columns) (slice_get tables t)) []

-- the rows of the table with a number fit its columns
rows_at : (defs : List TableDef) (tables : List (List (List Value))) (t : ℕ) → length tables ≡ length defs → list_all fits_table (zip defs tables) ≡ true
    → list_all (row_holds (columns_in defs t)) (unwrap_or (slice_get tables t) []) ≡ true
rows_at [] [] t size h = refl
rows_at [] (rows ∷ tables) t size h = absurd (omega (arith, size))
rows_at (d ∷ defs) [] t size h = absurd (omega (arith, size))
rows_at (d ∷ defs) (rows ∷ tables) zero size h =
    (and_parts (list_all (row_holds d.columns) rows) (is_ordered rows) (and_parts (fits_table (d, rows)) (list_all fits_table (zip defs tables)) h).0).0
rows_at (d ∷ defs) (rows ∷ tables) (suc t) size h =
    rows_at defs tables t (omega (arith, size)) (and_parts (fits_table (d, rows)) (list_all fits_table (zip defs tables)) h).1

are_ordered : (defs : List TableDef) (tables : List (List (List Value))) → length tables ≡ length defs → list_all fits_table (zip defs tables) ≡ true → list_all is_ordered tables ≡ true
are_ordered [] [] size h = refl
are_ordered [] (rows ∷ tables) size h = absurd (omega (arith, size))
are_ordered (d ∷ defs) [] size h = refl
are_ordered (d ∷ defs) (rows ∷ tables) size h =
    let parts = and_parts (fits_table (d, rows)) (list_all fits_table (zip defs tables)) h in
    and_from (is_ordered rows) (list_all is_ordered tables) (and_parts (list_all (row_holds d.columns) rows) (is_ordered rows) parts.0).1 (are_ordered defs tables (omega (arith, size)) parts.1)

-- other rows in one of the tables
table_set : (defs : List TableDef) (tables : List (List (List Value))) (t : ℕ) (rows : List (List Value)) → list_all fits_table (zip defs tables) ≡ true
    → list_all (row_holds (columns_in defs t)) rows ≡ true → list_all is_ordered (slice_set tables t rows) ≡ true → list_all fits_table (zip defs (slice_set tables t rows)) ≡ true
table_set [] tables t rows h new ordered = refl
table_set (d ∷ defs) [] t rows h new ordered = refl
table_set (d ∷ defs) (old ∷ tables) zero rows h new ordered =
    and_from (fits_table (d, rows)) (list_all fits_table (zip defs tables))
    (and_from (list_all (row_holds d.columns) rows) (is_ordered rows) new (and_parts (is_ordered rows) (list_all is_ordered tables) ordered).0)
    (and_parts (fits_table (d, old)) (list_all fits_table (zip defs tables)) h).1
table_set (d ∷ defs) (old ∷ tables) (suc t) rows h new ordered =
    let parts = and_parts (fits_table (d, old)) (list_all fits_table (zip defs tables)) h in
    and_from (fits_table (d, old)) (list_all fits_table (zip defs (slice_set tables t rows))) parts.0
    (table_set defs tables t rows parts.1 new (and_parts (is_ordered old) (list_all is_ordered (slice_set tables t rows)) ordered).1)

-- ---- statements

-- a sound catalog and rows that fit it
abbrev Fits : Database → Type 0
Fits db = IsSound db.catalog × (holds db.catalog db.tables ≡ true)

in_order : (db : Database) → Fits db → IsOrdered db
in_order db h =
    let parts = and_parts (length db.tables == length db.catalog.tables) (list_all fits_table (zip db.catalog.tables db.tables)) h.1 in
    let size = eqb-true (length db.tables) (length db.catalog.tables) parts.0 in
    record { sound = h.0; tables = size; ordered = are_ordered db.catalog.tables db.tables size parts.1 }

changed_holds : (db : Database) (t n : ℕ) (r : Result (List (List Value)) RunError) → Fits db → IsOrdered (changed db t n r).after
    → ((rows : List (List Value)) → r ≡ Ok rows → list_all (row_holds (columns_of db.catalog t)) rows ≡ true) → holds db.catalog (changed db t n r).after.tables ≡ true
changed_holds db t n (Err d) h order new = h.1
changed_holds db t n (Ok rows) h order new =
    let parts = and_parts (length db.tables == length db.catalog.tables) (list_all fits_table (zip db.catalog.tables db.tables)) h.1 in
    and_from (length (slice_set db.tables t rows) == length db.catalog.tables) (list_all fits_table (zip db.catalog.tables (slice_set db.tables t rows)))
    (ap (λ (k : ℕ). k == length db.catalog.tables) (size_set db.tables t rows) ∙ parts.0)
    (table_set db.catalog.tables db.tables t rows parts.1 (new rows refl) order.ordered)

module _ (db : Database) (h : Fits db) where
  rows_fit : (t : ℕ) → list_all (row_holds (columns_of db.catalog t)) (rows_of db t) ≡ true
  rows_fit t =
      let parts = and_parts (length db.tables == length db.catalog.tables) (list_all fits_table (zip db.catalog.tables db.tables)) h.1 in
      rows_at db.catalog.tables db.tables t (eqb-true (length db.tables) (length db.catalog.tables) parts.0) parts.1

  insert_holds : (s : InsertStmt) → fits db.catalog (stmt.Insert s) ≡ true → IsOrdered (meaning db (stmt.Insert s)).after → holds db.catalog (meaning db (stmt.Insert s)).after.tables ≡ true
  insert_holds s e order =
      let columns = columns_of db.catalog s.table in
      let rows = and_parts (has_table db.catalog s.table && not (is_empty s.rows)) (list_all (row_fits columns) s.rows) e in
      changed_holds db s.table (length s.rows) (inserted columns (rows_of db s.table) s.rows) h order
      (λ new was. inserted_holds columns (rows_of db s.table) s.rows new rows.1 (rows_fit s.table) was)

  update_holds : (s : UpdateStmt) → fits db.catalog (stmt.Update s) ≡ true → IsOrdered (meaning db (stmt.Update s)).after → holds db.catalog (meaning db (stmt.Update s)).after.tables ≡ true
  update_holds s e order =
      let entries = entries_of db.catalog (s.table ∷ []) in
      let columns = columns_of db.catalog s.table in
      let front = (and_parts (has_table db.catalog s.table && not (is_empty s.sets) && list_all (set_fits entries) s.sets && assign_apart s.sets) (filter_fits entries s.filter) e).0 in
      let sets = (and_parts (has_table db.catalog s.table && not (is_empty s.sets) && list_all (set_fits entries) s.sets) (assign_apart s.sets) front).0 in
      let fit = (and_parts (has_table db.catalog s.table && not (is_empty s.sets)) (list_all (set_fits entries) s.sets) sets).1 in
      changed_holds db s.table _ (each (updated columns s) (rows_of db s.table)) h order
      (λ new was. each_holds (row_holds columns) (updated columns s) (updated_holds columns s fit) (rows_of db s.table) new (rows_fit s.table) was)

  meaning_holds : (s : Stmt) → fits db.catalog s ≡ true → IsOrdered (meaning db s).after → holds db.catalog (meaning db s).after.tables ≡ true
  meaning_holds (stmt.Select s) e order = h.1
  meaning_holds (stmt.Insert s) e order = insert_holds s e order
  meaning_holds (stmt.Update s) e order = update_holds s e order
  meaning_holds (stmt.Delete s) e order =
      let columns = columns_of db.catalog s.table in
      let left = all_filtered (row_holds columns) (λ row. not (is_kept s.filter (row ∷ []))) (rows_of db s.table) (rows_fit s.table) in
      let parts = and_parts (length db.tables == length db.catalog.tables) (list_all fits_table (zip db.catalog.tables db.tables)) h.1 in
      let rows = other_rows s.filter (rows_of db s.table) in
      and_from (length (slice_set db.tables s.table rows) == length db.catalog.tables) (list_all fits_table (zip db.catalog.tables (slice_set db.tables s.table rows)))
      (ap (λ (k : ℕ). k == length db.catalog.tables) (size_set db.tables s.table rows) ∙ parts.0)
      (table_set db.catalog.tables db.tables s.table rows parts.1 left order.ordered)

still_holds : (db : Database) (s : Stmt) → Fits db → IsOrdered (exec db s).after → holds db.catalog (exec db s).after.tables ≡ true
still_holds db s h = by_fit (λ o. IsOrdered o.after → holds db.catalog o.after.tables ≡ true) db s (meaning_holds db h s) (λ order. h.1)

pub keeps_fitting : (db : Database) (s : Stmt) → IsSound db.catalog → holds db.catalog db.tables ≡ true → holds (exec db s).after.catalog (exec db s).after.tables ≡ true
keeps_fitting db s sound h =
    ap (λ (c : Catalog). holds c (exec db s).after.tables) (keeps_catalog db s) ∙ still_holds db s (sound, h) (keeps_order db s (in_order db (sound, h)))

-- rows that fit a sound catalog are in order
pub fitting_is_ordered : (db : Database) → IsSound db.catalog → holds db.catalog db.tables ≡ true → IsOrdered db
fitting_is_ordered db sound h = in_order db (sound, h)
