-- The lines of tables and indexes leave what is good.
use Rattle.std.proofs.Common.{◌≡◌, ℕ, zero, suc, ◌+◌, ◌≤◌, Bool, true, not, ◌&&◌, ◌||◌, ◌==◌, nat_le, nat_lt, Option, Some, None, option_map, unwrap_or, Ok, List, [], ◌∷◌, ◌++◌, length, map, refl, ap, sym, ◌∙◌, subst, arith, length-append}
use Rattle.std.specs.Prelude.{slice_get, slice_set, is_some, is_none}
use Rattle.std.specs.List.{list_all, list_any, zip}
use Rattle.std.proofs.lemmas.Bool.{and_from, and_parts, eqb-true, eq-eqb, or_parts, ltb-false, le-leb}
use Rattle.std.proofs.lemmas.List.{length-map}
use Rattle.std.proofs.lemmas.List.Folds.{list_all-append}
use Rattle.hr_base.specs.Lists.{when}
use Rattle.hr_base.specs.declared.limits.TheConstants.{MAX_COLUMNS}
use Rattle.hr_rel.specs.declared.value.Value.{Value}
use Rattle.hr_rel.specs.declared.catalog.Catalog.{Catalog}
use Rattle.hr_rel.specs.declared.catalog.TableDef.{TableDef}
use Rattle.hr_rel.specs.declared.catalog.ColumnDef.{ColumnDef}
use Rattle.hr_rel.specs.Kinds.{is_of_kind, refuses}
use Rattle.hr_rel.specs.Holds.{row_holds, is_ordered, table_holds, has_key_column}
use Rattle.hr_statement_laws.proofs.Fitting.{size_set}
use Rattle.hr_line.specs.declared.name.LineName.{LineName}
use Rattle.hr_forms.specs.declared.column.ColumnForm.{ColumnForm}
use Rattle.hr_said.specs.declared.limits.TheConstants.{MAX_TABLES}
use Rattle.hr_said.specs.declared.said.Said.{Said}
use Rattle.hr_said.specs.declared.error.InputKind.TheVariants as kind
use Rattle.hr_said.specs.Limits.{may_stand, is_too_long}
use Rattle.hr_said.specs.Tables.{table, table_refusal, table_def, table_named, column_def, column_too_long, any_again, with_table, index, index_refusal, column_in, is_key, is_indexed, indexed, with_indexed, with_columns, with_index_in}
use Rattle.hr_runnable.proofs.SoFar.{IsGood, AreHeld}
use Rattle.hr_runnable.proofs.Refusals.{unless_good, passes, is_so, behind}
use Rattle.hr_runnable.proofs.FormLemmas.{has_key}
use Rattle.hr_runnable.proofs.HeadLemmas.{later_sized, later_choices}

-- the rows of a table hold in it
abbrev table_fits : TableDef × List (List Value) → Bool
table_fits p = table_holds p.0.columns p.1

-- ---- a table more

key_kept : (columns : List ColumnForm) → has_key columns ≡ true → has_key_column (map column_def columns) ≡ true
key_kept [] e = cc
key_kept (c ∷ columns) e = e

-- a table without rows, behind the others
fits_more : (defs : List TableDef) (tables : List (List (List Value))) (d : TableDef) → length tables ≡ length defs → list_all table_fits (zip defs tables) ≡ true
    → list_all table_fits (zip (defs ++ d ∷ []) (tables ++ [] ∷ [])) ≡ true
fits_more [] [] d size h = refl
fits_more [] (rows ∷ tables) d size h = absurd (omega (arith, size))
fits_more (x ∷ defs) [] d size h = absurd (omega (arith, size))
fits_more (x ∷ defs) (rows ∷ tables) d size h =
    let parts = and_parts (table_fits (x, rows)) (list_all table_fits (zip defs tables)) h in
    and_from (table_fits (x, rows)) (list_all table_fits (zip (defs ++ d ∷ []) (tables ++ [] ∷ []))) parts.0 (fits_more defs tables d (omega (arith, size)) parts.1)

-- one more of what all are
all_and_one : {X : Type 0} (p : X → Bool) (xs : List X) (x : X) → list_all p xs ≡ true → p x ≡ true → list_all p (xs ++ x ∷ []) ≡ true
all_and_one p xs x h e = list_all-append p xs (x ∷ []) ∙ and_from (list_all p xs) (p x && true) h (and_from (p x) true e refl)

one_longer : {X Y : Type 0} (xs : List X) (ys : List Y) (x : X) (y : Y) → length xs ≡ length ys → length (xs ++ x ∷ []) ≡ length (ys ++ y ∷ [])
one_longer xs ys x y e = length-append xs (x ∷ []) ∙ ap (λ (n : ℕ). n + 1) e ∙ sym (length-append ys (y ∷ []))

with_table_held : (catalog : Catalog) (rows : List (List (List Value))) (name : LineName) (columns : List ColumnForm) → AreHeld catalog rows → has_key columns ≡ true → length columns ≤ MAX_COLUMNS
    → AreHeld (with_table catalog (table_def name columns)) (rows ++ [] ∷ [])
with_table_held catalog rows name columns h key few =
    let d = table_def name columns in
    let parts = and_parts (length rows == length catalog.tables) (list_all table_fits (zip catalog.tables rows)) h.holds in
    let size = eqb-true (length rows) (length catalog.tables) parts.0 in
    let narrow : length (map column_def columns) ≤ MAX_COLUMNS = subst (λ (n : ℕ). n ≤ MAX_COLUMNS) (sym (length-map columns column_def)) few in
    record {
      sound = record {
        keys = all_and_one (λ (t : TableDef). has_key_column t.columns) catalog.tables d h.sound.keys (key_kept columns key);
        columns = all_and_one (λ (t : TableDef). nat_le (length t.columns) MAX_COLUMNS) catalog.tables d h.sound.columns (le-leb (length (map column_def columns)) MAX_COLUMNS narrow);
      };
      holds = and_from (length (rows ++ [] ∷ []) == length (catalog.tables ++ d ∷ [])) (list_all table_fits (zip (catalog.tables ++ d ∷ []) (rows ++ [] ∷ [])))
          (eq-eqb (length (rows ++ [] ∷ [])) (length (catalog.tables ++ d ∷ [])) (one_longer rows catalog.tables [] d size))
          (fits_more catalog.tables rows d size parts.1);
    }

-- ---- an index

-- the columns with an index on the one at a place, if there is one
abbrev index_at : List ColumnDef → ℕ → List ColumnDef
index_at [] c = []
index_at (d ∷ columns) zero = indexed d ∷ columns
index_at (d ∷ columns) (suc c) = d ∷ index_at columns c

indexed_behind : (d : ColumnDef) (columns : List ColumnDef) (c : ℕ) (o : Option ColumnDef) → with_indexed (d ∷ columns) (suc c) o ≡ d ∷ with_indexed columns c o
indexed_behind d columns c None = refl
indexed_behind d columns c (Some column) = refl

indexed_at : (columns : List ColumnDef) (c : ℕ) → with_indexed columns c (slice_get columns c) ≡ index_at columns c
indexed_at [] c = refl
indexed_at (d ∷ columns) zero = refl
indexed_at (d ∷ columns) (suc c) = indexed_behind d columns c (slice_get columns c) ∙ ap (λ (l : List ColumnDef). d ∷ l) (indexed_at columns c)

-- an index changes neither how many columns there are, nor their kinds, nor where NULL may stand
same_count : (columns : List ColumnDef) (c : ℕ) → length (index_at columns c) ≡ length columns
same_count [] c = refl
same_count (d ∷ columns) zero = refl
same_count (d ∷ columns) (suc c) = ap suc (same_count columns c)

same_key : (columns : List ColumnDef) (c : ℕ) → has_key_column (index_at columns c) ≡ has_key_column columns
same_key [] c = refl
same_key (d ∷ columns) zero = refl
same_key (d ∷ columns) (suc c) = refl

abbrev is_cell : ColumnDef × Value → Bool
is_cell p = is_of_kind p.0.kind p.1

same_kinds : (columns : List ColumnDef) (c : ℕ) (row : List Value) → list_all is_cell (zip (index_at columns c) row) ≡ list_all is_cell (zip columns row)
same_kinds [] c row = refl
same_kinds (d ∷ columns) zero [] = refl
same_kinds (d ∷ columns) (suc c) [] = refl
same_kinds (d ∷ columns) zero (v ∷ row) = refl
same_kinds (d ∷ columns) (suc c) (v ∷ row) = ap (λ (b : Bool). is_cell (d, v) && b) (same_kinds columns c row)

same_nulls : (columns : List ColumnDef) (c : ℕ) (row : List Value) → list_any refuses (zip (index_at columns c) row) ≡ list_any refuses (zip columns row)
same_nulls [] c row = refl
same_nulls (d ∷ columns) zero [] = refl
same_nulls (d ∷ columns) (suc c) [] = refl
same_nulls (d ∷ columns) zero (v ∷ row) = refl
same_nulls (d ∷ columns) (suc c) (v ∷ row) = ap (λ (b : Bool). refuses (d, v) || b) (same_nulls columns c row)

same_row : (columns : List ColumnDef) (c : ℕ) (row : List Value) → row_holds (index_at columns c) row ≡ row_holds columns row
same_row columns c row = λ i. (length row == same_count columns c i) && same_kinds columns c row i && not (same_nulls columns c row i)

same_rows : (columns : List ColumnDef) (c : ℕ) (rows : List (List Value)) → list_all (row_holds (index_at columns c)) rows ≡ list_all (row_holds columns) rows
same_rows columns c [] = refl
same_rows columns c (row ∷ rows) = λ i. same_row columns c row i && same_rows columns c rows i

-- a table in the place of another of which a test says the same
set_alike : {X : Type 0} (p : X → Bool) (xs : List X) (i : ℕ) (x new : X) → slice_get xs i ≡ Some x → p new ≡ p x → list_all p (slice_set xs i new) ≡ list_all p xs
set_alike p [] i x new at e = refl
set_alike p (y ∷ ys) zero x new at e =
    let same : x ≡ y = cc in
    ap (λ (b : Bool). b && list_all p ys) (e ∙ ap p same)
set_alike p (y ∷ ys) (suc i) x new at e = ap (λ (b : Bool). p y && b) (set_alike p ys i x new at e)

tables_alike : (defs : List TableDef) (t : ℕ) (tables : List (List (List Value))) (d new : TableDef) → slice_get defs t ≡ Some d
    → ((rows : List (List Value)) → table_fits (new, rows) ≡ table_fits (d, rows)) → list_all table_fits (zip (slice_set defs t new) tables) ≡ list_all table_fits (zip defs tables)
tables_alike [] t tables d new at same = refl
tables_alike (x ∷ defs) zero [] d new at same = refl
tables_alike (x ∷ defs) (suc t) [] d new at same = refl
tables_alike (x ∷ defs) zero (rows ∷ tables) d new at same =
    let there : d ≡ x = cc in
    ap (λ (b : Bool). b && list_all table_fits (zip defs tables)) (same rows ∙ ap (λ (y : TableDef). table_fits (y, rows)) there)
tables_alike (x ∷ defs) (suc t) (rows ∷ tables) d new at same = ap (λ (b : Bool). table_fits (x, rows) && b) (tables_alike defs t tables d new at same)

module _ (catalog : Catalog) (rows : List (List (List Value))) (h : AreHeld catalog rows) where
  -- the catalog with an index in one of its tables
  set_held : (t c : ℕ) (d : TableDef) → slice_get catalog.tables t ≡ Some d → AreHeld (record { tables = slice_set catalog.tables t (record d { columns = index_at d.columns c }) }) rows
  set_held t c d at =
      let new : TableDef = record d { columns = index_at d.columns c } in
      let parts = and_parts (length rows == length catalog.tables) (list_all table_fits (zip catalog.tables rows)) h.holds in
      record {
        sound = record {
          keys = set_alike (λ (t : TableDef). has_key_column t.columns) catalog.tables t d new at (same_key d.columns c) ∙ h.sound.keys;
          columns = set_alike (λ (t : TableDef). nat_le (length t.columns) MAX_COLUMNS) catalog.tables t d new at (ap (λ (n : ℕ). nat_le n MAX_COLUMNS) (same_count d.columns c)) ∙ h.sound.columns;
        };
        holds = and_from (length rows == length (slice_set catalog.tables t new)) (list_all table_fits (zip (slice_set catalog.tables t new) rows))
            (ap (λ (n : ℕ). length rows == n) (size_set catalog.tables t new) ∙ parts.0)
            (tables_alike catalog.tables t rows d new at (λ own. ap (λ (b : Bool). b && is_ordered own) (same_rows d.columns c own)) ∙ parts.1);
      }

  abbrev with_columns_in : ℕ → ℕ → Option TableDef → Catalog
  with_columns_in t c o =
      let columns : List ColumnDef = unwrap_or (option_map (λ (d : TableDef). d.columns) o) [] in
      with_columns catalog t o (with_indexed columns c (slice_get columns c))

  indexed_held : (t c : ℕ) (o : Option TableDef) → slice_get catalog.tables t ≡ o → AreHeld (with_columns_in t c o) rows
  indexed_held t c None at = h
  indexed_held t c (Some d) at =
      subst (λ (columns : List ColumnDef). AreHeld (record { tables = slice_set catalog.tables t (record d { columns = columns }) }) rows) (sym (indexed_at d.columns c)) (set_held t c d at)

  with_index_held : (at : Option (ℕ × ℕ)) → AreHeld (with_index_in catalog at) rows
  with_index_held None = h
  with_index_held (Some at) = indexed_held at.0 at.1 (slice_get catalog.tables at.0) refl

-- ---- lines

module _ (said : Said) (h : IsGood said) where
  pub table_good : (name : LineName) (columns : List ColumnForm) (next : Said) → has_key columns ≡ true → table said name columns ≡ Ok next → IsGood next
  table_good name columns next key e = unless_good (table_refusal said name columns) _ next stands e
    where
      stands : table_refusal said name columns ≡ None → IsGood (record said { part = 5; catalog = with_table said.catalog (table_def name columns); rows = said.rows ++ [] ∷ [] })
      stands none =
          let repeated = when (is_some (table_named said.catalog name) || any_again columns) kind.Repeated in
          let names = is_too_long name || list_any (λ c. column_too_long c) columns in
          let many = nat_lt MAX_COLUMNS (length columns) in
          let full = nat_le MAX_TABLES (length said.catalog.tables) in
          let place = passes (not (may_stand said.part 5)) kind.Form (when (names || many || full) kind.Limit ∷ repeated ∷ []) none in
          let limit = passes (names || many || full) kind.Limit (repeated ∷ []) place.1 in
          let few = ltb-false MAX_COLUMNS (length columns) (or_parts names many (or_parts (names || many) full limit.0).0).1 in
          let late = behind said.part _ (is_so (may_stand said.part 5) place.0) in
          record {
            replicas = later_sized said h 5 late;
            named = h.named;
            sessions = h.sessions;
            tables = with_table_held said.catalog said.rows name columns h.tables key few;
            schedule = later_choices said h 5 (omega arith);
          }

  pub index_good : (name column : LineName) (next : Said) → index said name column ≡ Ok next → IsGood next
  index_good name column next e = unless_good (index_refusal said name column (column_in said.catalog name column)) _ next stands e
    where
      stands : index_refusal said name column (column_in said.catalog name column) ≡ None
          → IsGood (record said { part = 5; catalog = with_index_in said.catalog (column_in said.catalog name column) })
      stands none =
          let at = column_in said.catalog name column in
          let unfit = when (is_too_long name || is_too_long column) kind.Limit ∷ when (is_none at) kind.Unknown ∷ when (is_indexed said.catalog at) kind.Repeated ∷ [] in
          let first = passes (not (may_stand said.part 5) || is_key at) kind.Form unfit none in
          let place = or_parts (not (may_stand said.part 5)) (is_key at) first.0 in
          let late = behind said.part _ (is_so (may_stand said.part 5) place.0) in
          record {
            replicas = later_sized said h 5 late;
            named = h.named;
            sessions = h.sessions;
            tables = with_index_held said.catalog said.rows h.tables at;
            schedule = later_choices said h 5 (omega arith);
          }
