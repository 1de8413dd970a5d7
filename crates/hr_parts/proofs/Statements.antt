-- Parts that cover a statement are a footprint of it.
use Rattle.std.proofs.Common.{◌≡◌, ℕ, zero, suc, ◌+◌, ◌==◌, ℤ, Bool, true, false, ◌&&◌, ◌||◌, cond, not, nat_lt, nat_le, length, drop, List, [], ◌∷◌, filter, refl, ap, sym, ◌∙◌, arith, lt-ltb, ltb-true, eqb-true}
use Rattle.std.specs.Prelude.{Option, Some, None, Result, Ok, Err, unwrap_or, slice_get, slice_set}
use Rattle.std.specs.Option.{option_map}
use Rattle.std.specs.List.{list_all, list_any, find, zip}
use Rattle.std.proofs.lemmas.Bool.{and_from, and_parts, both_ways, false_from_ne_true, eqb-false}
use Rattle.hr_base.specs.Lists.{is_empty}
use Rattle.hr_base.specs.declared.limits.TheConstants.{MAX_COLUMNS}
use Rattle.hr_rel.specs.declared.value.Value.{Value}
use Rattle.hr_rel.specs.declared.value.Value.TheVariants as value
use Rattle.hr_rel.specs.declared.answer.Answer.{Answer}
use Rattle.hr_rel.specs.declared.answer.Answer.TheVariants.{Count, Failed}
use Rattle.hr_rel.specs.declared.answer.RunError.{RunError}
use Rattle.hr_rel.specs.declared.answer.RunError.TheVariants.{Unfit}
use Rattle.hr_rel.specs.declared.catalog.Catalog.{Catalog}
use Rattle.hr_rel.specs.declared.catalog.TableDef.{TableDef}
use Rattle.hr_rel.specs.declared.catalog.ColumnDef.{ColumnDef}
use Rattle.hr_rel.specs.declared.catalog.ColKind.{ColKind}
use Rattle.hr_rel.specs.declared.catalog.ColKind.TheVariants as kind
use Rattle.hr_rel.specs.declared.expr.Pred.{Pred}
use Rattle.hr_rel.specs.declared.stmt.Stmt.{Stmt}
use Rattle.hr_rel.specs.declared.stmt.Stmt.TheVariants as stmt
use Rattle.hr_rel.specs.declared.stmt.SelectStmt.{SelectStmt}
use Rattle.hr_rel.specs.declared.stmt.InsertStmt.{InsertStmt}
use Rattle.hr_rel.specs.declared.stmt.UpdateStmt.{UpdateStmt}
use Rattle.hr_rel.specs.declared.stmt.DeleteStmt.{DeleteStmt}
use Rattle.hr_rel.specs.Database.{Database, columns_of, rows_of, with_rows, key_of}
use Rattle.hr_rel.specs.Kinds.{fits_i64, same_kind, is_of_kind}
use Rattle.hr_rel.specs.Holds.{row_fits, is_key, has_number_key, has_key_column, ascends, is_ordered, IsOrdered}
use Rattle.hr_rel.specs.Fit.{entries_of, has_table, filter_fits, set_fits, assign_apart, fits}
use Rattle.hr_meaning.specs.Truth.{Tuple, is_kept}
use Rattle.hr_meaning.specs.Value.{each}
use Rattle.hr_meaning.specs.Select.{answer_from}
use Rattle.hr_meaning.specs.Insert.{has_key, inserted}
use Rattle.hr_meaning.specs.Exec.{Outcome, kept, exec, meaning, changed, failed, assigned, updated, kept_rows, other_rows}
use Rattle.hr_statement_laws.proofs.Ascending.{Ascending, from_test}
use Rattle.hr_statement_laws.proofs.Shape.{by_fit}
use Rattle.hr_parts.specs.Parts.{Part, covers, written, takes, lies, row_at, Agree}
use Rattle.hr_parts.specs.Footprints.{ChangesLie, new_lies, Covers}
use Rattle.hr_parts.proofs.Cover.{written_covered}
use Rattle.hr_parts.proofs.Rows.{found_in, same_part}
use Rattle.hr_parts.proofs.Tuples.{part_rows, same_kept}
use Rattle.hr_parts.proofs.Changes.{past_keys, updated_keys, part_of, part_each, found_each, filters_swap, narrower, found_left, part_inserted, found_inserted}

-- ---- tables of a database

at_set : (tables : List (List (List Value))) (t : ℕ) (rows : List (List Value)) → nat_lt t (length tables) ≡ true → unwrap_or (slice_get (slice_set tables t rows) t) [] ≡ rows
at_set [] t rows e = let none = ltb-true t 0 e in absurd (omega (arith, none))
at_set (old ∷ tables) zero rows e = refl
at_set (old ∷ tables) (suc t) rows e = let more = ltb-true (suc t) (suc (length tables)) e in at_set tables t rows (lt-ltb t (length tables) (omega (arith, more)))

at_other : (tables : List (List (List Value))) (t u : ℕ) (rows : List (List Value)) → (t ≡ u → ⊥) → unwrap_or (slice_get (slice_set tables t rows) u) [] ≡ unwrap_or (slice_get tables u) []
at_other [] t u rows ne = refl
at_other (old ∷ tables) zero zero rows ne = absurd (ne refl)
at_other (old ∷ tables) zero (suc u) rows ne = refl
at_other (old ∷ tables) (suc t) zero rows ne = refl
at_other (old ∷ tables) (suc t) (suc u) rows ne = at_other tables t u rows (λ e. ne (ap suc e))

ordered_at : (tables : List (List (List Value))) (t : ℕ) → list_all is_ordered tables ≡ true → is_ordered (unwrap_or (slice_get tables t) []) ≡ true
ordered_at [] t h = refl
ordered_at (rows ∷ tables) zero h = (and_parts (is_ordered rows) (list_all is_ordered tables) h).0
ordered_at (rows ∷ tables) (suc t) h = ordered_at tables t (and_parts (is_ordered rows) (list_all is_ordered tables) h).1

defined_at : (P : List ColumnDef → Bool) (defs : List TableDef) (t : ℕ) → nat_lt t (length defs) ≡ true → list_all (λ (d : TableDef). P d.columns) defs ≡ true
    → P (unwrap_or (option_map (λ (d : TableDef). d.columns) (slice_get defs t)) []) ≡ true
defined_at P [] t e h = let none = ltb-true t 0 e in absurd (omega (arith, none))
defined_at P (d ∷ defs) zero e h = (and_parts (P d.columns) (list_all (λ (d : TableDef). P d.columns) defs) h).0
defined_at P (d ∷ defs) (suc t) e h =
    let more = ltb-true (suc t) (suc (length defs)) e in
    defined_at P defs t (lt-ltb t (length defs) (omega (arith, more))) (and_parts (P d.columns) (list_all (λ (d : TableDef). P d.columns) defs) h).1

pub in_order : (db : Database) → IsOrdered db → (t : ℕ) → is_ordered (rows_of db t) ≡ true
in_order db h t = ordered_at db.tables t h.ordered

pub ascending : (db : Database) → IsOrdered db → (t : ℕ) → Ascending (rows_of db t)
ascending db h t = from_test (rows_of db t) (in_order db h t)

numbered : (db : Database) → IsOrdered db → (t : ℕ) → list_all has_number_key (rows_of db t) ≡ true
numbered db h t = (and_parts (list_all has_number_key (rows_of db t)) (list_all ascends (zip (rows_of db t) (drop 1 (rows_of db t)))) (in_order db h t)).0

-- ---- a table gets other rows

abbrev answer_of : ℕ → Result (List (List Value)) RunError → Answer
answer_of n (Ok rows) = Count n
answer_of n (Err e) = Failed e

changed_answer : (db : Database) (t n : ℕ) (c : ℤ → Bool) (r : Result (List (List Value)) RunError) → (changed db t n r).answer ≡ answer_of n (part_of c r)
changed_answer db t n c (Ok rows) = refl
changed_answer db t n c (Err e) = refl

same_ok : {X : Type 0} (x y : X) → ◌≡◌ {A = Result X RunError} (Ok x) (Ok y) → x ≡ y
same_ok x y e = cc

module _ (parts : List Part) (t : ℕ) where
  module _ (d e : Database) (order : IsOrdered d) (other : IsOrdered e) (agree : Agree parts d e) (there : nat_lt t (length d.catalog.tables) ≡ true) where
    here : nat_lt t (length d.tables) ≡ true
    here = ap (nat_lt t) order.tables ∙ there

    here_too : nat_lt t (length e.tables) ≡ true
    here_too = ap (nat_lt t) other.tables ∙ sym (ap (λ (c : Catalog). nat_lt t (length c.tables)) agree.catalog) ∙ there

    same_at : (rows others : List (List Value)) → filter (lies (covers parts t)) rows ≡ filter (lies (covers parts t)) others → (u : ℕ) (k : ℤ) → covers parts u k ≡ true
        → (b : Bool) → (t == u) ≡ b → row_at (with_rows d t rows) u k ≡ row_at (with_rows e t others) u k
    same_at rows others same u k in_parts true e1 =
        let one = eqb-true t u e1 in
        let covered : covers parts t k ≡ true = ap (λ (v : ℕ). covers parts v k) one ∙ in_parts in
        ap (λ (v : ℕ). row_at (with_rows d t rows) v k) (sym one) ∙ ap (find (has_key k)) (at_set d.tables t rows here)
        ∙ sym (found_in (covers parts t) k rows covered) ∙ ap (find (has_key k)) same ∙ found_in (covers parts t) k others covered
        ∙ sym (ap (λ (v : ℕ). row_at (with_rows e t others) v k) (sym one) ∙ ap (find (has_key k)) (at_set e.tables t others here_too))
    same_at rows others same u k in_parts false e1 =
        let ne = eqb-false t u e1 in
        ap (find (has_key k)) (at_other d.tables t u rows ne) ∙ agree.rows u k in_parts ∙ sym (ap (find (has_key k)) (at_other e.tables t u others ne))

    changed_agree : (m n : ℕ) (r s : Result (List (List Value)) RunError) → part_of (covers parts t) r ≡ part_of (covers parts t) s → Agree parts (changed d t m r).after (changed e t n s).after
    changed_agree m n (Ok rows) (Ok others) same = record {
      catalog = agree.catalog;
      rows = λ u k in_parts. same_at rows others (same_ok (filter (lies (covers parts t)) rows) (filter (lies (covers parts t)) others) same) u k in_parts (t == u) refl;
    }
    changed_agree m n (Ok rows) (Err e) same = cc
    changed_agree m n (Err e) (Ok rows) same = cc
    changed_agree m n (Err a) (Err b) same = agree

  -- what isn't covered stays, where the new rows keep it
  changed_frame : (db : Database) → IsOrdered db → nat_lt t (length db.catalog.tables) ≡ true → (n : ℕ) (r : Result (List (List Value)) RunError) (u : ℕ) (k : ℤ) → covers (written parts) u k ≡ false
      → ((rows : List (List Value)) → r ≡ Ok rows → covers (written parts) t k ≡ false → find (has_key k) rows ≡ find (has_key k) (rows_of db t))
      → row_at (changed db t n r).after u k ≡ row_at db u k
  changed_frame db order there n (Err e) u k out stays = refl
  changed_frame db order there n (Ok rows) u k out stays = by_test (t == u) refl
    where
      by_test : (b : Bool) → (t == u) ≡ b → row_at (with_rows db t rows) u k ≡ row_at db u k
      by_test true e =
          let one = eqb-true t u e in
          ap (λ (v : ℕ). row_at (with_rows db t rows) v k) (sym one) ∙ ap (find (has_key k)) (at_set db.tables t rows (ap (nat_lt t) order.tables ∙ there))
          ∙ stays rows refl (ap (λ (v : ℕ). covers (written parts) v k) one ∙ out) ∙ ap (λ (v : ℕ). row_at db v k) one
      by_test false e = ap (find (has_key k)) (at_other db.tables t u rows (eqb-false t u e))

-- ---- the condition of an UPDATE or a DELETE

takes_more : (parts : List Part) (t : ℕ) (o : Option ℤ) → takes (covers (written parts) t) o ≡ true → takes (covers parts t) o ≡ true
takes_more parts t None h = refl
takes_more parts t (Some k) h = written_covered t k parts h

module _ (parts : List Part) (t : ℕ) (condition : Option Pred) (covered : ChangesLie parts t condition) where
  abbrev passes : List Value → Bool
  passes row = is_kept condition (row ∷ [])

  passing_lies : (row : List Value) → has_number_key row ≡ true → passes row ≡ true → lies (covers parts t) row ≡ true
  passing_lies row key h = takes_more parts t (key_of row) (covered row key h)

  out_of_writes : (row : List Value) → has_number_key row ≡ true → lies (covers (written parts) t) row ≡ false → passes row ≡ false
  out_of_writes row key e = false_from_ne_true (passes row) (λ h. both_ways (lies (covers (written parts) t) row) e (covered row key h))

  out_of_parts : (row : List Value) → has_number_key row ≡ true → lies (covers parts t) row ≡ false → passes row ≡ false
  out_of_parts row key e = false_from_ne_true (passes row) (λ h. both_ways (lies (covers parts t) row) e (passing_lies row key h))

  same_count : (d e : Database) → IsOrdered d → IsOrdered e → part_rows parts d t ≡ part_rows parts e t → length (kept_rows condition (rows_of d t)) ≡ length (kept_rows condition (rows_of e t))
  same_count d e order other same =
      let one = narrower has_number_key (lies (covers parts t)) passes passing_lies in
      ap length (sym (one (rows_of d t) (numbered d order t)) ∙ ap (filter passes) same ∙ one (rows_of e t) (numbered e other t))

-- ---- the keys of new rows

int_fits : (k : ColKind) (n : ℤ) → is_of_kind k (value.Int n) ≡ true → fits_i64 n ≡ true
int_fits kind.Int n e = e
int_fits kind.Text n e = cc

implied : (b c : Bool) → (not b || c) ≡ true → b ≡ true → c ≡ true
implied true c h e = h
implied false c h e = cc

-- a new row that fits lies where it has to
new_row_lies : (c : ℤ → Bool) (columns : List ColumnDef) (row : List Value) → has_key_column columns ≡ true → row_fits columns row ≡ true → new_lies c row ≡ true → lies c row ≡ true
new_row_lies c [] row key fit h = cc
new_row_lies c (d ∷ columns) [] key fit h = refl
new_row_lies c (d ∷ columns) (value.Null ∷ row) key fit h = refl
new_row_lies c (d ∷ columns) (value.Text x ∷ row) key fit h = refl
new_row_lies c (d ∷ columns) (value.Int n ∷ row) key fit h =
    let kinds = and_parts (length (value.Int n ∷ row) == length (d ∷ columns)) (list_all (λ (p : ColumnDef × Value). is_of_kind p.0.kind p.1) (zip (d ∷ columns) (value.Int n ∷ row))) fit in
    let first = and_parts (is_of_kind d.kind (value.Int n)) (list_all (λ (p : ColumnDef × Value). is_of_kind p.0.kind p.1) (zip columns row)) kinds.1 in
    implied (fits_i64 n) (c n) h (int_fits d.kind n first.0)

new_rows_lie : (c : ℤ → Bool) (columns : List ColumnDef) (rows : List (List Value)) → has_key_column columns ≡ true → list_all (row_fits columns) rows ≡ true → list_all (new_lies c) rows ≡ true
    → list_all (lies c) rows ≡ true
new_rows_lie c columns [] key fit h = refl
new_rows_lie c columns (row ∷ rows) key fit h =
    let fits = and_parts (row_fits columns row) (list_all (row_fits columns) rows) fit in
    let all = and_parts (new_lies c row) (list_all (new_lies c) rows) h in
    and_from (lies c row) (list_all (lies c) rows) (new_row_lies c columns row key fits.0 all.0) (new_rows_lie c columns rows key fits.1 all.1)

all_take_more : (parts : List Part) (t : ℕ) (rows : List (List Value)) → list_all (lies (covers (written parts) t)) rows ≡ true → list_all (lies (covers parts t)) rows ≡ true
all_take_more parts t [] h = refl
all_take_more parts t (row ∷ rows) h =
    let all = and_parts (lies (covers (written parts) t) row) (list_all (lies (covers (written parts) t)) rows) h in
    and_from (lies (covers parts t) row) (list_all (lies (covers parts t)) rows) (takes_more parts t (key_of row) all.0) (all_take_more parts t rows all.1)

-- ---- INSERT

module _ (parts : List Part) (s : InsertStmt) (covered : Covers parts (stmt.Insert s)) where
  module _ (db : Database) (order : IsOrdered db) (fit : fits db.catalog (stmt.Insert s) ≡ true) where
    abbrev insert_columns : List ColumnDef
    insert_columns = columns_of db.catalog s.table

    insert_fit : (has_table db.catalog s.table && not (is_empty s.rows) ≡ true) × (list_all (row_fits insert_columns) s.rows ≡ true)
    insert_fit = and_parts (has_table db.catalog s.table && not (is_empty s.rows)) (list_all (row_fits insert_columns) s.rows) fit

    insert_there : has_table db.catalog s.table ≡ true
    insert_there = (and_parts (has_table db.catalog s.table) (not (is_empty s.rows)) insert_fit.0).0

    insert_key : has_key_column insert_columns ≡ true
    insert_key = defined_at has_key_column db.catalog.tables s.table insert_there order.sound.keys

    insert_lie : list_all (lies (covers (written parts) s.table)) s.rows ≡ true
    insert_lie = new_rows_lie (covers (written parts) s.table) insert_columns s.rows insert_key insert_fit.1 covered

    insert_part : part_of (covers parts s.table) (inserted insert_columns (rows_of db s.table) s.rows) ≡ inserted insert_columns (part_rows parts db s.table) s.rows
    insert_part = part_inserted insert_columns insert_key (defined_at (λ (columns : List ColumnDef). nat_le (length columns) MAX_COLUMNS) db.catalog.tables s.table insert_there order.sound.columns)
        (covers parts s.table) (rows_of db s.table) s.rows (ascending db order s.table) insert_fit.1 (all_take_more parts s.table s.rows insert_lie)

    insert_frame : (u : ℕ) (k : ℤ) → covers (written parts) u k ≡ false → row_at (meaning db (stmt.Insert s)).after u k ≡ row_at db u k
    insert_frame u k out = changed_frame parts s.table db order insert_there (length s.rows) (inserted insert_columns (rows_of db s.table) s.rows) u k out
        (λ rows was away. found_inserted insert_columns (covers (written parts) s.table) k away (rows_of db s.table) s.rows rows insert_lie was)

-- ---- UPDATE

module _ (parts : List Part) (s : UpdateStmt) (covered : Covers parts (stmt.Update s)) where
  module _ (db : Database) (order : IsOrdered db) (fit : fits db.catalog (stmt.Update s) ≡ true) where
    abbrev update_columns : List ColumnDef
    update_columns = columns_of db.catalog s.table

    update_sets : (has_table db.catalog s.table && not (is_empty s.sets) ≡ true) × (list_all (set_fits (entries_of db.catalog (s.table ∷ []))) s.sets ≡ true)
    update_sets =
        let entries = entries_of db.catalog (s.table ∷ []) in
        let front = (and_parts (has_table db.catalog s.table && not (is_empty s.sets) && list_all (set_fits entries) s.sets && assign_apart s.sets) (filter_fits entries s.filter) fit).0 in
        and_parts (has_table db.catalog s.table && not (is_empty s.sets)) (list_all (set_fits entries) s.sets)
        (and_parts (has_table db.catalog s.table && not (is_empty s.sets) && list_all (set_fits entries) s.sets) (assign_apart s.sets) front).0

    update_there : has_table db.catalog s.table ≡ true
    update_there = (and_parts (has_table db.catalog s.table) (not (is_empty s.sets)) update_sets.0).0

    update_keys : (row new : List Value) → updated update_columns s row ≡ Ok new → key_of new ≡ key_of row
    update_keys = updated_keys update_columns s (past_keys (entries_of db.catalog (s.table ∷ [])) s.sets update_sets.1)

    stays : (row : List Value) → is_kept s.filter (row ∷ []) ≡ false → updated update_columns s row ≡ Ok row
    stays row e = ap (λ (b : Bool). cond b (assigned update_columns row s.sets row) (Ok row)) e

    update_part : part_of (covers parts s.table) (each (updated update_columns s) (rows_of db s.table)) ≡ each (updated update_columns s) (part_rows parts db s.table)
    update_part = part_each (covers parts s.table) (updated update_columns s) update_keys (λ row key e. stays row (out_of_parts parts s.table s.filter covered row key e))
        (rows_of db s.table) (numbered db order s.table)

    update_frame : (u : ℕ) (k : ℤ) → covers (written parts) u k ≡ false → row_at (meaning db (stmt.Update s)).after u k ≡ row_at db u k
    update_frame u k out = changed_frame parts s.table db order update_there (length (kept_rows s.filter (rows_of db s.table))) (each (updated update_columns s) (rows_of db s.table)) u k out
        (λ rows was away. found_each (covers (written parts) s.table) (updated update_columns s) update_keys (λ row key e. stays row (out_of_writes parts s.table s.filter covered row key e))
        k away (rows_of db s.table) rows (numbered db order s.table) was)

-- ---- DELETE

module _ (parts : List Part) (s : DeleteStmt) (covered : Covers parts (stmt.Delete s)) where
  abbrev left : List Value → Bool
  left row = not (is_kept s.filter (row ∷ []))

  delete_part : (d e : Database) → part_rows parts d s.table ≡ part_rows parts e s.table → ◌≡◌ {A = Result (List (List Value)) RunError}
      (part_of (covers parts s.table) (Ok (other_rows s.filter (rows_of d s.table)))) (part_of (covers parts s.table) (Ok (other_rows s.filter (rows_of e s.table))))
  delete_part d e same =
      let swap = filters_swap (lies (covers parts s.table)) left in
      ap (λ (rows : List (List Value)). Ok rows) (swap (rows_of d s.table) ∙ ap (filter left) same ∙ sym (swap (rows_of e s.table)))

  delete_frame : (db : Database) → IsOrdered db → fits db.catalog (stmt.Delete s) ≡ true → (u : ℕ) (k : ℤ) → covers (written parts) u k ≡ false → row_at (meaning db (stmt.Delete s)).after u k ≡ row_at db u k
  delete_frame db order fit u k out =
      let there = (and_parts (has_table db.catalog s.table) (filter_fits (entries_of db.catalog (s.table ∷ [])) s.filter) fit).0 in
      changed_frame parts s.table db order there (length (kept_rows s.filter (rows_of db s.table))) (Ok (other_rows s.filter (rows_of db s.table))) u k out
      (λ rows was away. ap (find (has_key k)) (sym (same_ok (other_rows s.filter (rows_of db s.table)) rows was))
      ∙ found_left (covers (written parts) s.table) left (λ row key e. ap not (out_of_writes parts s.table s.filter covered row key e)) k away (rows_of db s.table) (numbered db order s.table))

-- ---- two databases

module _ (parts : List Part) (d e : Database) (order : IsOrdered d) (other : IsOrdered e) (agree : Agree parts d e) where
  same_rows_there : (t : ℕ) → part_rows parts d t ≡ part_rows parts e t
  same_rows_there t = same_part (covers parts t) (rows_of d t) (rows_of e t) (ascending d order t) (ascending e other t) (agree.rows t)

  fits_both : (s : Stmt) → fits d.catalog s ≡ true → fits e.catalog s ≡ true
  fits_both s fit = sym (ap (λ (c : Catalog). fits c s) agree.catalog) ∙ fit

  same_columns : (t : ℕ) → columns_of d.catalog t ≡ columns_of e.catalog t
  same_columns t = ap (λ (c : Catalog). columns_of c t) agree.catalog

  -- the answers are the same, and what is left agrees
  abbrev pub Alike : Outcome → Outcome → Type 0
  Alike a b = (a.answer ≡ b.answer) × Agree parts a.after b.after

  changed_alike : (t m n : ℕ) (r s : Result (List (List Value)) RunError) → nat_lt t (length d.catalog.tables) ≡ true → m ≡ n → part_of (covers parts t) r ≡ part_of (covers parts t) s
      → Alike (changed d t m r) (changed e t n s)
  changed_alike t m n r s there count same =
      (changed_answer d t m (covers parts t) r ∙ (λ i. answer_of (count i) (same i)) ∙ sym (changed_answer e t n (covers parts t) s), changed_agree parts t d e order other agree there m n r s same)

  meaning_alike : (s : Stmt) → Covers parts s → fits d.catalog s ≡ true → Alike (meaning d s) (meaning e s)
  meaning_alike (stmt.Select s) covered fit =
      (ap (answer_from s) (same_kept parts s.tables (λ rows. is_kept s.on rows && is_kept s.filter rows) covered d e (numbered d order) (numbered e other) same_rows_there), agree)
  meaning_alike (stmt.Insert s) covered fit =
      let one = insert_part parts s covered d order fit in
      let two = insert_part parts s covered e other (fits_both (stmt.Insert s) fit) in
      let columns = same_columns s.table in
      let rows = same_rows_there s.table in
      changed_alike s.table (length s.rows) (length s.rows) (inserted (columns_of d.catalog s.table) (rows_of d s.table) s.rows) (inserted (columns_of e.catalog s.table) (rows_of e s.table) s.rows)
      (insert_there parts s covered d order fit) refl (one ∙ (λ i. inserted (columns i) (rows i) s.rows) ∙ sym two)
  meaning_alike (stmt.Update s) covered fit =
      let one = update_part parts s covered d order fit in
      let two = update_part parts s covered e other (fits_both (stmt.Update s) fit) in
      let columns = same_columns s.table in
      let rows = same_rows_there s.table in
      changed_alike s.table (length (kept_rows s.filter (rows_of d s.table))) (length (kept_rows s.filter (rows_of e s.table)))
      (each (updated (columns_of d.catalog s.table) s) (rows_of d s.table)) (each (updated (columns_of e.catalog s.table) s) (rows_of e s.table))
      (update_there parts s covered d order fit) (same_count parts s.table s.filter covered d e order other rows) (one ∙ (λ i. each (updated (columns i) s) (rows i)) ∙ sym two)
  meaning_alike (stmt.Delete s) covered fit =
      let there = (and_parts (has_table d.catalog s.table) (filter_fits (entries_of d.catalog (s.table ∷ [])) s.filter) fit).0 in
      let rows = same_rows_there s.table in
      changed_alike s.table (length (kept_rows s.filter (rows_of d s.table))) (length (kept_rows s.filter (rows_of e s.table)))
      (Ok (other_rows s.filter (rows_of d s.table))) (Ok (other_rows s.filter (rows_of e s.table)))
      there (same_count parts s.table s.filter covered d e order other rows) (delete_part parts s covered d e rows)

  pub exec_alike : (s : Stmt) → Covers parts s → Alike (exec d s) (exec e s)
  exec_alike s covered = by_test (fits d.catalog s) (fits e.catalog s) refl (sym (ap (λ (c : Catalog). fits c s) agree.catalog))
    where
      by_test : (b c : Bool) → fits d.catalog s ≡ b → c ≡ fits d.catalog s → Alike (cond b (meaning d s) (failed d Unfit)) (cond c (meaning e s) (failed e Unfit))
      by_test true true f g = meaning_alike s covered f
      by_test true false f g = absurd (both_ways (fits d.catalog s) (sym g) f)
      by_test false true f g = absurd (both_ways (fits d.catalog s) f (sym g))
      by_test false false f g = (refl, agree)

module _ (parts : List Part) (db : Database) (order : IsOrdered db) (u : ℕ) (k : ℤ) (out : covers (written parts) u k ≡ false) where
  meaning_frame : (s : Stmt) → Covers parts s → fits db.catalog s ≡ true → row_at (meaning db s).after u k ≡ row_at db u k
  meaning_frame (stmt.Select s) covered fit = refl
  meaning_frame (stmt.Insert s) covered fit = insert_frame parts s covered db order fit u k out
  meaning_frame (stmt.Update s) covered fit = update_frame parts s covered db order fit u k out
  meaning_frame (stmt.Delete s) covered fit = delete_frame parts s covered db order fit u k out

  pub exec_frame : (s : Stmt) → Covers parts s → row_at (exec db s).after u k ≡ row_at db u k
  exec_frame s covered = by_fit (λ o. row_at o.after u k ≡ row_at db u k) db s (meaning_frame s covered) refl
