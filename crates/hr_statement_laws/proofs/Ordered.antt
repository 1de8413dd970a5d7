-- A database in order stays in order.
use Rattle.std.proofs.Common.{◌≡◌, ℕ, zero, suc, ◌+◌, ◌==◌, ℤ, Bool, true, false, ◌&&◌, cond, not, nat_lt, length, List, [], ◌∷◌, refl, ap, sym, subst, ◌∙◌, arith, lt-ltb, ltb-true, eqb-true}
use Rattle.std.specs.Prelude.{Option, Some, None, Result, Ok, Err, insert, position, unwrap_or, slice_get, slice_set}
use Rattle.std.specs.Option.{option_map, option_or, option_and_then}
use Rattle.std.specs.List.{list_all, list_any, zip, position_or_len}
use Rattle.std.proofs.lemmas.Bool.{and_from, and_parts}
use Rattle.hr_base.specs.Lists.{is_empty}
use Rattle.hr_rel.specs.declared.value.Value.{Value}
use Rattle.hr_rel.specs.declared.value.Value.TheVariants as value
use Rattle.hr_rel.specs.declared.answer.RunError.{RunError}
use Rattle.hr_rel.specs.declared.answer.RunError.TheVariants.{NullRefused, DuplicateKey}
use Rattle.hr_rel.specs.declared.catalog.TableDef.{TableDef}
use Rattle.hr_rel.specs.declared.catalog.ColumnDef.{ColumnDef}
use Rattle.hr_rel.specs.declared.catalog.ColKind.{ColKind}
use Rattle.hr_rel.specs.declared.catalog.ColKind.TheVariants as kind
use Rattle.hr_rel.specs.declared.stmt.Set.{Set}
use Rattle.hr_rel.specs.declared.stmt.Stmt.{Stmt}
use Rattle.hr_rel.specs.declared.stmt.Stmt.TheVariants as stmt
use Rattle.hr_rel.specs.declared.stmt.InsertStmt.{InsertStmt}
use Rattle.hr_rel.specs.declared.stmt.UpdateStmt.{UpdateStmt}
use Rattle.hr_rel.specs.Database.{Database, columns_of, rows_of, key_of}
use Rattle.hr_rel.specs.Kinds.{fits_i64, same_kind, is_of_kind, refuses}
use Rattle.hr_rel.specs.Holds.{row_fits, has_key_column, is_ordered, IsOrdered}
use Rattle.hr_rel.specs.Fit.{Entries, entries_of, has_table, column_kind, both_agree, expr_kind, filter_fits, set_fits, assign_apart, fits}
use Rattle.hr_meaning.specs.Truth.{is_kept}
use Rattle.hr_meaning.specs.Value.{and_then, each}
use Rattle.hr_meaning.specs.Insert.{has_key, comes_after, null_refused, duplicate_key, insert_error, put_row, unless, with_row, inserted, place_for}
use Rattle.hr_meaning.specs.Exec.{exec, meaning, changed, set_value, assigned, updated, other_rows}
use Rattle.hr_statement_laws.proofs.Shape.{by_fit}
use Rattle.hr_statement_laws.proofs.Ascending.{Ascending, from_test, to_test, filtered, SameKeys, with_same_keys, put, put_is, put_ascends}

-- ---- one table in the place of another

module _ {X : Type 0} (p : X → Bool) where
  all_set : (xs : List X) (i : ℕ) (x : X) → list_all p xs ≡ true → p x ≡ true → list_all p (slice_set xs i x) ≡ true
  all_set [] i x h e = refl
  all_set (y ∷ ys) zero x h e = and_from (p x) (list_all p ys) e (and_parts (p y) (list_all p ys) h).1
  all_set (y ∷ ys) (suc i) x h e =
      let parts = and_parts (p y) (list_all p ys) h in
      and_from (p y) (list_all p (slice_set ys i x)) parts.0 (all_set ys i x parts.1 e)

same_length : {X : Type 0} (xs : List X) (i : ℕ) (x : X) → length (slice_set xs i x) ≡ length xs
same_length [] i x = refl
same_length (y ∷ ys) zero x = refl
same_length (y ∷ ys) (suc i) x = ap suc (same_length ys i x)

rows_are_ordered : (tables : List (List (List Value))) (t : ℕ) → list_all is_ordered tables ≡ true → is_ordered (unwrap_or (slice_get tables t) []) ≡ true
rows_are_ordered [] t h = refl
rows_are_ordered (rows ∷ tables) zero h = (and_parts (is_ordered rows) (list_all is_ordered tables) h).0
rows_are_ordered (rows ∷ tables) (suc t) h = rows_are_ordered tables t (and_parts (is_ordered rows) (list_all is_ordered tables) h).1

key_column_at : (tables : List TableDef) (t : ℕ) → nat_lt t (length tables) ≡ true → list_all (λ (d : TableDef). has_key_column d.columns) tables ≡ true
    → has_key_column (unwrap_or (option_map (λ (d : TableDef). d.columns) (slice_get tables t)) []) ≡ true
key_column_at [] t e h = let none = ltb-true t 0 e in absurd (omega (arith, none))
key_column_at (d ∷ tables) zero e h = (and_parts (has_key_column d.columns) (list_all (λ (d : TableDef). has_key_column d.columns) tables) h).0
key_column_at (d ∷ tables) (suc t) e h =
    let more = ltb-true (suc t) (suc (length tables)) e in
    key_column_at tables t (lt-ltb t (length tables) (omega (arith, more))) (and_parts (has_key_column d.columns) (list_all (λ (d : TableDef). has_key_column d.columns) tables) h).1

-- ---- INSERT

position_none_by : {X : Type 0} (p : X → Bool) (x : X) (xs : List X) (k : ℕ) (b : Bool) → cond (nat_lt (cond (not b) (1 + k) 0) (suc (length xs))) (Some (cond (not b) (1 + k) 0)) None ≡ None → b ≡ false
position_none_by p x xs k false e = refl
position_none_by p x xs k true e =
    let within : nat_lt 0 (suc (length xs)) ≡ true = lt-ltb 0 (suc (length xs)) (omega arith) in
    let there : ◌≡◌ {A = Option ℕ} (Some 0) None = sym (ap (λ (b : Bool). cond b (Some 0) None) within) ∙ e in cc

-- where no element passes, the first doesn't
pub position_none : {X : Type 0} (p : X → Bool) (x : X) (xs : List X) → position p (x ∷ xs) ≡ None → p x ≡ false
position_none p x xs e = position_none_by p x xs (position_or_len p xs) (p x) e

pub none_by : {X Y : Type 0} (f : X → Y) (o : Option X) → option_map f o ≡ None → o ≡ None
none_by f None e = refl
none_by f (Some x) e = cc

int_fits : (k : ColKind) (n : ℤ) → is_of_kind k (value.Int n) ≡ true → fits_i64 n ≡ true
int_fits kind.Int n e = e
int_fits kind.Text n e = cc

no_text : (k : ColKind) (t : List ℕ) → same_kind k kind.Int ≡ true → is_of_kind k (value.Text t) ≡ true → ⊥
no_text kind.Int t e f = cc
no_text kind.Text t e f = cc

takes_no_null : (b : Bool) → not b ≡ true → not b ≡ false → ⊥
takes_no_null b e f = cc

-- a row that fits, and of which no NULL is refused, has a key
key_there : (columns : List ColumnDef) (row : List Value) → has_key_column columns ≡ true → row_fits columns row ≡ true → null_refused columns row ≡ None
    → (n : ℤ) × (key_of row ≡ Some n) × (fits_i64 n ≡ true)
key_there [] row e f g = cc
key_there (d ∷ columns) [] e f g =
    let same = eqb-true 0 (suc (length columns)) (and_parts (0 == suc (length columns)) true f).0 in absurd (omega (arith, same))
key_there (d ∷ columns) (value.Null ∷ row) e f g =
    let taken = position_none refuses (d, value.Null) (zip columns row) (none_by (λ (i : ℕ). NullRefused (i + 1)) (position refuses (zip (d ∷ columns) (value.Null ∷ row))) g) in
    absurd (takes_no_null d.nullable (and_parts (same_kind d.kind kind.Int) (not d.nullable) e).1 taken)
key_there (d ∷ columns) (value.Int n ∷ row) e f g =
    let kinds = and_parts (length (value.Int n ∷ row) == length (d ∷ columns)) (list_all (λ (p : ColumnDef × Value). is_of_kind p.0.kind p.1) (zip (d ∷ columns) (value.Int n ∷ row))) f in
    let first = and_parts (is_of_kind d.kind (value.Int n)) (list_all (λ (p : ColumnDef × Value). is_of_kind p.0.kind p.1) (zip columns row)) kinds.1 in
    (n, refl, int_fits d.kind n first.0)
key_there (d ∷ columns) (value.Text t ∷ row) e f g =
    let kinds = and_parts (length (value.Text t ∷ row) == length (d ∷ columns)) (list_all (λ (p : ColumnDef × Value). is_of_kind p.0.kind p.1) (zip (d ∷ columns) (value.Text t ∷ row))) f in
    let first = and_parts (is_of_kind d.kind (value.Text t)) (list_all (λ (p : ColumnDef × Value). is_of_kind p.0.kind p.1) (zip columns row)) kinds.1 in
    absurd (no_text d.kind t (and_parts (same_kind d.kind kind.Int) (not d.nullable) e).0 first.0)

pub unless_ok : {X : Type 0} (o : Option RunError) (x next : X) → unless o x ≡ Ok next → (o ≡ None) × (x ≡ next)
unless_ok None x next e = (refl, cc)
unless_ok (Some d) x next e = cc

pub both_none : (a b : Option RunError) → option_or a b ≡ None → (a ≡ None) × (b ≡ None)
both_none None b e = (refl, e)
both_none (Some d) b e = cc

not_there : (b : Bool) (d : RunError) → cond b (Some d) None ≡ None → b ≡ false
not_there true d e = cc
not_there false d e = refl

module _ (columns : List ColumnDef) (key : has_key_column columns ≡ true) where
  -- a table with one row more
  with_row_ascends : (table : List (List Value)) (row : List Value) (next : List (List Value)) → row_fits columns row ≡ true → Ascending table → with_row columns table row ≡ Ok next → Ascending next
  with_row_ascends table row next fit h e =
      let made = unless_ok (insert_error columns table row) (put_row table row) next e in
      let errors = both_none (null_refused columns row) (duplicate_key table row) made.0 in
      let k = key_there columns row key fit errors.0 in
      let fresh = not_there (list_any (has_key k.0) table) (DuplicateKey k.0)
      (sym (ap (option_and_then (λ n. cond (list_any (has_key n) table) (Some (DuplicateKey n)) None)) k.1) ∙ errors.1) in
      let put_so : put_row table row ≡ put (comes_after k.0) row table =
      ap (λ (o : Option ℤ). insert table (unwrap_or (option_map (place_for table) o) (length table)) row) k.1 ∙ put_is (comes_after k.0) row table in
      subst Ascending (sym put_so ∙ made.1) (put_ascends k.0 row k.1 k.2 table fresh h)

  inserted_by : (rest : List (List Value)) (r : Result (List (List Value)) RunError) (new : List (List Value)) → ((next : List (List Value)) → r ≡ Ok next → Ascending next)
      → ((next : List (List Value)) → Ascending next → inserted columns next rest ≡ Ok new → Ascending new) → and_then r (λ next. inserted columns next rest) ≡ Ok new → Ascending new
  inserted_by rest (Err d) new one others e = cc
  inserted_by rest (Ok next) new one others e = others next (one next refl) e

  inserted_ascends : (table rows new : List (List Value)) → list_all (row_fits columns) rows ≡ true → Ascending table → inserted columns table rows ≡ Ok new → Ascending new
  inserted_ascends table [] new fit h e = subst Ascending same h
    where
      same : table ≡ new
      same = cc
  inserted_ascends table (row ∷ rows) new fit h e =
      let parts = and_parts (row_fits columns row) (list_all (row_fits columns) rows) fit in
      inserted_by rows (with_row columns table row) new (λ next was. with_row_ascends table row next parts.0 h was) (λ next on more. inserted_ascends next rows new parts.1 on more) e

-- ---- UPDATE

key_set : (row : List Value) (c : ℕ) (v : Value) → nat_lt 0 c ≡ true → key_of (slice_set row c v) ≡ key_of row
key_set row zero v e = let none = ltb-true 0 0 e in absurd (omega (arith, none))
key_set [] (suc c) v e = refl
key_set (value.Null ∷ row) (suc c) v e = refl
key_set (value.Int n ∷ row) (suc c) v e = refl
key_set (value.Text t ∷ row) (suc c) v e = refl

abbrev past_key : Set → Bool
past_key a = nat_lt 0 a.column

module _ (columns : List ColumnDef) (old : List Value) where
  assigned_by : (sets : List Set) (row : List Value) (c : ℕ) (r : Result Value RunError) (new : List Value) → nat_lt 0 c ≡ true
      → ((next : List Value) → assigned columns old sets next ≡ Ok new → key_of new ≡ key_of next) → and_then r (λ v. assigned columns old sets (slice_set row c v)) ≡ Ok new → key_of new ≡ key_of row
  assigned_by sets row c (Err d) new past others e = cc
  assigned_by sets row c (Ok v) new past others e = others (slice_set row c v) e ∙ key_set row c v past

  assigned_keys : (sets : List Set) (row new : List Value) → list_all past_key sets ≡ true → assigned columns old sets row ≡ Ok new → key_of new ≡ key_of row
  assigned_keys [] row new past e = ap key_of same
    where
      same : new ≡ row
      same = cc
  assigned_keys (a ∷ sets) row new past e =
      let parts = and_parts (past_key a) (list_all past_key sets) past in
      assigned_by sets row a.column (set_value columns old a) new parts.0 (λ next on. assigned_keys sets next new parts.1 on) e

updated_keys : (columns : List ColumnDef) (s : UpdateStmt) → list_all past_key s.sets ≡ true → (row new : List Value) → updated columns s row ≡ Ok new → key_of new ≡ key_of row
updated_keys columns s past row new e = by_test (is_kept s.filter (row ∷ [])) e
  where
    by_test : (b : Bool) → cond b (assigned columns row s.sets row) (Ok row) ≡ Ok new → key_of new ≡ key_of row
    by_test true f = assigned_keys columns row s.sets row new past f
    by_test false f = ap key_of same
      where
        same : new ≡ row
        same = cc

module _ (f : List Value → Result (List Value) RunError) (keeps : (row new : List Value) → f row ≡ Ok new → key_of new ≡ key_of row) where
  each_by : (row : List Value) (rows : List (List Value)) (r : Result (List Value) RunError) (rest : Result (List (List Value)) RunError) (new : List (List Value))
      → ((one : List Value) → r ≡ Ok one → key_of one ≡ key_of row) → ((more : List (List Value)) → rest ≡ Ok more → SameKeys rows more)
      → and_then r (λ y. and_then rest (λ ys. Ok (y ∷ ys))) ≡ Ok new → SameKeys (row ∷ rows) new
  each_by row rows (Err d) rest new one others e = cc
  each_by row rows (Ok y) (Err d) new one others e = cc
  each_by row rows (Ok y) (Ok ys) [] one others e = cc
  each_by row rows (Ok y) (Ok ys) (z ∷ zs) one others e =
      let head : z ≡ y = cc in
      let tail : zs ≡ ys = cc in
      (ap key_of head ∙ one y refl, subst (SameKeys rows) (sym tail) (others ys refl))

  each_same_keys : (rows new : List (List Value)) → each f rows ≡ Ok new → SameKeys rows new
  each_same_keys [] [] e = tt
  each_same_keys [] (q ∷ new) e = cc
  each_same_keys (row ∷ rows) new e = each_by row rows (f row) (each f rows) new (keeps row) (λ more was. each_same_keys rows more was) e

-- an assignment that fits isn't to the key
past_keys : (entries : Entries) (sets : List Set) → list_all (set_fits entries) sets ≡ true → list_all past_key sets ≡ true
past_keys entries [] h = refl
past_keys entries (a ∷ sets) h =
    let parts = and_parts (set_fits entries a) (list_all (set_fits entries) sets) h in
    let first = and_parts (past_key a) (both_agree (column_kind entries record { entry = 0; column = a.column }) (expr_kind entries a.value)) parts.0 in
    and_from (past_key a) (list_all past_key sets) first.0 (past_keys entries sets parts.1)

-- ---- statements

changed_ordered : (db : Database) (t n : ℕ) (r : Result (List (List Value)) RunError) → IsOrdered db → ((rows : List (List Value)) → r ≡ Ok rows → is_ordered rows ≡ true) → IsOrdered (changed db t n r).after
changed_ordered db t n (Err d) h new = h
changed_ordered db t n (Ok rows) h new = record {
  sound = h.sound;
  tables = same_length db.tables t rows ∙ h.tables;
  ordered = all_set is_ordered db.tables t rows h.ordered (new rows refl);
}

insert_ordered : (db : Database) (s : InsertStmt) → fits db.catalog (stmt.Insert s) ≡ true → IsOrdered db → IsOrdered (meaning db (stmt.Insert s)).after
insert_ordered db s e h =
    let columns = columns_of db.catalog s.table in
    let rows = and_parts (has_table db.catalog s.table && not (is_empty s.rows)) (list_all (row_fits columns) s.rows) e in
    let table = (and_parts (has_table db.catalog s.table) (not (is_empty s.rows)) rows.0).0 in
    let key = key_column_at db.catalog.tables s.table table h.sound.keys in
    let ascends = from_test (rows_of db s.table) (rows_are_ordered db.tables s.table h.ordered) in
    changed_ordered db s.table (length s.rows) (inserted columns (rows_of db s.table) s.rows) h
    (λ new was. to_test new (inserted_ascends columns key (rows_of db s.table) s.rows new rows.1 ascends was))

update_ordered : (db : Database) (s : UpdateStmt) → fits db.catalog (stmt.Update s) ≡ true → IsOrdered db → IsOrdered (meaning db (stmt.Update s)).after
update_ordered db s e h =
    let entries = entries_of db.catalog (s.table ∷ []) in
    let columns = columns_of db.catalog s.table in
    let front = (and_parts (has_table db.catalog s.table && not (is_empty s.sets) && list_all (set_fits entries) s.sets && assign_apart s.sets) (filter_fits entries s.filter) e).0 in
    let sets = (and_parts (has_table db.catalog s.table && not (is_empty s.sets) && list_all (set_fits entries) s.sets) (assign_apart s.sets) front).0 in
    let past = past_keys entries s.sets (and_parts (has_table db.catalog s.table && not (is_empty s.sets)) (list_all (set_fits entries) s.sets) sets).1 in
    let ascends = from_test (rows_of db s.table) (rows_are_ordered db.tables s.table h.ordered) in
    changed_ordered db s.table _ (each (updated columns s) (rows_of db s.table)) h
    (λ new was. to_test new (with_same_keys (rows_of db s.table) new (each_same_keys (updated columns s) (updated_keys columns s past) (rows_of db s.table) new was) ascends))

meaning_ordered : (db : Database) (s : Stmt) → IsOrdered db → fits db.catalog s ≡ true → IsOrdered (meaning db s).after
meaning_ordered db (stmt.Select s) h e = h
meaning_ordered db (stmt.Insert s) h e = insert_ordered db s e h
meaning_ordered db (stmt.Update s) h e = update_ordered db s e h
meaning_ordered db (stmt.Delete s) h e =
    let rows = rows_of db s.table in
    let left = filtered (λ row. not (is_kept s.filter (row ∷ []))) rows (from_test rows (rows_are_ordered db.tables s.table h.ordered)) in
    record {
      sound = h.sound;
      tables = same_length db.tables s.table (other_rows s.filter rows) ∙ h.tables;
      ordered = all_set is_ordered db.tables s.table (other_rows s.filter rows) h.ordered (to_test (other_rows s.filter rows) left);
    }

pub keeps_order : (db : Database) (s : Stmt) → IsOrdered db → IsOrdered (exec db s).after
keeps_order db s h = by_fit (λ o. IsOrdered o.after) db s (meaning_ordered db s h) h
