-- What the end of a transaction makes of what is committed and seen.
use Rattle.std.proofs.Common.{◌≡◌, ◌<◌, ℕ, zero, suc, Bool, true, false, cond, not, ◌==◌, Option, Some, None, List, [], ◌∷◌, length, get_or, map, refl, ap, sym, ◌∙◌, arith}
use Rattle.std.specs.Prelude.{◌≢◌, slice_set}
use Rattle.std.specs.List.{list_all, find}
use Rattle.std.proofs.lemmas.Bool.{and_from, and_parts, both_ways, eq-eqb, ne_eqb, eqb-true}
use Rattle.hr_rel.specs.declared.value.Value.{Value}
use Rattle.hr_rel.specs.Database.{Database, rows_of, with_rows}
use Rattle.hr_rel.specs.Holds.{is_ordered, IsOrdered}
use Rattle.hr_meaning.specs.Insert.{has_key}
use Rattle.hr_statement_laws.proofs.Fitting.{size_set}
use Rattle.hr_parts.specs.Parts.{row_at}
use Rattle.hr_parts.proofs.Together.{same_database}
use Rattle.hr_lock_engine.specs.Views.{IsView, OthersSee, SeeCommitted, WroteNothing}
use Rattle.hr_table_engine.specs.declared.before.Before.{Before}
use Rattle.hr_table_engine.specs.Undo.{slot_rows, undone, database_without, everyone, others_than, committed_in, seen_in, wrote_in, slot_at, is_of, is_kept_ordered, cleared}
use Rattle.hr_table_engine.specs.Laws.{rows_without}
use Rattle.hr_table_engine.proofs.Slots.{without_ordered, all_put}

-- ---- a commit

slot_cleared : (txn : ℕ) (slots : List (Option Before)) (t : ℕ) → slot_at (map (cleared txn) slots) t ≡ cleared txn (slot_at slots t)
slot_cleared txn [] t = refl
slot_cleared txn (slot ∷ slots) zero = refl
slot_cleared txn (slot ∷ slots) (suc t) = slot_cleared txn slots t

clear_one : (txn : ℕ) (slot : Option Before) (rows : List (List Value)) → slot_rows everyone (cleared txn slot) rows ≡ slot_rows (others_than txn) slot rows
clear_one txn None rows = refl
clear_one txn (Some b) rows = by_txn (b.txn == txn)
  where
    by_txn : (c : Bool) → slot_rows everyone (cond c None (Some b)) rows ≡ cond (not c) b.rows rows
    by_txn true = refl
    by_txn false = refl

clear_all : (txn : ℕ) (slots : List (Option Before)) (tables : List (List (List Value))) → undone everyone (map (cleared txn) slots) tables ≡ undone (others_than txn) slots tables
clear_all txn [] tables = refl
clear_all txn (slot ∷ slots) [] = refl
clear_all txn (slot ∷ slots) (rows ∷ tables) = λ i. clear_one txn slot rows i ∷ clear_all txn slots tables i

see_slot : (txn u : ℕ) (slot : Option Before) (rows : List (List Value))
    → slot_rows (others_than u) (cleared txn slot) rows ≡ cond (is_of u slot) (slot_rows (others_than u) slot rows) (slot_rows (others_than txn) slot rows)
see_slot txn u None rows = refl
see_slot txn u (Some b) rows = by_txn (b.txn == txn)
  where
    its : (e : Bool) → rows ≡ cond e (cond (not e) b.rows rows) rows
    its true = refl
    its false = refl

    another : (e : Bool) → cond (not e) b.rows rows ≡ cond e (cond (not e) b.rows rows) b.rows
    another true = refl
    another false = refl

    by_txn : (c : Bool) → slot_rows (others_than u) (cond c None (Some b)) rows ≡ cond (b.txn == u) (cond (not (b.txn == u)) b.rows rows) (cond (not c) b.rows rows)
    by_txn true = its (b.txn == u)
    by_txn false = another (b.txn == u)

found_in : (p : List Value → Bool) (c : Bool) (rows others : List (List Value)) → find p (cond c rows others) ≡ cond c (find p rows) (find p others)
found_in p true rows others = refl
found_in p false rows others = refl

clear_ordered : (txn : ℕ) (slot : Option Before) → is_kept_ordered slot ≡ true → is_kept_ordered (cleared txn slot) ≡ true
clear_ordered txn None h = refl
clear_ordered txn (Some b) h = by_txn (b.txn == txn)
  where
    by_txn : (c : Bool) → is_kept_ordered (cond c None (Some b)) ≡ true
    by_txn true = refl
    by_txn false = h

pub all_cleared : (txn : ℕ) (slots : List (Option Before)) → list_all is_kept_ordered slots ≡ true → list_all is_kept_ordered (map (cleared txn) slots) ≡ true
all_cleared txn [] h = refl
all_cleared txn (slot ∷ slots) h =
    let both = and_parts (is_kept_ordered slot) (list_all is_kept_ordered slots) h in
    and_from (is_kept_ordered (cleared txn slot)) (list_all is_kept_ordered (map (cleared txn) slots)) (clear_ordered txn slot both.0) (all_cleared txn slots both.1)

pub size_cleared : (txn : ℕ) (slots : List (Option Before)) → length (map (cleared txn) slots) ≡ length slots
size_cleared txn [] = refl
size_cleared txn (slot ∷ slots) = ap suc (size_cleared txn slots)

module _ (slots : List (Option Before)) (db : Database) (sized : length slots ≡ length db.tables) (ordered : IsOrdered db) (are_kept : list_all is_kept_ordered slots ≡ true) (txn : ℕ) where
  pub commit_base : (d : Database) → IsView (committed_in slots db) (seen_in slots db txn) d → committed_in (map (cleared txn) slots) db ≡ d
  commit_base d view =
      ap (λ (tables : List (List (List Value))). record { catalog = db.catalog; tables = tables }) (clear_all txn slots db.tables)
      ∙ same_database (database_without (others_than txn) slots db) d (without_ordered (others_than txn) slots db sized are_kept ordered) view.ordered (sym view.catalog) view.rows

  pub commit_seen : SeeCommitted txn (wrote_in slots) (seen_in slots db) (seen_in (map (cleared txn) slots) db)
  commit_seen u t k =
      let p = has_key k in
      ap (find p)
      (rows_without (others_than u) (map (cleared txn) slots) db t (size_cleared txn slots ∙ sized)
      ∙ ap (λ (o : Option Before). slot_rows (others_than u) o (rows_of db t)) (slot_cleared txn slots t) ∙ see_slot txn u (slot_at slots t) (rows_of db t)
      ∙ (λ i. cond (is_of u (slot_at slots t)) (sym (rows_without (others_than u) slots db t sized) i) (sym (rows_without (others_than txn) slots db t sized) i)))
      ∙ found_in p (is_of u (slot_at slots t)) (rows_of (database_without (others_than u) slots db) t) (rows_of (database_without (others_than txn) slots db) t)

pub clear_wrote : (txn : ℕ) (slots : List (Option Before)) → WroteNothing txn (wrote_in slots) (wrote_in (map (cleared txn) slots))
clear_wrote txn slots u t k w = by_slot (slot_at slots t) (ap (is_of u) (sym (slot_cleared txn slots t)) ∙ w)
  where
    by_txn : (b : Before) (c : Bool) → (b.txn == txn) ≡ c → is_of u (cond c None (Some b)) ≡ true → (u ≢ txn) × ((b.txn == u) ≡ true)
    by_txn b true e h = cc
    by_txn b false e h = (λ same. both_ways (b.txn == txn) e (eq-eqb b.txn txn (eqb-true b.txn u h ∙ same)), h)

    by_slot : (o : Option Before) → is_of u (cleared txn o) ≡ true → (u ≢ txn) × (is_of u o ≡ true)
    by_slot None h = cc
    by_slot (Some b) h = by_txn b (b.txn == txn) refl h

-- ---- the changes of one table are undone

put_undone : (undoes : ℕ → Bool) (slots : List (Option Before)) (tables : List (List (List Value))) (at : ℕ) (b : Before) → slot_at slots at ≡ Some b → undoes b.txn ≡ true
    → undone undoes (slice_set slots at None) (slice_set tables at b.rows) ≡ undone undoes slots tables
put_undone undoes [] tables at b e u = cc
put_undone undoes (slot ∷ slots) [] zero b e u = refl
put_undone undoes (slot ∷ slots) [] (suc at) b e u = refl
put_undone undoes (slot ∷ slots) (rows ∷ tables) zero b e u =
    ap (λ (r : List (List Value)). r ∷ undone undoes slots tables) (sym (ap (λ (o : Option Before). slot_rows undoes o rows) e ∙ ap (λ (c : Bool). cond c b.rows rows) u))
put_undone undoes (slot ∷ slots) (rows ∷ tables) (suc at) b e u = ap (λ (l : List (List (List Value))). slot_rows undoes slot rows ∷ l) (put_undone undoes slots tables at b e u)

kept_at : (slots : List (Option Before)) (t : ℕ) → list_all is_kept_ordered slots ≡ true → is_kept_ordered (slot_at slots t) ≡ true
kept_at [] t h = refl
kept_at (slot ∷ slots) zero h = (and_parts (is_kept_ordered slot) (list_all is_kept_ordered slots) h).0
kept_at (slot ∷ slots) (suc t) h = kept_at slots t (and_parts (is_kept_ordered slot) (list_all is_kept_ordered slots) h).1

all_tables : (tables : List (List (List Value))) (t : ℕ) (rows : List (List Value)) → list_all is_ordered tables ≡ true → is_ordered rows ≡ true → list_all is_ordered (slice_set tables t rows) ≡ true
all_tables [] t rows h o = refl
all_tables (x ∷ tables) zero rows h o = and_from (is_ordered rows) (list_all is_ordered tables) o (and_parts (is_ordered x) (list_all is_ordered tables) h).1
all_tables (x ∷ tables) (suc t) rows h o =
    let both = and_parts (is_ordered x) (list_all is_ordered tables) h in
    and_from (is_ordered x) (list_all is_ordered (slice_set tables t rows)) both.0 (all_tables tables t rows both.1 o)

pub none_at : (slots : List (Option Before)) (at : ℕ) → slot_at (slice_set slots at None) at ≡ None
none_at [] at = refl
none_at (slot ∷ slots) zero = refl
none_at (slot ∷ slots) (suc at) = none_at slots at

module _ (slots : List (Option Before)) (db : Database) (at : ℕ) (b : Before) (here : slot_at slots at ≡ Some b) where
  pub undo_base : committed_in (slice_set slots at None) (with_rows db at b.rows) ≡ committed_in slots db
  undo_base = ap (λ (tables : List (List (List Value))). record { catalog = db.catalog; tables = tables }) (put_undone everyone slots db.tables at b here refl)

  pub undo_others : (txn : ℕ) → b.txn ≡ txn → OthersSee txn (seen_in slots db) (seen_in (slice_set slots at None) (with_rows db at b.rows))
  undo_others txn its u t k differ =
      ap (λ (tables : List (List (List Value))). row_at record { catalog = db.catalog; tables = tables } t k)
      (put_undone (others_than u) slots db.tables at b here (ap not (ne_eqb b.txn u (λ e. differ (sym e ∙ its)))))

  pub undo_sized : length slots ≡ length db.tables → length (slice_set slots at None) ≡ length (slice_set db.tables at b.rows)
  undo_sized e = size_set slots at None ∙ e ∙ sym (size_set db.tables at b.rows)

  pub undo_ordered : list_all is_kept_ordered slots ≡ true → IsOrdered db → IsOrdered (with_rows db at b.rows)
  undo_ordered are_kept o = record {
    sound = o.sound;
    tables = size_set db.tables at b.rows ∙ o.tables;
    ordered = all_tables db.tables at b.rows o.ordered (ap is_kept_ordered (sym here) ∙ kept_at slots at are_kept);
  }

  pub undo_kept : list_all is_kept_ordered slots ≡ true → list_all is_kept_ordered (slice_set slots at None) ≡ true
  undo_kept are_kept = all_put is_kept_ordered slots at None are_kept refl

-- what stands at a place
pub slot_is : (slots : List (Option Before)) (at : ℕ) (cell : Option Before) → at < length slots → cell ≡ get_or slots at cell → slot_at slots at ≡ cell
slot_is [] at cell l e = absurd (omega (arith, l))
slot_is (slot ∷ slots) zero cell l e = sym e
slot_is (slot ∷ slots) (suc at) cell l e = slot_is slots at cell (omega (arith, l)) e
