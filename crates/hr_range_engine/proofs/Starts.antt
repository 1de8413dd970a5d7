-- What is committed in a store at the start.
use Rattle.std.proofs.Common.{◌≡◌, ◌<◌, ◌+◌, ℕ, zero, suc, ℤ, Bool, true, false, cond, Option, Some, None, List, [], ◌∷◌, length, replicate, refl, ap, sym, subst, ◌∙◌, arith}
use Rattle.std.specs.Prelude.{unwrap_or, slice_get, int_lt}
use Rattle.std.specs.List.{list_all, find}
use Rattle.std.specs.Option.{option_or}
use Rattle.std.proofs.lemmas.Bool.{and_from, and_parts, false_from_ne_true}
use Rattle.std.proofs.lemmas.Int.{ints}
use Rattle.hr_rel.specs.declared.value.Value.{Value}
use Rattle.hr_rel.specs.declared.catalog.Catalog.{Catalog}
use Rattle.hr_rel.specs.Database.{Database}
use Rattle.hr_rel.specs.Holds.{is_ordered, IsSound, IsOrdered}
use Rattle.hr_meaning.specs.Insert.{is_greater, has_key, comes_after}
use Rattle.hr_statement_laws.proofs.Ascending.{Ascending}
use Rattle.hr_parts.specs.Parts.{row_at}
use Rattle.hr_parts.proofs.Rows.{key_is, found_later}
use Rattle.hr_parts.proofs.Statements.{ascending}
use Rattle.hr_parts.proofs.Together.{same_database}
use Rattle.hr_store.specs.declared.place.Place.{Place}
use Rattle.hr_store.specs.declared.cell.Cell.{Cell}
use Rattle.hr_store.specs.declared.store.Store.{Store}
use Rattle.hr_store.specs.Places.{place_of}
use Rattle.hr_store.specs.Cells.{empty_cell, pending_row, is_of}
use Rattle.hr_store.specs.Loads.{committed_cell, loaded, all_loaded}
use Rattle.hr_store.specs.Store.{cell_at, tables_of, start_cell}
use Rattle.hr_store.proofs.StoreLaws.{all_loaded_pending}
use Rattle.hr_range_engine.specs.Shown.{stands_at, IsOf, committed_base, wrote_by}
use Rattle.hr_range_engine.specs.Laws.{base_row, base_ordered}
use Rattle.hr_range_engine.proofs.Found.{row_stands, belongs, elsewhere_at}

above_itself : (a : ℤ) → int_lt a a ≡ true → ⊥
above_itself a h = grind (arith, ints)

pub none_above : (n : ℤ) (rows : List (List Value)) → list_all (comes_after n) rows ≡ true → find (has_key n) rows ≡ None
none_above n [] h = refl
none_above n (row ∷ rows) h =
    let parts = and_parts (comes_after n row) (list_all (comes_after n) rows) h in
    found_later n row rows (false_from_ne_true (has_key n row) (λ has. above_itself n (sym (ap (is_greater n) (key_is row n has)) ∙ parts.0))) ∙ none_above n rows parts.1

module _ (t : ℕ) (k : ℤ) where
  abbrev here : Place
  here = place_of t k

  -- another table's rows lie elsewhere
  loaded_elsewhere : (u : ℕ) → (u ≡ t → ⊥) → (rows : List (List Value)) (cell : Cell) → loaded u rows here cell ≡ cell
  loaded_elsewhere u ne [] cell = refl
  loaded_elsewhere u ne (row ∷ rows) cell =
      ap (λ (b : Bool). loaded u rows here (cond b (committed_cell row) cell)) (elsewhere_at t k u ne row) ∙ loaded_elsewhere u ne rows cell

  -- a table's rows lie at their keys
  loaded_here : (rows : List (List Value)) → Ascending rows → (cell : Cell) → (loaded t rows here cell).committed ≡ option_or (find (has_key k) rows) cell.committed
  loaded_here [] h cell = refl
  loaded_here (row ∷ rows) h cell =
      ap (λ (b : Bool). (loaded t rows here (cond b (committed_cell row) cell)).committed) (belongs t k row) ∙ by_key (loaded_here rows h.4) (has_key k row) refl
    where
      by_key : ((c : Cell) → (loaded t rows here c).committed ≡ option_or (find (has_key k) rows) c.committed) → (b : Bool) → has_key k row ≡ b
          → (loaded t rows here (cond b (committed_cell row) cell)).committed ≡ option_or (cond b (Some row) (find (has_key k) rows)) cell.committed
      by_key rest true e =
          let same : ◌≡◌ {A = Option ℤ} (Some h.0) (Some k) = sym h.1 ∙ key_is row k e in
          let none : find (has_key k) rows ≡ None = none_above k rows (ap (λ (o : Option ℤ). list_all (comes_after (unwrap_or o k)) rows) (sym same) ∙ h.3) in
          rest (committed_cell row) ∙ ap (λ (o : Option (List Value)). option_or o (Some row)) none
      by_key rest false e = rest cell

  after_all : (a : ℕ) → t < a → (tables : List (List (List Value))) (cell : Cell) → all_loaded a tables here cell ≡ cell
  after_all a less [] cell = refl
  after_all a less (rows ∷ tables) cell =
      ap (all_loaded (a + 1) tables here) (loaded_elsewhere a (λ e. absurd (omega (arith, e, less))) rows cell) ∙ after_all (a + 1) (omega (arith, less)) tables cell

or_none : (o : Option (List Value)) → option_or o None ≡ o
or_none None = refl
or_none (Some row) = refl

all_here : (a i : ℕ) (k : ℤ) (tables : List (List (List Value))) → ((j : ℕ) → Ascending (unwrap_or (slice_get tables j) [])) → (cell : Cell)
    → (all_loaded a tables (place_of (a + i) k) cell).committed ≡ option_or (find (has_key k) (unwrap_or (slice_get tables i) [])) cell.committed
all_here a i k [] h cell = refl
all_here a zero k (rows ∷ tables) h cell =
    let same : a + 0 ≡ a = omega arith in
    ap (λ (t : ℕ). (all_loaded a (rows ∷ tables) (place_of t k) cell).committed) same
    ∙ ap (λ (c : Cell). c.committed) (after_all a k (a + 1) (omega arith) tables (loaded a rows (place_of a k) cell)) ∙ loaded_here a k rows (h 0) cell
all_here a (suc i) k (rows ∷ tables) h cell =
    let same : a + suc i ≡ (a + 1) + i = omega arith in
    ap (λ (t : ℕ). (all_loaded a (rows ∷ tables) (place_of t k) cell).committed) same
    ∙ ap (λ (c : Cell). (all_loaded (a + 1) tables (place_of ((a + 1) + i) k) c).committed) (loaded_elsewhere ((a + 1) + i) k a (λ e. absurd (omega (arith, e))) rows cell)
    ∙ all_here (a + 1) i k tables (λ j. h (suc j)) cell

module _ (db : Database) (ordered : IsOrdered db) (store : Store) (cells : (t : ℕ) (k : ℤ) → cell_at store t k ≡ start_cell db.tables t k) (count : tables_of store ≡ length db.tables) where
  start_committed : (t : ℕ) (k : ℤ) → (cell_at store t k).committed ≡ row_at db t k
  start_committed t k =
      let same : 0 + t ≡ t = omega arith in
      ap (λ (c : Cell). c.committed) (cells t k) ∙ ap (λ (u : ℕ). (all_loaded 0 db.tables (place_of u k) empty_cell).committed) (sym same)
      ∙ all_here 0 t k db.tables (λ j. ascending db ordered j) empty_cell ∙ or_none (row_at db t k)

  start_pending : (t : ℕ) (k : ℤ) → (cell_at store t k).pending ≡ None
  start_pending t k = ap (λ (c : Cell). c.pending) (cells t k) ∙ all_loaded_pending 0 db.tables (place_of t k) empty_cell refl

  pub start_whole : IsOf db.catalog store
  start_whole = record {
    sound = ordered.sound;
    count = count ∙ ordered.tables;
    rows = λ t k. and_from (stands_at (tables_of store) t k (cell_at store t k).committed) (stands_at (tables_of store) t k (pending_row (cell_at store t k).pending))
        ((λ i. stands_at (count i) t k (start_committed t k i)) ∙ row_stands db ordered t k)
        (ap (λ (o : Option _). stands_at (tables_of store) t k (pending_row o)) (start_pending t k));
  }

  pub start_base : committed_base db.catalog store ≡ db
  start_base =
      same_database (committed_base db.catalog store) db (base_ordered db.catalog store start_whole.rows start_whole.sound start_whole.count) ordered refl
      (λ t k. base_row db.catalog store start_whole.rows t k ∙ start_committed t k)

  pub start_idle : (u t : ℕ) (k : ℤ) → wrote_by store u t k ≡ false
  start_idle u t k = ap (is_of u) (start_pending t k)

-- ---- tables without rows

all_nothing : (n : ℕ) → list_all is_ordered (replicate n []) ≡ true
all_nothing zero = refl
all_nothing (suc n) = all_nothing n

pub size_nothing : {X : Type 0} (n : ℕ) (x : X) → length (replicate n x) ≡ n
size_nothing zero x = refl
size_nothing (suc n) x = ap suc (size_nothing n x)

pub nothing_ordered : (catalog : Catalog) (tables : List (List (List Value))) → IsSound catalog → tables ≡ replicate (length catalog.tables) [] → IsOrdered (record { catalog = catalog; tables = tables })
nothing_ordered catalog tables sound are = subst (λ (l : List (List (List Value))). IsOrdered (record { catalog = catalog; tables = l })) (sym are) record {
  sound = sound;
  tables = size_nothing (length catalog.tables) [];
  ordered = all_nothing (length catalog.tables);
}
