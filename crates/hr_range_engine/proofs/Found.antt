-- Rows that are found at keys in order, and rows that stand at their keys.
use Rattle.std.proofs.Common.{◌≡◌, ℕ, zero, suc, ℤ, Bool, true, false, cond, ◌&&◌, ◌||◌, Option, Some, None, List, [], ◌∷◌, ◌++◌, drop, length, refl, ap, sym, subst, ◌∙◌, arith, lt-ltb, ltb-true}
use Rattle.std.specs.Prelude.{unwrap_or, slice_get, slice_set, nat_lt, int_lt, int_le, is_some}
use Rattle.std.specs.List.{list_all, list_any, find, zip}
use Rattle.std.specs.Option.{option_map, option_to_list}
use Rattle.std.specs.Ordering.{nat_cmp, int_cmp, ordering_then, is_eq}
use Rattle.std.specs.Cmp.{Equal-is, eq_by_cmp_equiv}
use Rattle.std.proofs.lemmas.Cmp.{nat_cmp_total}
use Rattle.std.specs.declared.cmp.Ordering.{Ordering}
use Rattle.std.specs.BTreeMap.{is_at}
use Rattle.std.proofs.lemmas.Bool.{and_from, and_parts, both_ways, false_from_ne_true}
use Rattle.std.proofs.lemmas.Int.{ints}
use Rattle.hr_rel.specs.declared.value.Value.{Value}
use Rattle.hr_rel.specs.Database.{Database, rows_of, with_rows, key_of}
use Rattle.hr_rel.specs.Holds.{has_number_key, ascends, is_ordered, IsOrdered}
use Rattle.hr_meaning.specs.Insert.{is_number, is_greater, has_key, comes_after}
use Rattle.hr_statement_laws.proofs.Ascending.{Ascending, to_test}
use Rattle.hr_statement_laws.proofs.Fitting.{size_set}
use Rattle.hr_parts.specs.Parts.{row_at}
use Rattle.hr_parts.proofs.Rows.{key_is, found_later}
use Rattle.hr_parts.proofs.Statements.{in_order}
use Rattle.hr_store.specs.declared.place.Place.{Place}
use Rattle.hr_store.specs.Places.{place_cmp, place_of, is_place, belongs_at}
use Rattle.hr_store.specs.Scans.{Rising}
use Rattle.hr_store.specs.Store.{is_key_in}
use Rattle.hr_store.proofs.CellLaws.{same_place}
use Rattle.hr_store.proofs.PutLaws.{itself}
use Rattle.hr_range_engine.specs.Shown.{stands_at, rows_by, is_within, row_within}
use Rattle.hr_range_engine.specs.Laws.{its_key, key_known, key_fits, same_some}

-- ---- rows at keys

module _ (tables t : ℕ) (f : ℤ → Option (List Value)) (sound : (k : ℤ) → stands_at tables t k (f k) ≡ true) where
  above_by : (n k : ℤ) (rows : List (List Value)) (o : Option (List Value)) → stands_at tables t k o ≡ true → int_lt n k ≡ true → list_all (comes_after n) rows ≡ true
      → list_all (comes_after n) (option_to_list o ++ rows) ≡ true
  above_by n k rows None h less rest = rest
  above_by n k rows (Some row) h less rest = and_from (comes_after n row) (list_all (comes_after n) rows) (ap (is_greater n) (key_known tables t k row h) ∙ less) rest

  above : (n : ℤ) (keys : List ℤ) → list_all (int_lt n) keys ≡ true → list_all (comes_after n) (rows_by f keys) ≡ true
  above n [] h = refl
  above n (k ∷ keys) h =
      let parts = and_parts (int_lt n k) (list_all (int_lt n) keys) h in
      above_by n k (rows_by f keys) (f k) (sound k) parts.0 (above n keys parts.1)

  ascend_by : (k : ℤ) (rows : List (List Value)) (o : Option (List Value)) → stands_at tables t k o ≡ true → list_all (comes_after k) rows ≡ true → Ascending rows
      → Ascending (option_to_list o ++ rows)
  ascend_by k rows None h more rest = rest
  ascend_by k rows (Some row) h more rest = (k, key_known tables t k row h, key_fits tables t k row h, more, rest)

  pub rows_ascend : (keys : List ℤ) → Rising keys → Ascending (rows_by f keys)
  rows_ascend [] h = tt
  rows_ascend (k ∷ keys) h = ascend_by k (rows_by f keys) (f k) (sound k) (above k keys h.0) (rows_ascend keys h.1)

  module _ (k : ℤ) where
    none_either : (b : Bool) → f k ≡ None → cond b (f k) None ≡ None
    none_either true e = e
    none_either false e = refl

    find_here : (rows : List (List Value)) (b : Bool) (o : Option (List Value)) → f k ≡ o → stands_at tables t k o ≡ true → find (has_key k) rows ≡ cond b (f k) None
        → find (has_key k) (option_to_list o ++ rows) ≡ f k
    find_here rows b None e h rest = rest ∙ none_either b e ∙ sym e
    find_here rows b (Some row) e h rest = ap (λ (c : Bool). cond c (Some row) (find (has_key k) rows)) (its_key tables t k row h) ∙ sym e

    find_there : (n : ℤ) (rows : List (List Value)) (o : Option (List Value)) → stands_at tables t n o ≡ true → is_at (place_cmp (place_of t n)) (place_of t k) ≡ false
        → find (has_key k) (option_to_list o ++ rows) ≡ find (has_key k) rows
    find_there n rows None h miss = refl
    find_there n rows (Some row) h miss = found_later k row rows (false_from_ne_true (has_key k row) away)
      where
        away : has_key k row ≡ true → ⊥
        away has =
            let key : n ≡ k = same_some n k (sym (key_known tables t n row h) ∙ key_is row k has) in
            both_ways (is_at (place_cmp (place_of t n)) (place_of t k)) miss (subst (λ (m : ℤ). is_at (place_cmp (place_of t n)) (place_of t m) ≡ true) key (itself (place_of t n)))

    find_by : (n : ℤ) (keys : List ℤ) (b : Bool) → is_at (place_cmp (place_of t n)) (place_of t k) ≡ b → find (has_key k) (rows_by f keys) ≡ cond (is_key_in t keys k) (f k) None
        → find (has_key k) (option_to_list (f n) ++ rows_by f keys) ≡ cond (b || is_key_in t keys k) (f k) None
    find_by n keys true e rest =
        let key : n ≡ k = ap (λ (p : Place). p.key) (same_place (place_of t n) (place_of t k) e) in
        ap (λ (m : ℤ). find (has_key k) (option_to_list (f m) ++ rows_by f keys)) key ∙ find_here (rows_by f keys) (is_key_in t keys k) (f k) refl (sound k) rest
    find_by n keys false e rest = find_there n (rows_by f keys) (f n) (sound n) e ∙ rest

    pub rows_find : (keys : List ℤ) → find (has_key k) (rows_by f keys) ≡ cond (is_key_in t keys k) (f k) None
    rows_find [] = refl
    rows_find (n ∷ keys) = find_by n keys (is_at (place_cmp (place_of t n)) (place_of t k)) refl (rows_find keys)

    where_some : (w : Bool) (o : Option (List Value)) → cond (w && is_some o) o None ≡ cond w o None
    where_some true None = refl
    where_some true (Some row) = refl
    where_some false o = refl

    -- the rows at the keys of an interval
    pub rows_within : (low high : ℤ) (keys : List ℤ) → is_key_in t keys k ≡ (is_within low high k && is_some (f k)) → find (has_key k) (rows_by f keys) ≡ row_within low high f k
    rows_within low high keys are = rows_find keys ∙ ap (λ (b : Bool). cond b (f k) None) are ∙ where_some (is_within low high k) (f k)

-- an interval whose first key is the greater has none
nothing_within : (low high k : ℤ) → int_le low high ≡ false → int_le low k ≡ true → int_le k high ≡ true → ⊥
nothing_within low high k h a b = grind (arith, ints)

pub empty_interval : (low high k : ℤ) → int_le low high ≡ false → is_within low high k ≡ false
empty_interval low high k h =
    false_from_ne_true (is_within low high k) (λ w. let both = and_parts (int_le low k) (int_le k high) w in nothing_within low high k h both.0 both.1)

-- ---- rows of a database

found_passes : {X : Type 0} (p : X → Bool) (xs : List X) (x : X) → find p xs ≡ Some x → p x ≡ true
found_passes p [] x e = cc
found_passes p (y ∷ ys) x e = by_test (found_passes p ys x) (p y) refl e
  where
    by_test : (find p ys ≡ Some x → p x ≡ true) → (b : Bool) → p y ≡ b → cond b (Some y) (find p ys) ≡ Some x → p x ≡ true
    by_test rest true h f = ap p (sym (same_some y x f)) ∙ h
    by_test rest false h f = rest f

found_among : {X : Type 0} (p q : X → Bool) (xs : List X) (x : X) → list_all q xs ≡ true → find p xs ≡ Some x → q x ≡ true
found_among p q [] x h e = cc
found_among p q (y ∷ ys) x h e = let parts = and_parts (q y) (list_all q ys) h in by_test parts.0 (found_among p q ys x parts.1) (p y) e
  where
    by_test : q y ≡ true → (find p ys ≡ Some x → q x ≡ true) → (b : Bool) → cond b (Some y) (find p ys) ≡ Some x → q x ≡ true
    by_test first rest true f = ap q (sym (same_some y x f)) ∙ first
    by_test first rest false f = rest f

pub past_all : (tables : List (List (List Value))) (t : ℕ) → nat_lt t (length tables) ≡ false → unwrap_or (slice_get tables t) [] ≡ []
past_all [] t h = refl
past_all (rows ∷ tables) zero h = absurd (both_ways (nat_lt 0 (length (rows ∷ tables))) h (lt-ltb 0 (length (rows ∷ tables)) (omega arith)))
past_all (rows ∷ tables) (suc t) h = past_all tables t (false_from_ne_true (nat_lt t (length tables)) (λ less. both_ways (nat_lt (suc t) (length (rows ∷ tables))) h
    (lt-ltb (suc t) (length (rows ∷ tables)) (let n = ltb-true t (length tables) less in omega (arith, n)))))

module _ (db : Database) (ordered : IsOrdered db) (t : ℕ) (k : ℤ) where
  stands_by : (o : Option (List Value)) → row_at db t k ≡ o → (b : Bool) → nat_lt t (length db.tables) ≡ b → stands_at (length db.tables) t k o ≡ true
  stands_by None e b h = refl
  stands_by (Some row) e false h = absurd (nothing (sym (ap (find (has_key k)) (past_all db.tables t h)) ∙ e))
    where
      nothing : ◌≡◌ {A = Option (List Value)} None (Some row) → ⊥
      nothing f = cc
  stands_by (Some row) e true h =
      let rows = rows_of db t in
      let keyed = (and_parts (list_all has_number_key rows) (list_all ascends (zip rows (drop 1 rows))) (in_order db ordered t)).0 in
      and_from (nat_lt t (length db.tables)) (has_key k row && has_number_key row) h
      (and_from (has_key k row) (has_number_key row) (found_passes (has_key k) rows row e) (found_among (has_key k) has_number_key rows row keyed e))

  -- a row of a database in order stands at its key
  pub row_stands : stands_at (length db.tables) t k (row_at db t k) ≡ true
  row_stands = stands_by (row_at db t k) refl (nat_lt t (length db.tables)) refl

-- ---- one table in the place of another

pub set_at : (tables : List (List (List Value))) (t : ℕ) (rows : List (List Value)) → nat_lt t (length tables) ≡ true → unwrap_or (slice_get (slice_set tables t rows) t) [] ≡ rows
set_at [] t rows e = let none = ltb-true t 0 e in absurd (omega (arith, none))
set_at (old ∷ tables) zero rows e = refl
set_at (old ∷ tables) (suc t) rows e = let more = ltb-true (suc t) (suc (length tables)) e in set_at tables t rows (lt-ltb t (length tables) (omega (arith, more)))

pub set_elsewhere : (tables : List (List (List Value))) (t u : ℕ) (rows : List (List Value)) → (t ≡ u → ⊥) → unwrap_or (slice_get (slice_set tables t rows) u) [] ≡ unwrap_or (slice_get tables u) []
set_elsewhere [] t u rows ne = refl
set_elsewhere (old ∷ tables) zero zero rows ne = absurd (ne refl)
set_elsewhere (old ∷ tables) zero (suc u) rows ne = refl
set_elsewhere (old ∷ tables) (suc t) zero rows ne = refl
set_elsewhere (old ∷ tables) (suc t) (suc u) rows ne = set_elsewhere tables t u rows (λ e. ne (ap suc e))

pub set_nowhere : (tables : List (List (List Value))) (t : ℕ) (rows : List (List Value)) → nat_lt t (length tables) ≡ false → slice_set tables t rows ≡ tables
set_nowhere [] t rows h = refl
set_nowhere (old ∷ tables) zero rows h = absurd (both_ways (nat_lt 0 (length (old ∷ tables))) h (lt-ltb 0 (length (old ∷ tables)) (omega arith)))
set_nowhere (old ∷ tables) (suc t) rows h = ap (λ (l : List (List (List Value))). old ∷ l) (set_nowhere tables t rows (false_from_ne_true (nat_lt t (length tables)) (λ less.
    both_ways (nat_lt (suc t) (length (old ∷ tables))) h (lt-ltb (suc t) (length (old ∷ tables)) (let n = ltb-true t (length tables) less in omega (arith, n))))))

set_ordered : (tables : List (List (List Value))) (t : ℕ) (rows : List (List Value)) → list_all is_ordered tables ≡ true → is_ordered rows ≡ true → list_all is_ordered (slice_set tables t rows) ≡ true
set_ordered [] t rows h e = refl
set_ordered (old ∷ tables) zero rows h e = and_from (is_ordered rows) (list_all is_ordered tables) e (and_parts (is_ordered old) (list_all is_ordered tables) h).1
set_ordered (old ∷ tables) (suc t) rows h e =
    let parts = and_parts (is_ordered old) (list_all is_ordered tables) h in
    and_from (is_ordered old) (list_all is_ordered (slice_set tables t rows)) parts.0 (set_ordered tables t rows parts.1 e)

pub with_rows_ordered : (db : Database) (t : ℕ) (rows : List (List Value)) → IsOrdered db → Ascending rows → IsOrdered (with_rows db t rows)
with_rows_ordered db t rows ordered ascends = record {
  sound = ordered.sound;
  tables = size_set db.tables t rows ∙ ordered.tables;
  ordered = set_ordered db.tables t rows ordered.ordered (to_test rows ascends);
}

-- ---- where rows belong

in_one_table : (t : ℕ) (k l : ℤ) → place_cmp (place_of t k) (place_of t l) ≡ int_cmp k l
in_one_table t k l = ap (λ (o : Ordering). ordering_then o (int_cmp k l)) ((Equal-is (nat_cmp t t)).0 ((eq_by_cmp_equiv nat_cmp_total).refl t))

module _ (t : ℕ) (k : ℤ) where
  belongs_by : (o : Option ℤ) → is_place (option_map (place_of t) o) (place_of t k) ≡ is_number k o
  belongs_by None = refl
  belongs_by (Some m) = ap is_eq (in_one_table t m k)

  -- in its table a row belongs at its key
  pub belongs : (row : List Value) → belongs_at t (place_of t k) row ≡ has_key k row
  belongs row = belongs_by (key_of row)

  pub belongs_first : (rows : List (List Value)) → find (belongs_at t (place_of t k)) rows ≡ find (has_key k) rows
  belongs_first rows = ap (λ (p : List Value → Bool). find p rows) (λ i row. belongs row i)

  elsewhere_by : (u : ℕ) → (u ≡ t → ⊥) → (o : Option ℤ) → is_place (option_map (place_of u) o) (place_of t k) ≡ false
  elsewhere_by u ne None = refl
  elsewhere_by u ne (Some m) = false_from_ne_true (is_at (place_cmp (place_of u m)) (place_of t k)) (λ h. ne (ap (λ (p : Place). p.table) (same_place (place_of u m) (place_of t k) h)))

  pub elsewhere_at : (u : ℕ) → (u ≡ t → ⊥) → (row : List Value) → belongs_at u (place_of t k) row ≡ false
  elsewhere_at u ne row = elsewhere_by u ne (key_of row)

  -- in no other one does it
  pub belongs_nowhere : (u : ℕ) → (u ≡ t → ⊥) → (rows : List (List Value)) → find (belongs_at u (place_of t k)) rows ≡ None
  belongs_nowhere u ne [] = refl
  belongs_nowhere u ne (row ∷ rows) = ap (λ (b : Bool). cond b (Some row) (find (belongs_at u (place_of t k)) rows)) (elsewhere_by u ne (key_of row)) ∙ belongs_nowhere u ne rows

  pub key_nowhere : (u : ℕ) → (u ≡ t → ⊥) → (keys : List ℤ) → list_any (λ (key : ℤ). is_at (place_cmp (place_of u key)) (place_of t k)) keys ≡ false
  key_nowhere u ne [] = refl
  key_nowhere u ne (key ∷ keys) = ap (λ (b : Bool). b || list_any (λ (key : ℤ). is_at (place_cmp (place_of u key)) (place_of t k)) keys) (elsewhere_by u ne (Some key)) ∙ key_nowhere u ne keys
