-- Not to be believed: what is committed in a store, key by key, which the trait's law cites.
use Rattle.std.proofs.Common.{◌≡◌, ◌≤◌, ℕ, ℤ, Bool, true, false, cond, ◌&&◌, ◌==◌, Option, Some, None, List, [], ◌∷◌, ◌++◌, length, map, refl, ap, sym, subst, ◌∙◌, arith, ltb-true, ltb-false}
use Rattle.std.specs.Prelude.{nat_lt, int_lt}
use Rattle.std.specs.List.{list_all, find, range_with_len}
use Rattle.std.specs.Option.{option_to_list}
use Rattle.std.specs.BTreeMap.{is_at}
use Rattle.std.proofs.lemmas.Bool.{and_from, and_parts, both_ways, false_from_ne_true, eq-eqb, eqb-true}
use Rattle.std.proofs.lemmas.List.{get_or_past}
use Rattle.std.proofs.lemmas.List.FromFn.{length-map-range_with_len, get_or-map-range_with_len}
use Rattle.std.proofs.lemmas.Option.{unwrap_or-slice_get}
use Rattle.hr_rel.specs.declared.value.Value.{Value}
use Rattle.hr_rel.specs.declared.catalog.Catalog.{Catalog}
use Rattle.hr_rel.specs.Database.{rows_of, key_of}
use Rattle.hr_rel.specs.Kinds.{fits_i64}
use Rattle.hr_rel.specs.Holds.{is_key, has_number_key, is_ordered, IsSound, IsOrdered}
use Rattle.hr_meaning.specs.Insert.{has_key, is_greater, comes_after}
use Rattle.hr_statement_laws.proofs.Ascending.{Ascending, to_test}
use Rattle.hr_parts.specs.Parts.{row_at}
use Rattle.hr_parts.proofs.Rows.{key_is, found_later}
use Rattle.hr_store.specs.declared.place.Place.{Place}
use Rattle.hr_store.specs.declared.cell.Cell.{Cell}
use Rattle.hr_store.specs.declared.store.Store.{Store}
use Rattle.hr_store.specs.Places.{place_cmp, place_of}
use Rattle.hr_store.specs.Cells.{pending_row}
use Rattle.hr_store.specs.Scans.{committed_rows}
use Rattle.hr_store.specs.Store.{cell_at, tables_of, dumped}
use Rattle.hr_store.proofs.CellLaws.{same_place}
use Rattle.hr_store.proofs.PutLaws.{itself}
use Rattle.hr_store.proofs.Walks.{held_in, IsBefore, AreSorted, are_sorted, held_before, held_first, held_later, key_before}
use Rattle.hr_range_engine.specs.Shown.{stands_at, AreSound, committed_base, seen_by, wrote_by}

-- ---- a row at its place

module _ (tables t : ℕ) (k : ℤ) (row : List Value) (h : stands_at tables t k (Some row) ≡ true) where
  pub its_table : nat_lt t tables ≡ true
  its_table = (and_parts (nat_lt t tables) (has_key k row && has_number_key row) h).0

  pub its_key : has_key k row ≡ true
  its_key = (and_parts (has_key k row) (has_number_key row) (and_parts (nat_lt t tables) (has_key k row && has_number_key row) h).1).0

  pub key_known : key_of row ≡ Some k
  key_known = key_is row k its_key

  pub key_fits : fits_i64 k ≡ true
  key_fits = sym (ap is_key key_known) ∙ (and_parts (has_key k row) (has_number_key row) (and_parts (nat_lt t tables) (has_key k row && has_number_key row) h).1).1

pub same_some : {X : Type 0} (x y : X) → ◌≡◌ {A = Option X} (Some x) (Some y) → x ≡ y
same_some x y e = cc

-- ---- a walk over cells in order

module _ (tables : ℕ) where
  -- what is committed at each place stands there
  abbrev pub AreKeyed : List (Place × Cell) → Type 0
  AreKeyed es = (q : Place) → stands_at tables q.table q.key (held_in es q).committed ≡ true

  keyed_rest : (e : Place × Cell) (es : List (Place × Cell)) → IsBefore e.0 es → AreKeyed (e ∷ es) → AreKeyed es
  keyed_rest e es first keyed q = by_test (is_at (place_cmp q) e.0) refl
    where
      by_test : (b : Bool) → is_at (place_cmp q) e.0 ≡ b → stands_at tables q.table q.key (held_in es q).committed ≡ true
      by_test true at = ap (λ (c : Cell). stands_at tables q.table q.key c.committed) (ap (held_in es) (same_place q e.0 at) ∙ held_before e.0 es first)
      by_test false at = ap (λ (c : Cell). stands_at tables q.table q.key c.committed) (sym (held_later q e es at)) ∙ keyed q

  keyed_first : (e : Place × Cell) (es : List (Place × Cell)) → AreKeyed (e ∷ es) → stands_at tables e.0.table e.0.key e.1.committed ≡ true
  keyed_first e es keyed = ap (λ (c : Cell). stands_at tables e.0.table e.0.key c.committed) (sym (held_first e.0 e es (itself e.0))) ∙ keyed e.0

  module _ (t : ℕ) where
    -- rows behind a place of the table have greater keys
    behind : (p : Place) (es : List (Place × Cell)) → t ≡ p.table → IsBefore p es → AreSorted es → AreKeyed es → list_all (comes_after p.key) (committed_rows t es) ≡ true
    behind p [] same before sorted keyed = refl
    behind p (e ∷ es) same before sorted keyed =
        by_table (behind p es same before.1 sorted.1 (keyed_rest e es sorted.0 keyed)) (e.0.table == t) refl e.1.committed (keyed_first e es keyed)
      where
        by_table : list_all (comes_after p.key) (committed_rows t es) ≡ true → (b : Bool) → (e.0.table == t) ≡ b → (o : Option (List Value)) → stands_at tables e.0.table e.0.key o ≡ true
            → list_all (comes_after p.key) (cond b (option_to_list o) [] ++ committed_rows t es) ≡ true
        by_table rest false d o h = rest
        by_table rest true d None h = rest
        by_table rest true d (Some row) h =
            let less : int_lt p.key e.0.key ≡ true = key_before p e.0 (sym same ∙ sym (eqb-true e.0.table t d)) before.0 in
            and_from (comes_after p.key row) (list_all (comes_after p.key) (committed_rows t es)) (ap (is_greater p.key) (key_known tables e.0.table e.0.key row h) ∙ less) rest

    pub walk_ascends : (es : List (Place × Cell)) → AreSorted es → AreKeyed es → Ascending (committed_rows t es)
    walk_ascends [] sorted keyed = tt
    walk_ascends (e ∷ es) sorted keyed =
        by_table (walk_ascends es sorted.1 (keyed_rest e es sorted.0 keyed)) (λ same. behind e.0 es same sorted.0 sorted.1 (keyed_rest e es sorted.0 keyed)) (e.0.table == t) refl e.1.committed
        (keyed_first e es keyed)
      where
        by_table : Ascending (committed_rows t es) → (t ≡ e.0.table → list_all (comes_after e.0.key) (committed_rows t es) ≡ true) → (b : Bool) → (e.0.table == t) ≡ b
            → (o : Option (List Value)) → stands_at tables e.0.table e.0.key o ≡ true → Ascending (cond b (option_to_list o) [] ++ committed_rows t es)
        by_table rest more false d o h = rest
        by_table rest more true d None h = rest
        by_table rest more true d (Some row) h =
            (e.0.key, key_known tables e.0.table e.0.key row h, key_fits tables e.0.table e.0.key row h, more (sym (eqb-true e.0.table t d)), rest)

    module _ (k : ℤ) where
      abbrev here : Place
      here = place_of t k

      module _ (e : Place × Cell) (es : List (Place × Cell)) (first : IsBefore e.0 es) (rest : find (has_key k) (committed_rows t es) ≡ (held_in es here).committed) where
        none_behind : is_at (place_cmp here) e.0 ≡ true → find (has_key k) (committed_rows t es) ≡ None
        none_behind at = rest ∙ ap (λ (c : Cell). c.committed) (ap (held_in es) (same_place here e.0 at) ∙ held_before e.0 es first)

        later : is_at (place_cmp here) e.0 ≡ false → find (has_key k) (committed_rows t es) ≡ (held_in (e ∷ es) here).committed
        later at = rest ∙ ap (λ (c : Cell). c.committed) (sym (held_later here e es at))

        other_table : (b : Bool) → is_at (place_cmp here) e.0 ≡ b → (e.0.table == t) ≡ false → find (has_key k) (committed_rows t es) ≡ (held_in (e ∷ es) here).committed
        other_table true at d = absurd (both_ways (e.0.table == t) d (eq-eqb e.0.table t (sym (ap (λ (p : Place). p.table) (same_place here e.0 at)))))
        other_table false at d = later at

        no_row : (b : Bool) → is_at (place_cmp here) e.0 ≡ b → e.1.committed ≡ None → find (has_key k) (committed_rows t es) ≡ (held_in (e ∷ es) here).committed
        no_row true at none = none_behind at ∙ sym (ap (λ (c : Cell). c.committed) (held_first here e es at) ∙ none)
        no_row false at none = later at

        a_row : (row : List Value) (b : Bool) → is_at (place_cmp here) e.0 ≡ b → (e.0.table == t) ≡ true → e.1.committed ≡ Some row → has_key e.0.key row ≡ true
            → find (has_key k) (row ∷ committed_rows t es) ≡ (held_in (e ∷ es) here).committed
        a_row row true at d some has =
            let hit : has_key k row ≡ true = ap (λ (p : Place). has_key p.key row) (same_place here e.0 at) ∙ has in
            ap (λ (c : Bool). cond c (Some row) (find (has_key k) (committed_rows t es))) hit ∙ sym (ap (λ (c : Cell). c.committed) (held_first here e es at) ∙ some)
        a_row row false at d some has = found_later k row (committed_rows t es) (false_from_ne_true (has_key k row) away) ∙ later at
          where
            away : has_key k row ≡ true → ⊥
            away h =
                let key : k ≡ e.0.key = same_some k e.0.key (sym (key_is row k h) ∙ key_is row e.0.key has) in
                let same : ◌≡◌ {A = Place} here e.0 = λ i. record { table = sym (eqb-true e.0.table t d) i; key = key i } in
                both_ways (is_at (place_cmp here) e.0) at (subst (λ (p : Place). is_at (place_cmp here) p ≡ true) same (itself here))

        by_table : (b : Bool) → (e.0.table == t) ≡ b → (o : Option (List Value)) → e.1.committed ≡ o → stands_at tables e.0.table e.0.key o ≡ true
            → find (has_key k) (cond b (option_to_list o) [] ++ committed_rows t es) ≡ (held_in (e ∷ es) here).committed
        by_table false d o is h = other_table (is_at (place_cmp here) e.0) refl d
        by_table true d None is h = no_row (is_at (place_cmp here) e.0) refl is
        by_table true d (Some row) is h = a_row row (is_at (place_cmp here) e.0) refl d is (its_key tables e.0.table e.0.key row h)

      pub walk_finds : (es : List (Place × Cell)) → AreSorted es → AreKeyed es → find (has_key k) (committed_rows t es) ≡ (held_in es here).committed
      walk_finds [] sorted keyed = refl
      walk_finds (e ∷ es) sorted keyed =
          by_table e es sorted.0 (walk_finds es sorted.1 (keyed_rest e es sorted.0 keyed)) (e.0.table == t) refl e.1.committed refl (keyed_first e es keyed)

-- ---- what is committed

module _ (catalog : Catalog) (store : Store) (sound : AreSound store) where
  entries_keyed : AreKeyed (tables_of store) store.cells.entries
  entries_keyed q =
      let c = cell_at store q.table q.key in
      (and_parts (stands_at (tables_of store) q.table q.key c.committed) (stands_at (tables_of store) q.table q.key (pending_row c.pending)) (sound q.table q.key)).0

  abbrev walked : ℕ → List (List Value)
  walked t = committed_rows t store.cells.entries

  rows_at : (t : ℕ) (b : Bool) → nat_lt t (tables_of store) ≡ b → rows_of (committed_base catalog store) t ≡ cond b (walked t) []
  rows_at t true e = unwrap_or-slice_get (dumped store) t [] ∙ get_or-map-range_with_len walked 0 (tables_of store) t t [] (ltb-true t (tables_of store) e) (omega arith)
  rows_at t false e =
      let past : tables_of store ≤ t = ltb-false t (tables_of store) e in
      unwrap_or-slice_get (dumped store) t [] ∙ get_or_past (dumped store) t [] (omega (arith, past, length-map-range_with_len walked 0 (tables_of store)))

  not_there : (t : ℕ) (k : ℤ) → nat_lt t (tables_of store) ≡ false → (o : Option (List Value)) → stands_at (tables_of store) t k o ≡ true → None ≡ o
  not_there t k e None h = refl
  not_there t k e (Some row) h = absurd (both_ways (nat_lt t (tables_of store)) e (its_table (tables_of store) t k row h))

  row_by : (t : ℕ) (k : ℤ) (b : Bool) → nat_lt t (tables_of store) ≡ b → row_at (committed_base catalog store) t k ≡ (cell_at store t k).committed
  row_by t k true e = ap (find (has_key k)) (rows_at t true e) ∙ walk_finds (tables_of store) t k store.cells.entries (are_sorted store.cells.entries store.sorted) entries_keyed
  row_by t k false e = ap (find (has_key k)) (rows_at t false e) ∙ not_there t k e (cell_at store t k).committed (entries_keyed (place_of t k))

  -- the committed row of a cell is that of the base
  pub base_row : (t : ℕ) (k : ℤ) → row_at (committed_base catalog store) t k ≡ (cell_at store t k).committed
  base_row t k = row_by t k (nat_lt t (tables_of store)) refl

  all_ordered : (ts : List ℕ) → list_all is_ordered (map walked ts) ≡ true
  all_ordered [] = refl
  all_ordered (t ∷ ts) =
      and_from (is_ordered (walked t)) (list_all is_ordered (map walked ts))
      (to_test (walked t) (walk_ascends (tables_of store) t store.cells.entries (are_sorted store.cells.entries store.sorted) entries_keyed)) (all_ordered ts)

  pub base_ordered : IsSound catalog → tables_of store ≡ length catalog.tables → IsOrdered (committed_base catalog store)
  base_ordered has_keys count = record {
    sound = has_keys;
    tables = length-map-range_with_len walked 0 (tables_of store) ∙ count;
    ordered = all_ordered (range_with_len 0 (tables_of store));
  }

  -- where a transaction hasn't written, it sees what is committed
  pub unwritten_is_committed : (u t : ℕ) (k : ℤ) → wrote_by store u t k ≡ false → seen_by store u t k ≡ row_at (committed_base catalog store) t k
  unwritten_is_committed u t k none =
      ap (λ (b : Bool). cond b (pending_row (cell_at store t k).pending) (cell_at store t k).committed) none ∙ sym (base_row t k)
