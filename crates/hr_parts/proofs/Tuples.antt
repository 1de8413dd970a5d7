-- What a SELECT keeps of two databases that agree where it looks.
use Rattle.std.proofs.Common.{◌≡◌, ℕ, ℤ, Bool, true, false, ◌&&◌, cond, List, [], ◌∷◌, ◌++◌, map, filter, refl, ap, sym, ◌∙◌}
use Rattle.std.specs.List.{list_all, flat_map}
use Rattle.std.proofs.lemmas.Bool.{and_from, and_parts, both_ways, false_from_ne_true}
use Rattle.std.proofs.lemmas.List.Elements.{filter-append}
use Rattle.std.proofs.lemmas.List.Folds.{list_all-append}
use Rattle.hr_rel.specs.declared.value.Value.{Value}
use Rattle.hr_rel.specs.Database.{Database, rows_of}
use Rattle.hr_rel.specs.Holds.{has_number_key}
use Rattle.hr_meaning.specs.Truth.{Tuple}
use Rattle.hr_meaning.specs.Exec.{tuples}
use Rattle.hr_parts.specs.Parts.{Part, covers, lies}
use Rattle.hr_parts.specs.Footprints.{all_lie}

-- ---- filters

module _ {X Y : Type 0} (p : Y → Bool) (f : X → Y) where
  filter_map_by : (x : X) (xs : List X) (b : Bool) → filter p (map f xs) ≡ map f (filter (λ y. p (f y)) xs)
      → cond b (f x ∷ filter p (map f xs)) (filter p (map f xs)) ≡ map f (cond b (x ∷ filter (λ y. p (f y)) xs) (filter (λ y. p (f y)) xs))
  filter_map_by x xs true e = ap (λ l. f x ∷ l) e
  filter_map_by x xs false e = e

  filter_mapped : (xs : List X) → filter p (map f xs) ≡ map f (filter (λ x. p (f x)) xs)
  filter_mapped [] = refl
  filter_mapped (x ∷ xs) = filter_map_by x xs (p (f x)) (filter_mapped xs)

module _ {X : Type 0} where
  none_kept : (p : X → Bool) (xs : List X) → ((x : X) → p x ≡ false) → filter p xs ≡ []
  none_kept p [] none = refl
  none_kept p (x ∷ xs) none = ap (λ b. cond b (x ∷ filter p xs) (filter p xs)) (none x) ∙ none_kept p xs none

  -- tests that agree on elements of a kind keep the same of them
  pub kept_alike : (kind p q : X → Bool) (xs : List X) → list_all kind xs ≡ true → ((x : X) → kind x ≡ true → p x ≡ q x) → filter p xs ≡ filter q xs
  kept_alike kind p q [] all same = refl
  kept_alike kind p q (x ∷ xs) all same =
      let parts = and_parts (kind x) (list_all kind xs) all in
      let first = same x parts.0 in
      let rest = kept_alike kind p q xs parts.1 same in
      λ i. cond (first i) (x ∷ rest i) (rest i)

-- ---- tuples

abbrev keyed : Tuple → Bool
keyed rows = list_all has_number_key rows

with_row : (row : List Value) (us : List Tuple) → has_number_key row ≡ true → list_all keyed us ≡ true → list_all keyed (map (λ u. row ∷ u) us) ≡ true
with_row row [] e h = refl
with_row row (u ∷ us) e h =
    let parts = and_parts (keyed u) (list_all keyed us) h in
    and_from (has_number_key row && keyed u) (list_all keyed (map (λ u. row ∷ u) us)) (and_from (has_number_key row) (keyed u) e parts.0) (with_row row us e parts.1)

with_rows_of : (rows : List (List Value)) (us : List Tuple) → list_all has_number_key rows ≡ true → list_all keyed us ≡ true → list_all keyed (flat_map (λ row. map (λ u. row ∷ u) us) rows) ≡ true
with_rows_of [] us e h = refl
with_rows_of (row ∷ rows) us e h =
    let parts = and_parts (has_number_key row) (list_all has_number_key rows) e in
    let rest = flat_map (λ row. map (λ (u : Tuple). row ∷ u) us) rows in
    list_all-append keyed (map (λ u. row ∷ u) us) rest
    ∙ and_from (list_all keyed (map (λ u. row ∷ u) us)) (list_all keyed rest) (with_row row us parts.0 h) (with_rows_of rows us parts.1 h)

all_keyed : (db : Database) → ((t : ℕ) → list_all has_number_key (rows_of db t) ≡ true) → (ts : List ℕ) → list_all keyed (tuples (map (rows_of db) ts)) ≡ true
all_keyed db keys [] = refl
all_keyed db keys (t ∷ ts) = with_rows_of (rows_of db t) (tuples (map (rows_of db) ts)) (keys t) (all_keyed db keys ts)

-- ---- only the rows in the parts are used

module _ (c : ℤ → Bool) (us vs : List Tuple) (p : Tuple → Bool) (first : (row : List Value) (u : Tuple) → p (row ∷ u) ≡ true → lies c row ≡ true)
    (rest : (row : List Value) → lies c row ≡ true → filter (λ u. p (row ∷ u)) us ≡ filter (λ u. p (row ∷ u)) vs) where
  abbrev before : List Value → List Tuple
  before row = map (λ u. row ∷ u) us

  abbrev after : List Value → List Tuple
  after row = map (λ u. row ∷ u) vs

  kept_by : (row : List Value) (rows : List (List Value)) (b : Bool) → lies c row ≡ b → filter p (flat_map before rows) ≡ filter p (flat_map after (filter (lies c) rows))
      → filter p (before row) ++ filter p (flat_map before rows) ≡ filter p (flat_map after (cond b (row ∷ filter (lies c) rows) (filter (lies c) rows)))
  kept_by row rows true e others =
      let one = filter_mapped p (λ (u : Tuple). row ∷ u) us ∙ ap (map (λ u. row ∷ u)) (rest row e) ∙ sym (filter_mapped p (λ (u : Tuple). row ∷ u) vs) in
      (λ i. one i ++ others i) ∙ sym (filter-append p (after row) (flat_map after (filter (lies c) rows)))
  kept_by row rows false e others =
      let none : filter p (before row) ≡ [] = filter_mapped p (λ (u : Tuple). row ∷ u) us
      ∙ ap (map (λ u. row ∷ u)) (none_kept (λ u. p (row ∷ u)) us (λ u. false_from_ne_true (p (row ∷ u)) (λ h. both_ways (lies c row) e (first row u h)))) in
      ap (λ l. l ++ filter p (flat_map before rows)) none ∙ others

  kept_of : (rows : List (List Value)) → filter p (flat_map before rows) ≡ filter p (flat_map after (filter (lies c) rows))
  kept_of [] = refl
  kept_of (row ∷ rows) = filter-append p (before row) (flat_map before rows) ∙ kept_by row rows (lies c row) refl (kept_of rows)

module _ (parts : List Part) where
  -- the rows of a table that lie in the parts
  abbrev pub part_rows : Database → ℕ → List (List Value)
  part_rows db t = filter (lies (covers parts t)) (rows_of db t)

  in_the_parts : (db : Database) (ts : List ℕ) (p : Tuple → Bool) → ((rows : Tuple) → p rows ≡ true → all_lie parts ts rows ≡ true)
      → filter p (tuples (map (rows_of db) ts)) ≡ filter p (tuples (map (part_rows db) ts))
  in_the_parts db [] p lie = refl
  in_the_parts db (t ∷ ts) p lie = kept_of (covers parts t) (tuples (map (rows_of db) ts)) (tuples (map (part_rows db) ts)) p
      (λ row u h. (and_parts (lies (covers parts t) row) (all_lie parts ts u) (lie (row ∷ u) h)).0)
      (λ row e. in_the_parts db ts (λ u. p (row ∷ u)) (λ u h. (and_parts (lies (covers parts t) row) (all_lie parts ts u) (lie (row ∷ u) h)).1))
      (rows_of db t)

  same_tables : (d e : Database) (ts : List ℕ) → ((t : ℕ) → part_rows d t ≡ part_rows e t) → map (part_rows d) ts ≡ map (part_rows e) ts
  same_tables d e [] same = refl
  same_tables d e (t ∷ ts) same =
      let first = same t in
      let rest = same_tables d e ts same in
      λ i. first i ∷ rest i

  module _ (ts : List ℕ) (p : Tuple → Bool) (lie : (rows : Tuple) → list_all has_number_key rows ≡ true → p rows ≡ true → all_lie parts ts rows ≡ true) where
    abbrev keyed_too : Tuple → Bool
    keyed_too rows = keyed rows && p rows

    once_keyed : (b c : Bool) → b ≡ true → c ≡ (b && c)
    once_keyed true c e = refl
    once_keyed false c e = cc

    with_keys : (db : Database) → ((t : ℕ) → list_all has_number_key (rows_of db t) ≡ true) → filter p (tuples (map (rows_of db) ts)) ≡ filter keyed_too (tuples (map (part_rows db) ts))
    with_keys db keys = kept_alike keyed p keyed_too (tuples (map (rows_of db) ts)) (all_keyed db keys ts) (λ u e. once_keyed (keyed u) (p u) e)
        ∙ in_the_parts db ts keyed_too (λ rows h. let both = and_parts (keyed rows) (p rows) h in lie rows both.0 both.1)

    -- a condition that only rows in the parts pass keeps the same of two databases that have the same rows there
    pub same_kept : (d e : Database) → ((t : ℕ) → list_all has_number_key (rows_of d t) ≡ true) → ((t : ℕ) → list_all has_number_key (rows_of e t) ≡ true)
        → ((t : ℕ) → part_rows d t ≡ part_rows e t) → filter p (tuples (map (rows_of d) ts)) ≡ filter p (tuples (map (rows_of e) ts))
    same_kept d e keys others same = with_keys d keys ∙ ap (λ (l : List (List (List Value))). filter keyed_too (tuples l)) (same_tables d e ts same) ∙ sym (with_keys e others)
