-- What is put and what is gone after a statement, told key by key.
use Rattle.std.proofs.Common.{◌≡◌, ◌<◌, ◌+◌, ℕ, ℤ, pos, Bool, true, false, not, cond, ◌&&◌, ◌||◌, Option, Some, None, List, [], ◌∷◌, ◌++◌, length, take, get_or, refl, ap, sym, ◌∙◌}
use Rattle.std.proofs.lemmas.List.{take_more}
use Rattle.std.specs.Prelude.{unwrap_or, is_some}
use Rattle.std.specs.List.{list_all, list_any, find}
use Rattle.std.specs.Cmp.{Equal-is, eq_by_cmp_equiv}
use Rattle.std.specs.BTreeMap.{is_at}
use Rattle.hr_rel.specs.declared.value.Value.{Value}
use Rattle.hr_meaning.specs.Order.{row_cmp}
use Rattle.hr_meaning.specs.Insert.{has_key, comes_after}
use Rattle.hr_answer.proofs.ValueOrder.{row_exact, row_total}
use Rattle.hr_statement_laws.proofs.Ascending.{Ascending}
use Rattle.hr_parts.proofs.Rows.{key_is, found_first, found_later}
use Rattle.hr_store.specs.declared.place.Place.{Place}
use Rattle.hr_store.specs.Places.{place_cmp, place_of}
use Rattle.hr_store.specs.Store.{is_key_in}
use Rattle.hr_store.proofs.CellLaws.{same_place}
use Rattle.hr_range_engine.specs.Changed.{is_row, seen_at, is_seen, new_rows, gone_keys, new_at}
use Rattle.hr_range_engine.proofs.Starts.{none_above}

-- ---- the same row

pub is_that_row : (row : List Value) (o : Option (List Value)) → is_row row o ≡ true → o ≡ Some row
is_that_row row None h = cc
is_that_row row (Some other) h = ap Some (sym (row_exact row other ((Equal-is (row_cmp row other)).0 h)))

pub is_itself : (row : List Value) → is_row row (Some row) ≡ true
is_itself row = (eq_by_cmp_equiv row_total).refl row

-- ---- rows that are put

module _ (seen : ℤ → Option (List Value)) (k : ℤ) where
  seen_there : (row : List Value) → has_key k row ≡ true → is_seen seen row ≡ is_row row (seen k)
  seen_there row e = ap (λ (o : Option ℤ). is_row row (seen_at seen o)) (key_is row k e)

  passed_over : (row : List Value) (rows : List (List Value)) → has_key k row ≡ false → (b : Bool) → find (has_key k) (cond b (row ∷ new_rows seen rows) (new_rows seen rows)) ≡ find (has_key k) (new_rows seen rows)
  passed_over row rows e true = found_later k row (new_rows seen rows) e
  passed_over row rows e false = refl

  first_of : (row : List Value) (rows : List (List Value)) → has_key k row ≡ true → find (has_key k) (new_rows seen rows) ≡ None → (b : Bool)
      → find (has_key k) (cond (not b) (row ∷ new_rows seen rows) (new_rows seen rows)) ≡ cond b None (Some row)
  first_of row rows e none true = none
  first_of row rows e none false = found_first k row (new_rows seen rows) e

  by_key : (row : List Value) (rows : List (List Value)) → Ascending (row ∷ rows) → find (has_key k) (new_rows seen rows) ≡ new_at (seen k) (find (has_key k) rows) → (b : Bool) → has_key k row ≡ b
      → find (has_key k) (new_rows seen (row ∷ rows)) ≡ new_at (seen k) (cond b (Some row) (find (has_key k) rows))
  by_key row rows h rest false e = passed_over row rows e (not (is_seen seen row)) ∙ rest
  by_key row rows h rest true e =
      let same : ◌≡◌ {A = Option ℤ} (Some h.0) (Some k) = sym h.1 ∙ key_is row k e in
      let none : find (has_key k) rows ≡ None = none_above k rows (ap (λ (o : Option ℤ). list_all (comes_after (unwrap_or o k)) rows) (sym same) ∙ h.3) in
      ap (λ (c : Bool). find (has_key k) (cond (not c) (row ∷ new_rows seen rows) (new_rows seen rows))) (seen_there row e)
      ∙ first_of row rows e (rest ∙ ap (new_at (seen k)) none) (is_row row (seen k))

  -- at its key the row that is left is put, if it wasn't seen so
  pub new_found : (rows : List (List Value)) → Ascending rows → find (has_key k) (new_rows seen rows) ≡ new_at (seen k) (find (has_key k) rows)
  new_found [] h = refl
  new_found (row ∷ rows) h = by_key row rows h (new_found rows h.4) (has_key k row) refl

-- ---- keys that are gone

pub nothing_more : (b : Bool) → (b && false) ≡ false
nothing_more true = refl
nothing_more false = refl

pub just_that : (b : Bool) → (b && true) ≡ b
just_that true = refl
just_that false = refl

any_found_by : {X : Type 0} (b : Bool) (x : X) (o : Option X) (any : Bool) → any ≡ is_some o → (b || any) ≡ is_some (cond b (Some x) o)
any_found_by true x o any h = refl
any_found_by false x o any h = h

pub any_found : {X : Type 0} (p : X → Bool) (xs : List X) → list_any p xs ≡ is_some (find p xs)
any_found p [] = refl
any_found p (x ∷ xs) = any_found_by (p x) x (find p xs) (list_any p xs) (any_found p xs)

module _ (t : ℕ) (rows : List (List Value)) (k : ℤ) where
  abbrev left_over : ℤ → Bool
  left_over key = list_any (has_key key) rows

  abbrev hits : ℤ → Bool
  hits key = is_at (place_cmp (place_of t key)) (place_of t k)

  missed : (key : ℤ) (keys : List ℤ) → hits key ≡ false → (b : Bool) → is_key_in t (cond b (key ∷ gone_keys rows keys) (gone_keys rows keys)) k ≡ is_key_in t (gone_keys rows keys) k
  missed key keys e true = ap (λ (b : Bool). b || is_key_in t (gone_keys rows keys) k) e
  missed key keys e false = refl

  hit_by : (key : ℤ) (keys : List ℤ) → hits key ≡ true → (c : Bool) → is_key_in t (gone_keys rows keys) k ≡ (is_key_in t keys k && not c)
      → is_key_in t (cond (not c) (key ∷ gone_keys rows keys) (gone_keys rows keys)) k ≡ not c
  hit_by key keys e true rest = rest ∙ nothing_more (is_key_in t keys k)
  hit_by key keys e false rest = ap (λ (b : Bool). b || is_key_in t (gone_keys rows keys) k) e

  by_hit : (key : ℤ) (keys : List ℤ) → is_key_in t (gone_keys rows keys) k ≡ (is_key_in t keys k && not (left_over k)) → (b : Bool) → hits key ≡ b
      → is_key_in t (gone_keys rows (key ∷ keys)) k ≡ ((b || is_key_in t keys k) && not (left_over k))
  by_hit key keys rest false e = missed key keys e (not (left_over key)) ∙ rest
  by_hit key keys rest true e =
      let same : key ≡ k = ap (λ (p : Place). p.key) (same_place (place_of t key) (place_of t k) e) in
      ap (λ (n : ℤ). is_key_in t (cond (not (left_over n)) (key ∷ gone_keys rows keys) (gone_keys rows keys)) k) same ∙ hit_by key keys e (left_over k) rest

  -- of keys those are gone that no row has any more
  pub gone_found : (keys : List ℤ) → is_key_in t (gone_keys rows keys) k ≡ (is_key_in t keys k && not (left_over k))
  gone_found [] = refl
  gone_found (key ∷ keys) = by_hit key keys (gone_found keys) (hits key) refl

-- one key more
module _ (rows : List (List Value)) where
  gone_one : (key : ℤ) (keys : List ℤ) → gone_keys rows (keys ++ key ∷ []) ≡ cond (list_any (has_key key) rows) (gone_keys rows keys) (gone_keys rows keys ++ key ∷ [])
  gone_one key [] = by_test (list_any (has_key key) rows)
    where
      by_test : (b : Bool) → cond (not b) (key ∷ []) [] ≡ cond b [] (key ∷ [])
      by_test true = refl
      by_test false = refl
  gone_one key (first ∷ keys) = by_first (list_any (has_key first) rows) (list_any (has_key key) rows) (gone_one key keys)
    where
      by_first : (b c : Bool) → gone_keys rows (keys ++ key ∷ []) ≡ cond c (gone_keys rows keys) (gone_keys rows keys ++ key ∷ [])
          → cond (not b) (first ∷ gone_keys rows (keys ++ key ∷ [])) (gone_keys rows (keys ++ key ∷ []))
          ≡ cond c (cond (not b) (first ∷ gone_keys rows keys) (gone_keys rows keys)) (cond (not b) (first ∷ gone_keys rows keys) (gone_keys rows keys) ++ key ∷ [])
      by_first true c rest = rest
      by_first false true rest = ap (λ (l : List ℤ). first ∷ l) rest
      by_first false false rest = ap (λ (l : List ℤ). first ∷ l) rest

  pub gone_more : (keys : List ℤ) (i : ℕ) → i < length keys
      → gone_keys rows (take (i + 1) keys) ≡ cond (list_any (has_key (get_or keys i (pos 0))) rows) (gone_keys rows (take i keys)) (gone_keys rows (take i keys) ++ get_or keys i (pos 0) ∷ [])
  gone_more keys i within = ap (gone_keys rows) (take_more keys i (pos 0) within) ∙ gone_one (get_or keys i (pos 0)) (take i keys)
