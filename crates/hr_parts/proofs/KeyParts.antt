-- Intervals of keys are footprints.
use Rattle.std.proofs.Common.{◌≡◌, ℕ, suc, ◌+◌, ◌==◌, ℤ, Bool, true, false, ◌&&◌, ◌||◌, cond, not, List, [], ◌∷◌, ◌++◌, refl, ap, sym, ◌∙◌, arith}
use Rattle.std.specs.Prelude.{Option, Some, None, int_le, unwrap_or, slice_get}
use Rattle.std.specs.List.{list_all, list_any}
use Rattle.std.proofs.lemmas.Bool.{and_from, and_parts, or_left, or_right, eq-eqb}
use Rattle.std.proofs.lemmas.Int.{ints}
use Rattle.std.proofs.lemmas.List.Folds.{list_any-append}
use Rattle.hr_rel.specs.declared.value.Value.{Value}
use Rattle.hr_rel.specs.declared.value.Value.TheVariants as value
use Rattle.hr_rel.specs.declared.expr.Pred.{Pred}
use Rattle.hr_rel.specs.declared.stmt.Stmt.{Stmt}
use Rattle.hr_rel.specs.declared.stmt.Stmt.TheVariants as stmt
use Rattle.hr_rel.specs.declared.stmt.SelectStmt.{SelectStmt}
use Rattle.hr_rel.specs.Database.{value_at, key_of}
use Rattle.hr_rel.specs.Kinds.{fits_i64}
use Rattle.hr_rel.specs.Holds.{is_key, has_number_key}
use Rattle.hr_meaning.specs.Truth.{Tuple, is_kept}
use Rattle.hr_parts.specs.declared.keys.Keys.{Keys}
use Rattle.hr_parts.specs.Parts.{Part, is_in, covers, written, takes, lies}
use Rattle.hr_parts.specs.Footprints.{all_lie, new_lies, ChangesLie, Covers}
use Rattle.hr_parts.specs.Keys.{has_in, spanning, kept_keys, select_keys, one_key, new_keys, key_part, entry_parts, key_parts}
use Rattle.hr_parts.proofs.Rows.{all_imply}
use Rattle.hr_parts.proofs.KeyLaws.{in_common, in_left, in_right, kept_has}

-- ---- a row by its key

-- the first value of a row is its key
pub first_value : (row : List Value) (k : ℤ) → key_of row ≡ Some k → value_at 0 row ≡ value.Int k
first_value [] k e = cc
first_value (value.Null ∷ row) k e = cc
first_value (value.Text t ∷ row) k e = cc
first_value (value.Int n ∷ row) k e = cc

-- what holds of all keys of 64 bits that a row may have holds of the row
takes_by : (keys : ℤ → Bool) (row : List Value) → ((k : ℤ) → key_of row ≡ Some k → fits_i64 k ≡ true → keys k ≡ true) → (o : Option ℤ) → key_of row ≡ o → is_key o ≡ true → takes keys o ≡ true
takes_by keys row each None e h = cc
takes_by keys row each (Some k) e h = each k e h

lies_by : (keys : ℤ → Bool) (row : List Value) → has_number_key row ≡ true → ((k : ℤ) → key_of row ≡ Some k → fits_i64 k ≡ true → keys k ≡ true) → lies keys row ≡ true
lies_by keys row h each = takes_by keys row each (key_of row) refl h

-- ---- SELECT

pub select_has : (entry : ℕ) (s : SelectStmt) (rows : Tuple) (k : ℤ) → value_at 0 (unwrap_or (slice_get rows entry) []) ≡ value.Int k → fits_i64 k ≡ true
    → (is_kept s.on rows && is_kept s.filter rows) ≡ true → has_in (select_keys entry s) k ≡ true
select_has entry s rows k at fits h =
    let parts = and_parts (is_kept s.on rows) (is_kept s.filter rows) h in
    in_common (kept_keys entry s.on) (kept_keys entry s.filter) k (kept_has entry rows k at fits s.on parts.0) (kept_has entry rows k at fits s.filter parts.1)

covers_part : (w : Bool) (t : ℕ) (keys : Option Keys) (k : ℤ) → has_in keys k ≡ true → covers (key_part w t keys) t k ≡ true
covers_part w t None k h = cc
covers_part w t (Some keys) k h =
    let parts = and_parts (int_le keys.low k) (int_le k keys.high) h in
    or_left (is_in t k record { table = t; low = keys.low; high = keys.high; written = w }) false
    (and_from ((t == t) && int_le keys.low k) (int_le k keys.high) (and_from (t == t) (int_le keys.low k) (eq-eqb t t refl) parts.0) parts.1)

module _ (s : SelectStmt) (whole : Tuple) (h : (is_kept s.on whole && is_kept s.filter whole) ≡ true) where
  -- the rows from a place on are those of the whole tuple
  abbrev AreRest : ℕ → Tuple → Type 0
  AreRest entry rows = (i : ℕ) → slice_get whole (entry + i) ≡ slice_get rows i

  rest_of : (entry : ℕ) (row : List Value) (rows : Tuple) → AreRest entry (row ∷ rows) → AreRest (suc entry) rows
  rest_of entry row rows are i = let one : suc entry + i ≡ entry + suc i = omega arith in ap (slice_get whole) one ∙ are (suc i)

  more_parts : (parts others : List Part) (ts : List ℕ) (rows : Tuple) → ((t : ℕ) (k : ℤ) → covers parts t k ≡ true → covers others t k ≡ true) → all_lie parts ts rows ≡ true → all_lie others ts rows ≡ true
  more_parts parts others [] rows more e = refl
  more_parts parts others (t ∷ ts) [] more e = refl
  more_parts parts others (t ∷ ts) (row ∷ rows) more e =
      let both = and_parts (lies (covers parts t) row) (all_lie parts ts rows) e in
      and_from (lies (covers others t) row) (all_lie others ts rows) (more_taken (key_of row) both.0) (more_parts parts others ts rows more both.1)
    where
      more_taken : (o : Option ℤ) → takes (covers parts t) o ≡ true → takes (covers others t) o ≡ true
      more_taken None g = refl
      more_taken (Some k) g = more t k g

  entries_lie : (entry : ℕ) (ts : List ℕ) (rows : Tuple) → list_all has_number_key rows ≡ true → AreRest entry rows → all_lie (entry_parts entry s ts) ts rows ≡ true
  entries_lie entry [] rows keys are = refl
  entries_lie entry (t ∷ ts) [] keys are = refl
  entries_lie entry (t ∷ ts) (row ∷ rows) keys are =
      let both = and_parts (has_number_key row) (list_all has_number_key rows) keys in
      let first = key_part false t (select_keys entry s) in
      let rest = entry_parts (suc entry) s ts in
      let together = λ (u : ℕ) (k : ℤ). list_any-append (is_in u k) first rest in
      let here : slice_get whole entry ≡ Some row = (let one : entry ≡ entry + 0 = omega arith in ap (slice_get whole) one ∙ are 0) in
      and_from (lies (covers (first ++ rest) t) row) (all_lie (first ++ rest) ts rows)
      (lies_by (covers (first ++ rest) t) row both.0 (λ k e fits. together t k ∙ or_left (covers first t k) (covers rest t k)
      (covers_part false t (select_keys entry s) k (select_has entry s whole k (ap (λ (o : Option (List Value)). value_at 0 (unwrap_or o [])) here ∙ first_value row k e) fits h))))
      (more_parts rest (first ++ rest) ts rows (λ u k g. together u k ∙ or_right (covers first u k) (covers rest u k) g) (entries_lie (suc entry) ts rows both.1 (rest_of entry row rows are)))

select_lies : (s : SelectStmt) (rows : Tuple) → list_all has_number_key rows ≡ true → (is_kept s.on rows && is_kept s.filter rows) ≡ true → all_lie (entry_parts 0 s s.tables) s.tables rows ≡ true
select_lies s rows keys h = entries_lie s rows h 0 s.tables rows keys (λ i. let none : 0 + i ≡ i = omega arith in ap (slice_get rows) none)

-- ---- UPDATE and DELETE

covers_written : (t : ℕ) (keys : Option Keys) (k : ℤ) → has_in keys k ≡ true → covers (written (key_part true t keys)) t k ≡ true
covers_written t None k h = cc
covers_written t (Some keys) k h = covers_part true t (Some keys) k h

pub row_has : (condition : Option Pred) (row : List Value) (k : ℤ) → key_of row ≡ Some k → fits_i64 k ≡ true → is_kept condition (row ∷ []) ≡ true → has_in (kept_keys 0 condition) k ≡ true
row_has condition row k e fits h = kept_has 0 (row ∷ []) k (first_value row k e) fits condition h

changes_lie : (t : ℕ) (condition : Option Pred) → ChangesLie (key_part true t (kept_keys 0 condition)) t condition
changes_lie t condition row key h =
    lies_by (covers (written (key_part true t (kept_keys 0 condition))) t) row key (λ k e fits. covers_written t (kept_keys 0 condition) k (row_has condition row k e fits h))

-- ---- INSERT

one_has : (o : Option ℤ) (keys : Option Keys) → takes (has_in (spanning (one_key o) keys)) o ≡ true
one_has None keys = refl
one_has (Some n) keys = in_left (one_key (Some n)) keys n (and_from (int_le n n) (int_le n n) (itself n) (itself n))
  where
    itself : (n : ℤ) → int_le n n ≡ true
    itself n = grind (arith, ints)

wider_has : (a b : Option Keys) (o : Option ℤ) → takes (has_in b) o ≡ true → takes (has_in (spanning a b)) o ≡ true
wider_has a b None h = refl
wider_has a b (Some k) h = in_right a b k h

pub new_have : (rows : List (List Value)) → list_all (lies (has_in (new_keys rows))) rows ≡ true
new_have [] = refl
new_have (row ∷ rows) =
    let keys = new_keys rows in
    and_from (lies (has_in (spanning (one_key (key_of row)) keys)) row) (list_all (lies (has_in (spanning (one_key (key_of row)) keys))) rows) (one_has (key_of row) keys)
    (all_imply (lies (has_in keys)) (lies (has_in (spanning (one_key (key_of row)) keys))) rows (λ r. wider_has (one_key (key_of row)) keys (key_of r)) (new_have rows))

new_by : (t : ℕ) (keys : Option Keys) (o : Option ℤ) (b : Bool) → takes (has_in keys) o ≡ true → (not b || takes (covers (written (key_part true t keys)) t) o) ≡ true
new_by t keys o false h = refl
new_by t keys None true h = refl
new_by t keys (Some k) true h = covers_written t keys k h

new_rows : (t : ℕ) (rows : List (List Value)) → list_all (new_lies (covers (written (key_part true t (new_keys rows))) t)) rows ≡ true
new_rows t rows = all_imply (lies (has_in (new_keys rows))) (new_lies (covers (written (key_part true t (new_keys rows))) t)) rows
    (λ row h. new_by t (new_keys rows) (key_of row) (has_number_key row) h) (new_have rows)

-- ---- statements

pub keys_cover : (s : Stmt) → Covers (key_parts s) s
keys_cover (stmt.Select s) = select_lies s
keys_cover (stmt.Insert s) = new_rows s.table s.rows
keys_cover (stmt.Update s) = changes_lie s.table s.filter
keys_cover (stmt.Delete s) = changes_lie s.table s.filter
