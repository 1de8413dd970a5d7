-- Rows in order, as a fact by recursion, and what keeps it.
use Rattle.std.proofs.Common.{◌≡◌, ℕ, suc, ◌+◌, ◌≤◌, ℤ, pos, negsuc, Bool, true, false, ◌&&◌, ◌||◌, cond, not, nat_lt, length, List, [], ◌∷◌, filter, refl, ap, sym, ◌∙◌, arith, lt-ltb, ltb-true, ltb-false, is_eq}
use Rattle.std.specs.Prelude.{Option, Some, None, int_lt, insert, position, unwrap_or}
use Rattle.std.specs.Ordering.{int_eq}
use Rattle.std.specs.declared.cmp.Ordering.TheVariants.{Less, Equal, Greater}
use Rattle.std.specs.List.{list_all, list_any, zip, position_or_len}
use Rattle.std.proofs.lemmas.Bool.{and_from, and_parts}
use Rattle.hr_rel.specs.declared.value.Value.{Value}
use Rattle.hr_rel.specs.Database.{key_of}
use Rattle.hr_rel.specs.Kinds.{fits_i64}
use Rattle.hr_rel.specs.Holds.{is_key, has_number_key, is_below, ascends, is_ordered}
use Rattle.hr_meaning.specs.Insert.{is_number, is_greater, has_key, comes_after}

-- ---- numbers

int_lt_trans : (a b c : ℤ) → int_lt a b ≡ true → int_lt b c ≡ true → int_lt a c ≡ true
int_lt_trans (pos a) (pos b) (pos c) h k = lt-ltb a c (omega (arith, ltb-true a b h, ltb-true b c k))
int_lt_trans (pos a) (pos b) (negsuc c) h k = cc
int_lt_trans (pos a) (negsuc b) c h k = cc
int_lt_trans (negsuc a) (pos b) (pos c) h k = refl
int_lt_trans (negsuc a) (pos b) (negsuc c) h k = cc
int_lt_trans (negsuc a) (negsuc b) (pos c) h k = refl
int_lt_trans (negsuc a) (negsuc b) (negsuc c) h k = lt-ltb c a (omega (arith, ltb-true b a h, ltb-true c b k))

less_by : (x y : Bool) → y ≡ false → is_eq (cond x Less (cond y Greater Equal)) ≡ false → x ≡ true
less_by true y e f = refl
less_by false true e f = cc
less_by false false e f = cc

-- of two numbers that differ, and of which the second isn't less, the first is less
less_else : (m n : ℤ) → int_lt n m ≡ false → int_eq m n ≡ false → int_lt m n ≡ true
less_else m n e f = less_by (int_lt m n) (int_lt n m) e f

-- ---- rows in order

-- each row has a number of 64 bits for its key, and all rows behind it have greater ones
abbrev pub Ascending : List (List Value) → Type 0
Ascending [] = Unit {0}
Ascending (row ∷ rows) = (n : ℤ) × (key_of row ≡ Some n) × (fits_i64 n ≡ true) × (list_all (comes_after n) rows ≡ true) × Ascending rows

later : (n m : ℤ) (k : Option ℤ) → int_lt n m ≡ true → is_greater m k ≡ true → is_greater n k ≡ true
later n m None h k = cc
later n m (Some l) h k = int_lt_trans n m l h k

-- rows above a number are above each lesser one
above_less : (n m : ℤ) (rows : List (List Value)) → int_lt n m ≡ true → list_all (comes_after m) rows ≡ true → list_all (comes_after n) rows ≡ true
above_less n m [] h k = refl
above_less n m (r ∷ rows) h k =
    let parts = and_parts (comes_after m r) (list_all (comes_after m) rows) k in
    and_from (comes_after n r) (list_all (comes_after n) rows) (later n m (key_of r) h parts.0) (above_less n m rows h parts.1)

first_of_two : (r s : List Value) (rows : List (List Value)) (k : Option ℤ) → key_of r ≡ k → is_key k ≡ true → is_below k (key_of s) ≡ true → Ascending (s ∷ rows) → Ascending (r ∷ s ∷ rows)
first_of_two r s rows None e f b h = cc
first_of_two r s rows (Some n) e f b h =
    let less : int_lt n h.0 ≡ true = sym (ap (is_below (Some n)) h.1) ∙ b in
    (n, e, f, and_from (comes_after n s) (list_all (comes_after n) rows) (ap (is_greater n) h.1 ∙ less) (above_less n h.0 rows less h.3), h)

first_alone : (r : List Value) (k : Option ℤ) → key_of r ≡ k → is_key k ≡ true → Ascending (r ∷ [])
first_alone r None e f = cc
first_alone r (Some n) e f = (n, e, f, refl, tt)

pub from_test : (rows : List (List Value)) → is_ordered rows ≡ true → Ascending rows
from_test [] h = tt
from_test (r ∷ []) h = first_alone r (key_of r) refl (and_parts (has_number_key r) true (and_parts (has_number_key r && true) true h).0).0
from_test (r ∷ s ∷ rows) h =
    let parts = and_parts (list_all has_number_key (r ∷ s ∷ rows)) (list_all ascends (zip (r ∷ s ∷ rows) (s ∷ rows))) h in
    let keys = and_parts (has_number_key r) (list_all has_number_key (s ∷ rows)) parts.0 in
    let steps = and_parts (ascends (r, s)) (list_all ascends (zip (s ∷ rows) rows)) parts.1 in
    first_of_two r s rows (key_of r) refl keys.0 steps.0 (from_test (s ∷ rows) (and_from (list_all has_number_key (s ∷ rows)) (list_all ascends (zip (s ∷ rows) rows)) keys.1 steps.1))

pub to_test : (rows : List (List Value)) → Ascending rows → is_ordered rows ≡ true
to_test [] h = refl
to_test (r ∷ []) h = and_from (has_number_key r && true) true (and_from (has_number_key r) true (ap is_key h.1 ∙ h.2) refl) refl
to_test (r ∷ s ∷ rows) h =
    let rest = and_parts (list_all has_number_key (s ∷ rows)) (list_all ascends (zip (s ∷ rows) rows)) (to_test (s ∷ rows) h.4) in
    let less : int_lt h.0 h.4.0 ≡ true = sym (ap (is_greater h.0) h.4.1) ∙ (and_parts (comes_after h.0 s) (list_all (comes_after h.0) rows) h.3).0 in
    let below : ascends (r, s) ≡ true = (λ i. is_below (h.1 i) (h.4.1 i)) ∙ less in
    and_from (has_number_key r && list_all has_number_key (s ∷ rows)) (ascends (r, s) && list_all ascends (zip (s ∷ rows) rows))
    (and_from (has_number_key r) (list_all has_number_key (s ∷ rows)) (ap is_key h.1 ∙ h.2) rest.0)
    (and_from (ascends (r, s)) (list_all ascends (zip (s ∷ rows) rows)) below rest.1)

-- ---- some of the rows

module _ {X : Type 0} (q p : X → Bool) where
  all_by : (x : X) (xs some : List X) (b : Bool) → q x ≡ true → list_all q some ≡ true → list_all q (cond b (x ∷ some) some) ≡ true
  all_by x xs some true e f = and_from (q x) (list_all q some) e f
  all_by x xs some false e f = f

  -- what holds of all holds of those that pass a test
  pub all_filtered : (xs : List X) → list_all q xs ≡ true → list_all q (filter p xs) ≡ true
  all_filtered [] h = refl
  all_filtered (x ∷ xs) h =
      let parts = and_parts (q x) (list_all q xs) h in
      all_by x xs (filter p xs) (p x) parts.0 (all_filtered xs parts.1)

module _ (p : List Value → Bool) where
  kept_by : (r : List Value) (rows : List (List Value)) (b : Bool) → Ascending (r ∷ rows) → Ascending (filter p rows) → Ascending (cond b (r ∷ filter p rows) (filter p rows))
  kept_by r rows true h rest = (h.0, h.1, h.2, all_filtered (comes_after h.0) p rows h.3, rest)
  kept_by r rows false h rest = rest

  pub filtered : (rows : List (List Value)) → Ascending rows → Ascending (filter p rows)
  filtered [] h = tt
  filtered (r ∷ rows) h = kept_by r rows (p r) h (filtered rows h.4)

-- ---- rows with the same keys

abbrev pub SameKeys : List (List Value) → List (List Value) → Type 0
SameKeys [] [] = Unit {0}
SameKeys [] (q ∷ new) = ⊥
SameKeys (r ∷ rows) [] = ⊥
SameKeys (r ∷ rows) (q ∷ new) = (key_of q ≡ key_of r) × SameKeys rows new

above_same : (n : ℤ) (rows new : List (List Value)) → SameKeys rows new → list_all (comes_after n) rows ≡ true → list_all (comes_after n) new ≡ true
above_same n [] [] same h = refl
above_same n [] (q ∷ new) same h = absurd same
above_same n (r ∷ rows) [] same h = absurd same
above_same n (r ∷ rows) (q ∷ new) same h =
    let parts = and_parts (comes_after n r) (list_all (comes_after n) rows) h in
    and_from (comes_after n q) (list_all (comes_after n) new) (ap (is_greater n) same.0 ∙ parts.0) (above_same n rows new same.1 parts.1)

pub with_same_keys : (rows new : List (List Value)) → SameKeys rows new → Ascending rows → Ascending new
with_same_keys [] [] same h = tt
with_same_keys [] (q ∷ new) same h = absurd same
with_same_keys (r ∷ rows) [] same h = absurd same
with_same_keys (r ∷ rows) (q ∷ new) same h = (h.0, same.0 ∙ h.1, h.2, above_same h.0 rows new same.1 h.3, with_same_keys rows new same.1 h.4)

-- ---- one row more

module _ {X : Type 0} (p : X → Bool) (x : X) where
  -- x before the first that passes, or at the end
  abbrev pub put : List X → List X
  put [] = x ∷ []
  put (y ∷ ys) = cond (p y) (x ∷ y ∷ ys) (y ∷ put ys)

  put_by : (y : X) (ys : List X) (k : ℕ) (b : Bool) → insert ys k x ≡ put ys → insert (y ∷ ys) (cond (not b) (1 + k) 0) x ≡ cond b (x ∷ y ∷ ys) (y ∷ put ys)
  put_by y ys k true e = refl
  put_by y ys k false e =
      let one : 1 + k ≡ suc k = omega arith in
      ap (λ (n : ℕ). insert (y ∷ ys) n x) one ∙ ap (λ (l : List X). y ∷ l) e

  put_at : (ys : List X) → insert ys (position_or_len p ys) x ≡ put ys
  put_at [] = refl
  put_at (y ∷ ys) = put_by y ys (position_or_len p ys) (p y) (put_at ys)

  within_by : (ys : List X) (k : ℕ) (b : Bool) → k ≤ length ys → cond b (1 + k) 0 ≤ suc (length ys)
  within_by ys k true h = omega (arith, h)
  within_by ys k false h = omega arith

  within : (ys : List X) → position_or_len p ys ≤ length ys
  within [] = omega arith
  within (y ∷ ys) = within_by ys (position_or_len p ys) (not (p y)) (within ys)

  place_by : (k n : ℕ) (b : Bool) → nat_lt k n ≡ b → k ≤ n → unwrap_or (cond b (Some k) None) n ≡ k
  place_by k n true e h = refl
  place_by k n false e h = omega (arith, ltb-false k n e, h)

  -- the place before the first that passes, or at the end
  pub put_is : (ys : List X) → insert ys (unwrap_or (position p ys) (length ys)) x ≡ put ys
  put_is ys = ap (λ (n : ℕ). insert ys n x) (place_by (position_or_len p ys) (length ys) (nat_lt (position_or_len p ys) (length ys)) refl (within ys)) ∙ put_at ys

  all_put_by : (q : X → Bool) (y : X) (ys : List X) (b : Bool) → q x ≡ true → q y ≡ true → list_all q ys ≡ true → list_all q (put ys) ≡ true
      → list_all q (cond b (x ∷ y ∷ ys) (y ∷ put ys)) ≡ true
  all_put_by q y ys true e f g h = and_from (q x) (q y && list_all q ys) e (and_from (q y) (list_all q ys) f g)
  all_put_by q y ys false e f g h = and_from (q y) (list_all q (put ys)) f h

  pub all_put : (q : X → Bool) (ys : List X) → q x ≡ true → list_all q ys ≡ true → list_all q (put ys) ≡ true
  all_put q [] e h = and_from (q x) true e refl
  all_put q (y ∷ ys) e h =
      let parts = and_parts (q y) (list_all q ys) h in
      all_put_by q y ys (p y) e parts.0 parts.1 (all_put q ys e parts.1)

neither : (a b : Bool) → (a || b) ≡ false → (a ≡ false) × (b ≡ false)
neither true b e = cc
neither false b e = (refl, e)

module _ (n : ℤ) (row : List Value) (keyed : key_of row ≡ Some n) (fits : fits_i64 n ≡ true) where
  put_ascends_by : (r : List Value) (rows : List (List Value)) (b : Bool) → comes_after n r ≡ b → has_key n r ≡ false → Ascending (r ∷ rows) → Ascending (put (comes_after n) row rows)
      → Ascending (cond b (row ∷ r ∷ rows) (r ∷ put (comes_after n) row rows))
  put_ascends_by r rows true t other h rest =
      let less : int_lt n h.0 ≡ true = sym (ap (is_greater n) h.1) ∙ t in
      (n, keyed, fits, and_from (comes_after n r) (list_all (comes_after n) rows) t (above_less n h.0 rows less h.3), h)
  put_ascends_by r rows false t other h rest =
      let less : int_lt h.0 n ≡ true = less_else h.0 n (sym (ap (is_greater n) h.1) ∙ t) (sym (ap (is_number n) h.1) ∙ other) in
      let above : comes_after h.0 row ≡ true = ap (is_greater h.0) keyed ∙ less in
      (h.0, h.1, h.2, all_put (comes_after n) row (comes_after h.0) rows above h.3, rest)

  pub put_ascends : (rows : List (List Value)) → list_any (has_key n) rows ≡ false → Ascending rows → Ascending (put (comes_after n) row rows)
  put_ascends [] none h = (n, keyed, fits, refl, tt)
  put_ascends (r ∷ rows) none h =
      let parts = neither (has_key n r) (list_any (has_key n) rows) none in
      put_ascends_by r rows (comes_after n r) refl parts.0 h (put_ascends rows parts.1 h.4)
