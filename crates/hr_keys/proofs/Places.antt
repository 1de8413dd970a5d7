-- The place of a key in rows in order, and the rows near it.
use Rattle.std.proofs.Common.{◌≡◌, ℕ, zero, suc, ◌+◌, ◌-◌, ◌<◌, ◌≤◌, ℤ, pos, negsuc, Bool, true, false, not, ◌&&◌, ◌||◌, cond, nat_lt, List, [], ◌∷◌, length, take, drop, get_or, refl, ap, sym, subst, ◌∙◌, arith, lt-ltb, ltb-true, ltb-false, is_eq}
use Rattle.std.specs.Prelude.{Option, Some, None, int_lt, insert, is_some, unwrap_or}
use Rattle.std.specs.Option.{option_map}
use Rattle.std.specs.declared.cmp.Ordering.TheVariants.{Less, Equal, Greater}
use Rattle.std.specs.List.{list_all, list_any, position_or_len, AllWithin}
use Rattle.std.proofs.lemmas.Bool.{and_parts}
use Rattle.std.proofs.lemmas.List.Sums.{position_or_len_is}
use Rattle.hr_rel.specs.declared.value.Value.{Value}
use Rattle.hr_rel.specs.Database.{key_of}
use Rattle.hr_rel.specs.Holds.{is_ordered}
use Rattle.hr_meaning.specs.Insert.{is_number, is_greater, has_key, comes_after, place_for, put_row}
use Rattle.hr_statement_laws.proofs.Ascending.{Ascending, from_test, put, put_is, all_put}
use Rattle.hr_keys.specs.Keys.{Splits, IsClear}

-- ---- numbers

less_less : (a b c : ℤ) → int_lt a b ≡ true → int_lt b c ≡ true → int_lt a c ≡ true
less_less (pos a) (pos b) (pos c) h k = lt-ltb a c (omega (arith, ltb-true a b h, ltb-true b c k))
less_less (pos a) (pos b) (negsuc c) h k = cc
less_less (pos a) (negsuc b) c h k = cc
less_less (negsuc a) (pos b) (pos c) h k = refl
less_less (negsuc a) (pos b) (negsuc c) h k = cc
less_less (negsuc a) (negsuc b) (pos c) h k = refl
less_less (negsuc a) (negsuc b) (negsuc c) h k = lt-ltb c a (omega (arith, ltb-true b a h, ltb-true c b k))

-- a is less than b, which c isn't less than
less_within : (a b c : ℤ) → int_lt a b ≡ true → int_lt c b ≡ false → int_lt a c ≡ true
less_within (pos a) (pos b) (pos c) h k = lt-ltb a c (omega (arith, ltb-true a b h, ltb-false c b k))
less_within (pos a) (pos b) (negsuc c) h k = cc
less_within (pos a) (negsuc b) c h k = cc
less_within (negsuc a) (pos b) (pos c) h k = refl
less_within (negsuc a) (pos b) (negsuc c) h k = cc
less_within (negsuc a) (negsuc b) (pos c) h k = refl
less_within (negsuc a) (negsuc b) (negsuc c) h k = lt-ltb c a (omega (arith, ltb-true b a h, ltb-false b c k))

unequal : (x y : Bool) → y ≡ true → is_eq (cond x Less (cond y Greater Equal)) ≡ false
unequal true y e = refl
unequal false true e = refl
unequal false false e = cc

unequal_less : (x y : Bool) → x ≡ true → is_eq (cond x Less (cond y Greater Equal)) ≡ false
unequal_less true y e = refl
unequal_less false y e = cc

nor : (a b : Bool) → a ≡ false → b ≡ false → (a || b) ≡ false
nor true b e f = cc
nor false b e f = f

-- ---- one row

other_key : (n : ℤ) (k : Option ℤ) → is_greater n k ≡ true → is_number n k ≡ false
other_key n None h = cc
other_key n (Some m) h = unequal (int_lt m n) (int_lt n m) h

later : (n m : ℤ) (k : Option ℤ) → int_lt n m ≡ true → is_greater m k ≡ true → is_greater n k ≡ true
later n m None h k = cc
later n m (Some l) h k = less_less n m l h k

none_has : (n : ℤ) (rows : List (List Value)) → list_all (comes_after n) rows ≡ true → list_any (has_key n) rows ≡ false
none_has n [] h = refl
none_has n (row ∷ rows) h =
    let parts = and_parts (comes_after n row) (list_all (comes_after n) rows) h in
    nor (has_key n row) (list_any (has_key n) rows) (other_key n (key_of row) parts.0) (none_has n rows parts.1)

all_later : (n m : ℤ) (rows : List (List Value)) → int_lt n m ≡ true → list_all (comes_after m) rows ≡ true → list_all (comes_after n) rows ≡ true
all_later n m [] h k = refl
all_later n m (row ∷ rows) h k =
    let parts = and_parts (comes_after m row) (list_all (comes_after m) rows) k in
    both_true (comes_after n row) (list_all (comes_after n) rows) (later n m (key_of row) h parts.0) (all_later n m rows h parts.1)
  where
    both_true : (a b : Bool) → a ≡ true → b ≡ true → (a && b) ≡ true
    both_true true b e f = f
    both_true false b e f = cc

-- ---- rows in order

splits_by_order : (rows : List (List Value)) → Ascending rows → Splits rows
splits_by_order [] h = tt
splits_by_order (row ∷ rows) h = ((λ n after. all_later n h.0 rows (sym (ap (is_greater n) h.1) ∙ after) h.3), splits_by_order rows h.4)

pub splits_in_order : (rows : List (List Value)) → is_ordered rows ≡ true → Splits rows
splits_in_order rows h = splits_by_order rows (from_test rows h)

-- ---- binary search

one_after : (n : ℤ) (rows : List (List Value)) (j : ℕ) (d : List Value) → list_all (comes_after n) rows ≡ true → j < length rows → comes_after n (get_or rows j d) ≡ true
one_after n [] j d h le = absurd (omega arith)
one_after n (row ∷ rows) zero d h le = (and_parts (comes_after n row) (list_all (comes_after n) rows) h).0
one_after n (row ∷ rows) (suc j) d h le = one_after n rows j d (and_parts (comes_after n row) (list_all (comes_after n) rows) h).1 (omega arith)

first_not : (a b : Bool) → (a ≡ true → b ≡ true) → not b ≡ true → not a ≡ true
first_not true true h e = e
first_not true false h e = absurd (no (h refl))
  where
    no : false ≡ true → ⊥
    no f = cc
first_not false b h e = refl

pub parted : (n : ℤ) (rows : List (List Value)) → Splits rows → (i j : ℕ) (d : List Value) → i ≤ j → j < length rows → not (comes_after n (get_or rows j d)) ≡ true → not (comes_after n (get_or rows i d)) ≡ true
parted n [] h i j d le lt o = absurd (omega arith)
parted n (row ∷ rows) h zero zero d le lt o = o
parted n (row ∷ rows) h zero (suc j) d le lt o = first_not (comes_after n row) (comes_after n (get_or rows j d)) (λ e. one_after n rows j d (h.0 n e) (omega arith)) o
parted n (row ∷ rows) h (suc i) zero d le lt o = absurd (omega arith)
parted n (row ∷ rows) h (suc i) (suc j) d le lt o = parted n rows h.1 i j d (omega arith) (omega arith) o

not_false : (b : Bool) → not b ≡ true → b ≡ false
not_false true e = cc
not_false false e = refl

not_true : (b : Bool) → not b ≡ false → b ≡ true
not_true true e = refl
not_true false e = cc

length_so : (k n : ℕ) (b : Bool) → nat_lt k n ≡ b → k ≤ n → unwrap_or (cond b (Some k) None) n ≡ k
length_so k n true e le = refl
length_so k n false e le = let no = ltb-false k n e in omega (arith, no, le)

-- the place that is found is that of the definition
pub place_found : (n : ℤ) (rows : List (List Value)) (i : ℕ) → i ≤ length rows
    → AllWithin (λ row. not (comes_after n row) ≡ true) rows 0 i → AllWithin (λ row. not (comes_after n row) ≡ false) rows i (length rows)
    → i ≡ place_for rows n
place_found n rows i le before behind =
    let at : position_or_len (comes_after n) rows ≡ i =
    position_or_len_is (comes_after n) rows i [] le (λ k lt. not_false (comes_after n (get_or rows k [])) (before k [] (omega arith) lt))
    (λ lt. not_true (comes_after n (get_or rows i [])) (behind i [] (omega arith) lt)) in
    sym at ∙ sym (length_so (position_or_len (comes_after n) rows) (length rows) (nat_lt (position_or_len (comes_after n) rows) (length rows)) refl (subst (λ k. k ≤ length rows) (sym at) le))

-- ---- the rows near a key

abbrev place : ℤ → List (List Value) → ℕ
place n rows = position_or_len (comes_after n) rows

place_is : (n : ℤ) (rows : List (List Value)) → place n rows ≤ length rows → place_for rows n ≡ place n rows
place_is n rows le = length_so (place n rows) (length rows) (nat_lt (place n rows) (length rows)) refl le

within_by : (n : ℤ) (rows : List (List Value)) (b : Bool) → place n rows ≤ length rows → cond (not b) (1 + place n rows) 0 ≤ suc (length rows)
within_by n rows true le = omega arith
within_by n rows false le = omega (arith, le)

within : (n : ℤ) (rows : List (List Value)) → place n rows ≤ length rows
within n [] = omega arith
within n (row ∷ rows) = within_by n rows (comes_after n row) (within n rows)

behind_by : (n : ℤ) (row : List Value) (rows : List (List Value)) (k : ℕ) (b : Bool) → comes_after n row ≡ b → Splits (row ∷ rows)
    → list_any (has_key n) (drop k rows) ≡ false → list_any (has_key n) (drop (cond (not b) (1 + k) 0) (row ∷ rows)) ≡ false
behind_by n row rows k true e h rest = nor (has_key n row) (list_any (has_key n) rows) (other_key n (key_of row) e) (none_has n rows (h.0 n e))
behind_by n row rows k false e h rest =
    let one : 1 + k ≡ suc k = omega arith in
    ap (λ m. list_any (has_key n) (drop m (row ∷ rows))) one ∙ rest

behind : (n : ℤ) (rows : List (List Value)) → Splits rows → list_any (has_key n) (drop (place n rows) rows) ≡ false
behind n [] h = refl
behind n (row ∷ rows) h = behind_by n row rows (place n rows) (comes_after n row) refl h (behind n rows h.1)

-- a row before others, of which the first isn't greater than n, doesn't have the key n
lesser : (n : ℤ) (row : List Value) (rows : List (List Value)) (k : ℕ) → Ascending (row ∷ rows) → place n rows ≡ suc k → has_key n row ≡ false
lesser n row [] k h e = absurd (omega (arith, e))
lesser n row (next ∷ rows) k h e = by_test (comes_after n next) refl e
  where
    by_test : (b : Bool) → comes_after n next ≡ b → cond (not b) (1 + place n rows) 0 ≡ suc k → has_key n row ≡ false
    by_test true f g = absurd (omega (arith, g))
    by_test false f g =
        let rises : int_lt h.0 h.4.0 ≡ true = sym (ap (is_greater h.0) h.4.1) ∙ (and_parts (comes_after h.0 next) (list_all (comes_after h.0) rows) h.3).0 in
        let upto : int_lt n h.4.0 ≡ false = sym (ap (is_greater n) h.4.1) ∙ f in
        ap (is_number n) h.1 ∙ unequal_less (int_lt h.0 n) (int_lt n h.0) (less_within h.0 h.4.0 n rises upto)

before_by : (n : ℤ) (row : List Value) (rows : List (List Value)) (k : ℕ) → place n rows ≡ k → Ascending (row ∷ rows) → list_any (has_key n) (take (k - 1) rows) ≡ false
    → list_any (has_key n) (take k (row ∷ rows)) ≡ false
before_by n row rows zero e h rest = refl
before_by n row rows (suc k) e h rest =
    let one : suc k - 1 ≡ k = omega arith in
    nor (has_key n row) (list_any (has_key n) (take k rows)) (lesser n row rows k h e) (sym (ap (λ m. list_any (has_key n) (take m rows)) one) ∙ rest)

before_at : (n : ℤ) (row : List Value) (rows : List (List Value)) (b : Bool) → Ascending (row ∷ rows) → list_any (has_key n) (take (place n rows - 1) rows) ≡ false
    → list_any (has_key n) (take (cond (not b) (1 + place n rows) 0 - 1) (row ∷ rows)) ≡ false
before_at n row rows true h rest = refl
before_at n row rows false h rest =
    let same : 1 + place n rows - 1 ≡ place n rows = omega arith in
    ap (λ m. list_any (has_key n) (take m (row ∷ rows))) same ∙ before_by n row rows (place n rows) refl h rest

before : (n : ℤ) (rows : List (List Value)) → Ascending rows → list_any (has_key n) (take (place n rows - 1) rows) ≡ false
before n [] h = refl
before n (row ∷ rows) h = before_at n row rows (comes_after n row) h (before n rows h.4)

-- all rows
pub clear_all : (p : List Value → Bool) (rows : List (List Value)) (to : ℕ) → to ≡ length rows → IsClear p 0 to rows
clear_all p rows to e = (refl, ap (λ m. list_any p (drop m rows)) e ∙ none rows)
  where
    none : (rest : List (List Value)) → list_any p (drop (length rest) rest) ≡ false
    none [] = refl
    none (row ∷ rest) = none rest

pub clear_near : (n : ℤ) (rows : List (List Value)) (to : ℕ) → is_ordered rows ≡ true → to ≡ place_for rows n → IsClear (has_key n) (to - 1) to rows
clear_near n rows to h e =
    let ascending = from_test rows h in
    let at : to ≡ place n rows = e ∙ place_is n rows (within n rows) in (
      ap (λ m. list_any (has_key n) (take (m - 1) rows)) at ∙ before n rows ascending,
      ap (λ m. list_any (has_key n) (drop m rows)) at ∙ behind n rows (splits_by_order rows ascending),
    )

-- ---- one row more

between : (n m : ℤ) (k : Option ℤ) → is_greater n k ≡ true → is_greater m k ≡ false → int_lt n m ≡ true
between n m None h k = cc
between n m (Some l) h k = less_within n l m h k

both_true : (a b : Bool) → a ≡ true → b ≡ true → (a && b) ≡ true
both_true true b e f = f
both_true false b e f = cc

module _ (m : ℤ) (row : List Value) (keyed : key_of row ≡ Some m) where
  put_by : (y : List Value) (ys : List (List Value)) (b : Bool) → comes_after m y ≡ b → Splits (y ∷ ys) → Splits (put (comes_after m) row ys)
      → Splits (cond b (row ∷ y ∷ ys) (y ∷ put (comes_after m) row ys))
  put_by y ys true e h rest = (
    (λ n after.
        let less : int_lt n m ≡ true = sym (ap (is_greater n) keyed) ∙ after in
        both_true (comes_after n y) (list_all (comes_after n) ys) (later n m (key_of y) less e) (all_later n m ys less (h.0 m e))),
    h,
  )
  put_by y ys false e h rest =
      ((λ n after. all_put (comes_after m) row (comes_after n) ys (ap (is_greater n) keyed ∙ between n m (key_of y) after e) (h.0 n after)), rest)

  put_at_place : (ys : List (List Value)) → Splits ys → Splits (put (comes_after m) row ys)
  put_at_place [] h = ((λ n after. refl), tt)
  put_at_place (y ∷ ys) h = put_by y ys (comes_after m y) refl h (put_at_place ys h.1)

-- a row with a key, put at its place
pub splits_with_row : (table : List (List Value)) (row : List Value) → Splits table → is_some (key_of row) ≡ true → Splits (put_row table row)
splits_with_row table row h e = by_key (key_of row) refl e
  where
    by_key : (k : Option ℤ) → key_of row ≡ k → is_some k ≡ true → Splits (put_row table row)
    by_key None f g = cc
    by_key (Some m) f g =
        let so : put_row table row ≡ put (comes_after m) row table =
        ap (λ (o : Option ℤ). insert table (unwrap_or (option_map (place_for table) o) (length table)) row) f ∙ put_is (comes_after m) row table in
        subst Splits (sym so) (put_at_place m row f table h)
