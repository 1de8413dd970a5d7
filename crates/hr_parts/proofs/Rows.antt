-- Rows in the order of their keys, and what is found in them by a key.
use Rattle.std.proofs.Common.{◌≡◌, ℤ, Bool, true, false, ◌&&◌, cond, not, inl, inr, List, [], ◌∷◌, filter, refl, ap, sym, ◌∙◌, arith}
use Rattle.std.specs.Prelude.{Option, Some, None, int_lt}
use Rattle.std.specs.Ordering.{int_eq, is_eq}
use Rattle.std.specs.declared.cmp.Ordering.TheVariants.{Less, Equal, Greater}
use Rattle.std.specs.List.{list_all, list_any, find}
use Rattle.std.proofs.lemmas.Bool.{and_from, and_parts, false_from_ne_true, both_ways}
use Rattle.std.proofs.lemmas.Bool.Decides.{Decides-int_eq}
use Rattle.std.proofs.lemmas.Int.{ints}
use Rattle.hr_rel.specs.declared.value.Value.{Value}
use Rattle.hr_rel.specs.Database.{key_of}
use Rattle.hr_rel.specs.Holds.{is_key, has_number_key}
use Rattle.hr_meaning.specs.Insert.{is_number, is_greater, has_key, comes_after}
use Rattle.hr_statement_laws.proofs.Ascending.{Ascending, filtered}
use Rattle.hr_parts.specs.Parts.{takes, lies}

-- ---- tests on lists

module _ {X : Type 0} (p q : X → Bool) where
  pub all_imply : (xs : List X) → ((x : X) → p x ≡ true → q x ≡ true) → list_all p xs ≡ true → list_all q xs ≡ true
  all_imply [] each h = refl
  all_imply (x ∷ xs) each h =
      let parts = and_parts (p x) (list_all p xs) h in
      and_from (q x) (list_all q xs) (each x parts.0) (all_imply xs each parts.1)

-- ---- keys

less_through : (a b c : ℤ) → int_lt a b ≡ true → int_lt b c ≡ true → int_lt a c ≡ true
less_through a b c h k = grind (arith, ints)

not_both : (a b : ℤ) → int_lt a b ≡ true → int_lt b a ≡ true → ⊥
not_both a b h k = grind (arith, ints)

above_itself : (a : ℤ) → int_lt a a ≡ true → ⊥
above_itself a h = grind (arith, ints)

pub one_of_three : (a b : ℤ) → int_lt a b ≡ false → int_lt b a ≡ false → a ≡ b
one_of_three a b h k = (Decides-int_eq a b).0 (by_tests (int_lt a b) (int_lt b a) h k)
  where
    by_tests : (x y : Bool) → x ≡ false → y ≡ false → is_eq (cond x Less (cond y Greater Equal)) ≡ true
    by_tests false false e f = refl
    by_tests true y e f = cc
    by_tests false true e f = cc

pub same_key : (m n : ℤ) → int_eq m n ≡ true → m ≡ n
same_key m n e = (Decides-int_eq m n).0 e

pub own_key : (n : ℤ) → int_eq n n ≡ true
own_key n = (Decides-int_eq n n).1 refl

-- a row with this key
pub has_its_key : (row : List Value) (n : ℤ) → key_of row ≡ Some n → has_key n row ≡ true
has_its_key row n e = ap (is_number n) e ∙ own_key n

key_by : (k : ℤ) (o : Option ℤ) → is_number k o ≡ true → o ≡ Some k
key_by k None h = cc
key_by k (Some m) h = ap (λ (n : ℤ). Some n) (same_key m k h)

pub key_is : (row : List Value) (k : ℤ) → has_key k row ≡ true → key_of row ≡ Some k
key_is row k h = key_by k (key_of row) h

above_by : (n : ℤ) (o : Option ℤ) → is_greater n o ≡ true → is_number n o ≡ true → ⊥
above_by n None h e = cc
above_by n (Some m) h e = above_itself n (ap (λ (j : ℤ). int_lt n j) (sym (same_key m n e)) ∙ h)

pub above_more : (n m : ℤ) (o : Option ℤ) → int_lt n m ≡ true → is_greater m o ≡ true → is_greater n o ≡ true
above_more n m None h k = cc
above_more n m (Some l) h k = less_through n m l h k

-- ---- found by a key

pub found_first : (k : ℤ) (row : List Value) (rows : List (List Value)) → has_key k row ≡ true → find (has_key k) (row ∷ rows) ≡ Some row
found_first k row rows e = ap (λ (b : Bool). cond b (Some row) (find (has_key k) rows)) e

pub found_later : (k : ℤ) (row : List Value) (rows : List (List Value)) → has_key k row ≡ false → find (has_key k) (row ∷ rows) ≡ find (has_key k) rows
found_later k row rows e = ap (λ (b : Bool). cond b (Some row) (find (has_key k) rows)) e

none_above : (n : ℤ) (rows : List (List Value)) → list_all (comes_after n) rows ≡ true → find (has_key n) rows ≡ None
none_above n [] h = refl
none_above n (row ∷ rows) h =
    let parts = and_parts (comes_after n row) (list_all (comes_after n) rows) h in
    found_later n row rows (false_from_ne_true (has_key n row) (above_by n (key_of row) parts.0)) ∙ none_above n rows parts.1

-- a lesser key than the first isn't there
none_below : (n : ℤ) (row : List Value) (rows : List (List Value)) → (h : Ascending (row ∷ rows)) → int_lt n h.0 ≡ true → find (has_key n) (row ∷ rows) ≡ None
none_below n row rows h less = none_above n (row ∷ rows)
    (and_from (comes_after n row) (list_all (comes_after n) rows) (ap (is_greater n) h.1 ∙ less)
    (all_imply (comes_after h.0) (comes_after n) rows (λ r. above_more n h.0 (key_of r) less) h.3))

some_is_none : {X : Type 0} (x : X) (o : Option X) → o ≡ Some x → o ≡ None → ⊥
some_is_none x None e f = cc
some_is_none x (Some y) e f = cc

inside : {X : Type 0} (x y : X) → ◌≡◌ {A = Option X} (Some x) (Some y) → x ≡ y
inside x y e = cc

module _ (x y : List Value) (xs ys : List (List Value)) (h : Ascending (x ∷ xs)) (i : Ascending (y ∷ ys))
    (same : (k : ℤ) → find (has_key k) (x ∷ xs) ≡ find (has_key k) (y ∷ ys)) where
  abbrev m : ℤ
  m = h.0

  abbrev n : ℤ
  n = i.0

  no_first : int_lt m n ≡ true → ⊥
  no_first less = some_is_none x (find (has_key m) (x ∷ xs)) (found_first m x xs (has_its_key x m h.1)) (same m ∙ none_below m y ys i less)

  no_second : int_lt n m ≡ true → ⊥
  no_second less = some_is_none y (find (has_key n) (y ∷ ys)) (found_first n y ys (has_its_key y n i.1)) (sym (same n) ∙ none_below n x xs h less)

  pub heads_keys : m ≡ n
  heads_keys = one_of_three m n (false_from_ne_true (int_lt m n) no_first) (false_from_ne_true (int_lt n m) no_second)

  y_has : has_key m y ≡ true
  y_has = has_its_key y m (i.1 ∙ ap (λ (j : ℤ). Some j) (sym heads_keys))

  pub heads : x ≡ y
  heads = inside x y (sym (found_first m x xs (has_its_key x m h.1)) ∙ same m ∙ found_first m y ys y_has)

  above_second : list_all (comes_after m) ys ≡ true
  above_second = ap (λ (j : ℤ). list_all (comes_after j) ys) heads_keys ∙ i.3

  tail_by : (k : ℤ) (b : Bool) → has_key k x ≡ b → find (has_key k) xs ≡ find (has_key k) ys
  tail_by k true e =
      let key : m ≡ k = inside m k (sym h.1 ∙ key_is x k e) in
      ap (λ (j : ℤ). find (has_key j) xs) (sym key) ∙ none_above m xs h.3 ∙ sym (none_above m ys above_second) ∙ ap (λ (j : ℤ). find (has_key j) ys) key
  tail_by k false e = sym (found_later k x xs e) ∙ same k ∙ found_later k y ys (ap (has_key k) (sym heads) ∙ e)

  pub tails : (k : ℤ) → find (has_key k) xs ≡ find (has_key k) ys
  tails k = tail_by k (has_key k x) refl

-- rows in order are known by what is found in them
pub same_rows : (xs ys : List (List Value)) → Ascending xs → Ascending ys → ((k : ℤ) → find (has_key k) xs ≡ find (has_key k) ys) → xs ≡ ys
same_rows [] [] h i same = refl
same_rows [] (y ∷ ys) h i same = absurd (some_is_none y (find (has_key i.0) (y ∷ ys)) (found_first i.0 y ys (has_its_key y i.0 i.1)) (sym (same i.0)))
same_rows (x ∷ xs) [] h i same = absurd (some_is_none x (find (has_key h.0) (x ∷ xs)) (found_first h.0 x xs (has_its_key x h.0 h.1)) (same h.0))
same_rows (x ∷ xs) (y ∷ ys) h i same =
    let first = heads x y xs ys h i same in
    let rest = same_rows xs ys h.4 i.4 (tails x y xs ys h i same) in
    λ j. first j ∷ rest j

-- ---- the rows of which a test takes the keys

module _ (c : ℤ → Bool) where
  taken_by : (k : ℤ) (o : Option ℤ) → o ≡ Some k → takes c o ≡ c k
  taken_by k o e = ap (takes c) e

  found_by : (k : ℤ) (row : List Value) (rows : List (List Value)) (b : Bool) → c k ≡ true → lies c row ≡ b → find (has_key k) (filter (lies c) rows) ≡ find (has_key k) rows
      → find (has_key k) (cond b (row ∷ filter (lies c) rows) (filter (lies c) rows)) ≡ find (has_key k) (row ∷ rows)
  found_by k row rows true e f rest = ap (cond (has_key k row) (Some row)) rest
  found_by k row rows false e f rest = rest ∙ sym (found_later k row rows (false_from_ne_true (has_key k row) away))
    where
      away : has_key k row ≡ true → ⊥
      away h = let both : c k ≡ false = sym (taken_by k (key_of row) (key_is row k h)) ∙ f in both_ways (c k) both e

  -- a row of these keys is found among them
  pub found_in : (k : ℤ) (rows : List (List Value)) → c k ≡ true → find (has_key k) (filter (lies c) rows) ≡ find (has_key k) rows
  found_in k [] e = refl
  found_in k (row ∷ rows) e = found_by k row rows (lies c row) e refl (found_in k rows e)

  missing_by : (k : ℤ) (row : List Value) (rows : List (List Value)) (b : Bool) → c k ≡ false → lies c row ≡ b → find (has_key k) (filter (lies c) rows) ≡ None
      → find (has_key k) (cond b (row ∷ filter (lies c) rows) (filter (lies c) rows)) ≡ None
  missing_by k row rows false e f rest = rest
  missing_by k row rows true e f rest = found_later k row (filter (lies c) rows) (false_from_ne_true (has_key k row) away) ∙ rest
    where
      away : has_key k row ≡ true → ⊥
      away h = let both : c k ≡ true = sym (taken_by k (key_of row) (key_is row k h)) ∙ f in both_ways (c k) e both

  missing : (k : ℤ) (rows : List (List Value)) → c k ≡ false → find (has_key k) (filter (lies c) rows) ≡ None
  missing k [] e = refl
  missing k (row ∷ rows) e = missing_by k row rows (lies c row) e refl (missing k rows e)

  -- rows of two tables that are the same at each of these keys
  pub same_part : (xs ys : List (List Value)) → Ascending xs → Ascending ys → ((k : ℤ) → c k ≡ true → find (has_key k) xs ≡ find (has_key k) ys) → filter (lies c) xs ≡ filter (lies c) ys
  same_part xs ys h i same = same_rows (filter (lies c) xs) (filter (lies c) ys) (filtered (lies c) xs h) (filtered (lies c) ys i) (λ k. by_test k (c k) refl)
    where
      by_test : (k : ℤ) (b : Bool) → c k ≡ b → find (has_key k) (filter (lies c) xs) ≡ find (has_key k) (filter (lies c) ys)
      by_test k true e = found_in k xs e ∙ same k e ∙ sym (found_in k ys e)
      by_test k false e = missing k xs e ∙ sym (missing k ys e)
