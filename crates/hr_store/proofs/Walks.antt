-- What a walk over cells in the order of their places finds, told place by place.
use Rattle.std.proofs.Common.{◌≡◌, ℕ, ℤ, Bool, true, false, ◌&&◌, ◌||◌, not, cond, Option, Some, None, List, [], ◌∷◌, ◌++◌, filter, refl, ap, sym, subst, ◌∙◌, arith}
use Rattle.std.specs.Prelude.{unwrap_or, int_le, int_lt, is_some}
use Rattle.std.specs.List.{list_all, AllByRecursion}
use Rattle.std.specs.List.Sorted.{IsStrictlySortedBy}
use Rattle.std.specs.Map.{keys_of, lookup}
use Rattle.std.specs.Ordering.{nat_cmp, int_cmp, ordering_then, is_eq, is_lt, is_le}
use Rattle.std.specs.declared.cmp.Ordering.{Ordering}
use Rattle.std.specs.declared.cmp.Ordering.TheVariants.{Less, Equal, Greater}
use Rattle.std.specs.declared.ops.Bound.TheVariants.{Included}
use Rattle.std.specs.BTreeMap.{is_at}
use Rattle.std.specs.BTreeMap.Range.{range_contains}
use Rattle.std.specs.Cmp.{Equal-is, eq_by_cmp_equiv}
use Rattle.std.proofs.lemmas.Cmp.{nat_cmp_total}
use Rattle.std.proofs.lemmas.Bool.Decides.{Decides-int_eq}
use Rattle.std.proofs.lemmas.Int.{ints}
use Rattle.std.proofs.lemmas.Bool.{both_ways, false_from_ne_true, and_from}
use Rattle.std.proofs.lemmas.Map.Lookups.{exact_unsigned}
use Rattle.hr_rel.specs.declared.value.Value.{Value}
use Rattle.hr_store.specs.declared.place.Place.{Place}
use Rattle.hr_store.specs.declared.cell.Cell.{Cell}
use Rattle.hr_store.specs.Places.{place_cmp, place_of}
use Rattle.hr_store.specs.Cells.{empty_cell, seen_in}
use Rattle.hr_store.specs.Changes.{is_key_at}
use Rattle.hr_store.specs.Scans.{key_where, keys_seen, Rising}
use Rattle.hr_store.proofs.CellLaws.{same_place}
use Rattle.hr_store.proofs.PutLaws.{itself}

-- ---- entries in order

-- what stands at a place, by entries
abbrev pub held_in : List (Place × Cell) → Place → Cell
held_in es q = unwrap_or (lookup (is_at (place_cmp q)) es) empty_cell

-- the place is before those of all entries
abbrev pub IsBefore : Place → List (Place × Cell) → Type 0
IsBefore p [] = Unit {0}
IsBefore p (e ∷ es) = (place_cmp p e.0 ≡ Less) × IsBefore p es

-- each entry's place is before those behind it
abbrev pub AreSorted : List (Place × Cell) → Type 0
AreSorted [] = Unit {0}
AreSorted (e ∷ es) = IsBefore e.0 es × AreSorted es

before_all : (p : Place) (es : List (Place × Cell)) → AllByRecursion (λ y. place_cmp p y ≡ Less) (keys_of es) → IsBefore p es
before_all p [] h = tt
before_all p (e ∷ es) h = (h.0, before_all p es h.1)

pub are_sorted : (es : List (Place × Cell)) → IsStrictlySortedBy place_cmp (keys_of es) → AreSorted es
unfolding IsStrictlySortedBy
are_sorted [] h = tt
are_sorted (e ∷ es) h = (before_all e.0 es h.0, are_sorted es h.1)

-- places compare alike in either order
pub turned : (p q : Place) → is_at (place_cmp p) q ≡ is_at (place_cmp q) p
turned p q = by_test (is_at (place_cmp p) q) refl
  where
    by_test : (b : Bool) → is_at (place_cmp p) q ≡ b → is_at (place_cmp p) q ≡ is_at (place_cmp q) p
    by_test true e = let same = same_place p q e in e ∙ sym (subst (λ (r : Place). is_at (place_cmp q) r ≡ true) (sym same) (itself q))
    by_test false e = e ∙ sym (false_from_ne_true (is_at (place_cmp q) p) (λ h. both_ways (is_at (place_cmp p) q) e (subst (λ (r : Place). is_at (place_cmp p) r ≡ true) (sym (same_place q p h)) (itself p))))

-- nothing stands before all entries
pub held_before : (p : Place) (es : List (Place × Cell)) → IsBefore p es → held_in es p ≡ empty_cell
held_before p [] h = refl
held_before p (e ∷ es) h = ap (λ (o : Ordering). unwrap_or (cond (is_eq o) (Some e.1) (lookup (is_at (place_cmp p)) es)) empty_cell) h.0 ∙ held_before p es h.1

pub held_first : (p : Place) (e : Place × Cell) (es : List (Place × Cell)) → is_at (place_cmp p) e.0 ≡ true → held_in (e ∷ es) p ≡ e.1
held_first p e es h = ap (λ (b : Bool). unwrap_or (cond b (Some e.1) (lookup (is_at (place_cmp p)) es)) empty_cell) h

pub held_later : (p : Place) (e : Place × Cell) (es : List (Place × Cell)) → is_at (place_cmp p) e.0 ≡ false → held_in (e ∷ es) p ≡ held_in es p
held_later p e es h = ap (λ (b : Bool). unwrap_or (cond b (Some e.1) (lookup (is_at (place_cmp p)) es)) empty_cell) h

-- ---- places of one table

less_of_cond : (x y : Bool) → cond x Less (cond y Greater Equal) ≡ Less → x ≡ true
less_of_cond true y e = refl
less_of_cond false true e = cc
less_of_cond false false e = cc

same_number : (n : ℕ) → nat_cmp n n ≡ Equal
same_number n = (Equal-is (nat_cmp n n)).0 ((eq_by_cmp_equiv nat_cmp_total).refl n)

in_one_table : (t : ℕ) (k l : ℤ) → place_cmp (place_of t k) (place_of t l) ≡ int_cmp k l
in_one_table t k l = ap (λ (o : Ordering). ordering_then o (int_cmp k l)) (same_number t)

pub key_before : (p q : Place) → p.table ≡ q.table → place_cmp p q ≡ Less → int_lt p.key q.key ≡ true
key_before p q same h =
    let e : place_cmp p q ≡ int_cmp p.key q.key = ap (λ (n : ℕ). ordering_then (nat_cmp n q.table) (int_cmp p.key q.key)) same ∙ in_one_table q.table p.key q.key in
    less_of_cond (int_lt p.key q.key) (int_lt q.key p.key) (sym e ∙ h)

-- ---- an interval of keys

lt_le : (a b : ℤ) → int_lt a b ≡ true → int_le a b ≡ true
lt_le a b h = grind (arith, ints)

gt_not_le : (a b : ℤ) → int_lt b a ≡ true → int_le a b ≡ true → ⊥
gt_not_le a b h k = grind (arith, ints)

le_itself : (a : ℤ) → int_le a a ≡ true
le_itself a = grind (arith, ints)

same_key : (a b : ℤ) → int_lt a b ≡ false → int_lt b a ≡ false → a ≡ b
same_key a b h k = (Decides-int_eq a b).0 (by_tests (int_lt a b) (int_lt b a) h k)
  where
    by_tests : (x y : Bool) → x ≡ false → y ≡ false → is_eq (cond x Less (cond y Greater Equal)) ≡ true
    by_tests false false e f = refl
    by_tests true y e f = cc
    by_tests false true e f = cc

le_by : (a b : ℤ) (x y : Bool) → int_lt a b ≡ x → int_lt b a ≡ y → is_le (cond x Less (cond y Greater Equal)) ≡ int_le a b
le_by a b true y e f = sym (lt_le a b e)
le_by a b false true e f = sym (false_from_ne_true (int_le a b) (gt_not_le a b f))
le_by a b false false e f = sym (subst (λ (c : ℤ). int_le a c ≡ true) (same_key a b e f) (le_itself a))

at_least : (a b : ℤ) → is_le (int_cmp a b) ≡ int_le a b
at_least a b = le_by a b (int_lt a b) (int_lt b a) refl refl

ge_by : (a b : ℤ) (x y : Bool) → int_lt b a ≡ x → int_lt a b ≡ y → not (is_lt (cond x Less (cond y Greater Equal))) ≡ int_le a b
ge_by a b true y e f = sym (false_from_ne_true (int_le a b) (gt_not_le a b e))
ge_by a b false true e f = sym (lt_le a b f)
ge_by a b false false e f = sym (subst (λ (c : ℤ). int_le a c ≡ true) (same_key a b f e) (le_itself a))

at_most : (a b : ℤ) → not (is_lt (int_cmp b a)) ≡ int_le a b
at_most a b = ge_by a b (int_lt b a) (int_lt a b) refl refl

module _ (txn t : ℕ) (low high : ℤ) where
  abbrev pub is_between : Place → Bool
  is_between q = range_contains place_cmp (Included (place_of t low)) (Included (place_of t high)) q

  pub between : (k : ℤ) → is_between (place_of t k) ≡ (int_le low k && int_le k high)
  between k =
      (λ i. is_le (in_one_table t low k i) && not (is_lt (in_one_table t high k i)))
      ∙ (λ i. at_least low k i && at_most k high i)

  table_by : (q : Place) (o : Ordering) → nat_cmp t q.table ≡ o
      → (is_le (ordering_then o (int_cmp low q.key)) && not (is_lt (ordering_then o (int_cmp high q.key)))) ≡ true → t ≡ q.table
  table_by q Less e h = cc
  table_by q Greater e h = cc
  table_by q Equal e h = exact_unsigned t q.table e

  pub its_table : (q : Place) → is_between q ≡ true → t ≡ q.table
  its_table q h = table_by q (nat_cmp t q.table) refl h

  pub its_place : (q : Place) → is_between q ≡ true → place_of t q.key ≡ q
  its_place q h = ap (λ (n : ℕ). place_of n q.key) (its_table q h)

  abbrev found : List (Place × Cell) → List ℤ
  found es = keys_seen txn (filter (λ (e : Place × Cell). is_between e.0) es)

  -- ---- which keys are found

  module _ (k : ℤ) where
    abbrev here : Place
    here = place_of t k

    abbrev wanted : Cell → Bool
    wanted cell = is_between here && is_some (seen_in txn cell)

    -- where nothing stands no key is wanted
    none_wanted : (cell : Cell) → cell ≡ empty_cell → wanted cell ≡ false
    none_wanted cell e = ap wanted e ∙ no_more (is_between here)
      where
        no_more : (b : Bool) → (b && false) ≡ false
        no_more true = refl
        no_more false = refl

    not_between : (cell : Cell) → is_between here ≡ false → wanted cell ≡ false
    not_between cell e = ap (λ (b : Bool). b && is_some (seen_in txn cell)) e

    module _ (e : Place × Cell) (es : List (Place × Cell)) (first : IsBefore e.0 es) (rest : is_key_at t (found es) here ≡ wanted (held_in es here)) where
      none_behind : is_at (place_cmp here) e.0 ≡ true → is_key_at t (found es) here ≡ false
      none_behind at = rest ∙ none_wanted (held_in es here) (ap (held_in es) (same_place here e.0 at) ∙ held_before e.0 es first)

      outside : (b : Bool) → is_at (place_cmp here) e.0 ≡ b → is_between e.0 ≡ false → is_key_at t (found es) here ≡ wanted (held_in (e ∷ es) here)
      outside true at out = none_behind at ∙ sym (not_between (held_in (e ∷ es) here) (ap is_between (same_place here e.0 at) ∙ out))
      outside false at out = rest ∙ ap wanted (sym (held_later here e es at))

      unseen : (b : Bool) → is_at (place_cmp here) e.0 ≡ b → seen_in txn e.1 ≡ None → is_key_at t (found es) here ≡ wanted (held_in (e ∷ es) here)
      unseen true at none = none_behind at ∙ sym (ap wanted (held_first here e es at) ∙ ap (λ (o : Option (List Value)). is_between here && is_some o) none ∙ no_more (is_between here))
        where
          no_more : (b : Bool) → (b && false) ≡ false
          no_more true = refl
          no_more false = refl
      unseen false at none = rest ∙ ap wanted (sym (held_later here e es at))

      shown : (row : List Value) (b : Bool) → is_at (place_cmp here) e.0 ≡ b → is_between e.0 ≡ true → seen_in txn e.1 ≡ Some row
          → (is_at (place_cmp (place_of t e.0.key)) here || is_key_at t (found es) here) ≡ wanted (held_in (e ∷ es) here)
      shown row true at in_it some =
          let hit : is_at (place_cmp (place_of t e.0.key)) here ≡ true = ap (λ (p : Place). is_at (place_cmp p) here) (its_place e.0 in_it) ∙ turned e.0 here ∙ at in
          ap (λ (b : Bool). b || is_key_at t (found es) here) hit
          ∙ sym (ap wanted (held_first here e es at) ∙ (λ i. (ap is_between (same_place here e.0 at) ∙ in_it) i && is_some (some i)))
      shown row false at in_it some =
          let miss : is_at (place_cmp (place_of t e.0.key)) here ≡ false = ap (λ (p : Place). is_at (place_cmp p) here) (its_place e.0 in_it) ∙ turned e.0 here ∙ at in
          ap (λ (b : Bool). b || is_key_at t (found es) here) miss ∙ rest ∙ ap wanted (sym (held_later here e es at))

      by_row : (o : Option (List Value)) → is_between e.0 ≡ true → seen_in txn e.1 ≡ o
          → is_key_at t (key_where e.0.key o ++ found es) here ≡ wanted (held_in (e ∷ es) here)
      by_row None in_it none = unseen (is_at (place_cmp here) e.0) refl none
      by_row (Some row) in_it some = shown row (is_at (place_cmp here) e.0) refl in_it some

      by_range : (b : Bool) → is_between e.0 ≡ b
          → is_key_at t (keys_seen txn (cond b (e ∷ filter (λ (f : Place × Cell). is_between f.0) es) (filter (λ (f : Place × Cell). is_between f.0) es))) here ≡ wanted (held_in (e ∷ es) here)
      by_range true in_it = by_row (seen_in txn e.1) in_it refl
      by_range false out = outside (is_at (place_cmp here) e.0) refl out

    pub keys_are : (es : List (Place × Cell)) → AreSorted es → is_key_at t (found es) here ≡ wanted (held_in es here)
    keys_are [] h = sym (none_wanted empty_cell refl)
    keys_are (e ∷ es) h = by_range e es h.0 (keys_are es h.1) (is_between e.0) refl

  -- ---- their order

  above : (e : Place × Cell) (es : List (Place × Cell)) → is_between e.0 ≡ true → IsBefore e.0 es → list_all (int_lt e.0.key) (found es) ≡ true
  above e [] in_it h = refl
  above e (f ∷ es) in_it h = by_range (above e es in_it h.1) (is_between f.0) refl
    where
      by_row : list_all (int_lt e.0.key) (found es) ≡ true → (o : Option (List Value)) → is_between f.0 ≡ true → list_all (int_lt e.0.key) (key_where f.0.key o ++ found es) ≡ true
      by_row rest None also = rest
      by_row rest (Some row) also = and_from (int_lt e.0.key f.0.key) (list_all (int_lt e.0.key) (found es)) (key_before e.0 f.0 (sym (its_table e.0 in_it) ∙ its_table f.0 also) h.0) rest

      by_range : list_all (int_lt e.0.key) (found es) ≡ true → (b : Bool) → is_between f.0 ≡ b
          → list_all (int_lt e.0.key) (keys_seen txn (cond b (f ∷ filter (λ (g : Place × Cell). is_between g.0) es) (filter (λ (g : Place × Cell). is_between g.0) es))) ≡ true
      by_range rest true also = by_row rest (seen_in txn f.1) also
      by_range rest false out = rest

  pub keys_rise : (es : List (Place × Cell)) → AreSorted es → Rising (found es)
  keys_rise [] h = tt
  keys_rise (e ∷ es) h = by_range (keys_rise es h.1) (is_between e.0) refl
    where
      by_row : Rising (found es) → (o : Option (List Value)) → is_between e.0 ≡ true → Rising (key_where e.0.key o ++ found es)
      by_row rest None in_it = rest
      by_row rest (Some row) in_it = (above e es in_it h.0, rest)

      by_range : Rising (found es) → (b : Bool) → is_between e.0 ≡ b → Rising (keys_seen txn (cond b (e ∷ filter (λ (g : Place × Cell). is_between g.0) es) (filter (λ (g : Place × Cell). is_between g.0) es)))
      by_range rest true in_it = by_row rest (seen_in txn e.1) in_it
      by_range rest false out = rest
