-- The groups of some rows or pairs with one more at the end: the first in which its values stand, or a new one at its place.
use Rattle.std.proofs.Common.{◌≡◌, ℕ, zero, suc, ◌<◌, ◌≤◌, Bool, true, false, not, ◌&&◌, cond, List, [], ◌∷◌, ◌++◌, length, map, get_or, take, drop, insert, Ok, refl, ap, sym, subst, ◌∙◌, arith, inl, inr, ◌⊎◌}
use Rattle.std.specs.Prelude.{slice_set, nat_lt}
use Rattle.hr_base.specs.declared.limits.TheConstants.{MAX_ROWS}
use Rattle.std.specs.List.{list_all, AllWithin}
use Rattle.std.specs.Ordering.{is_eq, is_lt, is_gt, ordering_reverse}
use Rattle.std.specs.declared.cmp.Ordering.{Ordering}
use Rattle.std.specs.declared.cmp.Ordering.TheVariants.{Less, Equal, Greater}
use Rattle.std.proofs.lemmas.List.{append-nil, append_assoc, map-append, length-map, take_all, drop_all}
use Rattle.std.proofs.lemmas.List.Elements.{filter-append}
use Rattle.std.proofs.lemmas.Bool.{and_parts, and_from, cases_lt, lt-ltb, ltb-true}
use Rattle.hr_rel.specs.declared.value.Value.{Value}
use Rattle.hr_rel.specs.declared.answer.Answer.TheVariants.{Failed}
use Rattle.hr_rel.specs.declared.answer.RunError.TheVariants.{TooManyRows}
use Rattle.hr_rel.specs.declared.expr.ColRef.{ColRef}
use Rattle.hr_rel.specs.declared.stmt.Item.{Item}
use Rattle.hr_meaning.specs.Order.{row_cmp}
use Rattle.hr_meaning.specs.Truth.{Tuple}
use Rattle.hr_meaning.specs.Value.{and_then, each}
use Rattle.hr_meaning.specs.Select.{item_value, group_row, group_of, groups_of, ascending, put_group, members, few, shown}
use Rattle.hr_meaning.specs.Select as select
use Rattle.hr_answer.proofs.ValueOrder.{row_total, row_exact}
use Rattle.hr_eval.specs.declared.tally.Tally.{Tally}
use Rattle.hr_eval.specs.declared.groups.Group.{Group}
use Rattle.hr_eval.specs.Tallies.{tally_of, tally_step, tally_shown}
use Rattle.hr_eval.specs.declared.groups.Groups.{Groups}
use Rattle.hr_eval.specs.Groups.{IsGrouped, group_shown, keys_of, group_so_far, steps, new_group, group_step, put_at, put_tuple, is_over, is_at, is_rising, is_ascending}
use Rattle.hr_eval.proofs.TallyLaws.{tally_last, tally_as_shown}

clash : {X : Type 0} → true ≡ false → X
clash h = cc

-- ---- the tallies of a group

pub steps_last : (t : Tuple) (kept : List Tuple) (items : List Item) → steps t items (map (tally_of kept) items) ≡ map (tally_of (kept ++ t ∷ [])) items
steps_last t kept [] = refl
steps_last t kept (i ∷ items) = λ k. tally_last kept t i k ∷ steps_last t kept items k

-- the steps of the code, one more item on
pub steps_more : (t : Tuple) (items : List Item) (xs : List Tally) (n : ℕ) (i : Item) (s v : Tally) → n < length items → n < length xs → i ≡ get_or items n i → s ≡ get_or xs n s → v ≡ tally_step t i s
    → take (suc n) (slice_set xs n v) ++ steps t (drop (suc n) items) (drop (suc n) (slice_set xs n v)) ≡ take n xs ++ steps t (drop n items) (drop n xs)
steps_more t [] xs n i s v li lx ei es ev = absurd (omega arith)
steps_more t (j ∷ items) [] n i s v li lx ei es ev = absurd (omega arith)
steps_more t (j ∷ items) (x ∷ xs) zero i s v li lx ei es ev = λ k. (ev ∙ ap (λ y. tally_step t y s) ei ∙ ap (λ y. tally_step t j y) es) k ∷ steps t items xs
steps_more t (j ∷ items) (x ∷ xs) (suc n) i s v li lx ei es ev = λ k. x ∷ steps_more t items xs n i s v (omega arith) (omega arith) ei es ev k

-- and at the end
pub steps_end : (t : Tuple) (items : List Item) (xs : List Tally) (n : ℕ) → length xs ≤ n → take n xs ++ steps t (drop n items) (drop n xs) ≡ xs
steps_end t items xs n h = (λ k. take_all n xs h k ++ steps t (drop n items) (drop_all n xs h k)) ∙ ap (λ ys. xs ++ ys) (none (drop n items)) ∙ append-nil xs
  where
    none : (is : List Item) → steps t is [] ≡ []
    none [] = refl
    none (i ∷ is) = refl

pub tallies_shown : (kept : List Tuple) (items : List Item) → each tally_shown (map (tally_of kept) items) ≡ group_row items kept
tallies_shown kept [] = refl
tallies_shown kept (i ∷ items) =
    ap (λ r. and_then r (λ y. and_then (each tally_shown (map (tally_of kept) items)) (λ ys. Ok (y ∷ ys)))) (tally_as_shown kept i)
    ∙ ap (λ r. and_then (item_value kept i) (λ y. and_then r (λ ys. Ok (y ∷ ys)))) (tallies_shown kept items)

-- ---- the order of rows

itself : (g : List Value) → row_cmp g g ≡ Equal
itself g = turned (row_cmp g g) (row_total.antisymm g g)
  where
    turned : (o : Ordering) → o ≡ ordering_reverse o → o ≡ Equal
    turned Less e = cc
    turned Equal e = refl
    turned Greater e = cc

turned : (g h : List Value) (o : Ordering) → row_cmp g h ≡ o → row_cmp h g ≡ ordering_reverse o
turned g h o e = row_total.antisymm h g ∙ ap ordering_reverse e

above : (g h k : List Value) → row_cmp g h ≡ Greater → row_cmp h k ≡ Greater → row_cmp g k ≡ Greater
above g h k x y = turned k g Less (row_total.trans k h g (turned h k Greater y) (turned g h Greater x))

-- ---- putting a group in

put_by : (g h : List Value) (hs : List (List Value)) (o : Ordering) → row_cmp g h ≡ o → put_group g (h ∷ hs) ≡ select.put_at o g h hs (put_group g hs)
put_by g h hs o e = ap (λ p. select.put_at p g h hs (put_group g hs)) e

puts_turn_by : (g h k : List Value) (ks : List (List Value)) (x y z : Ordering) → row_cmp g k ≡ x → row_cmp h k ≡ y → row_cmp g h ≡ z
    → put_group g (put_group h ks) ≡ put_group h (put_group g ks) → put_group g (put_group h (k ∷ ks)) ≡ put_group h (put_group g (k ∷ ks))
puts_turn_by g h k ks Less Less Less ex ey ez ih =
    ap (put_group g) (put_by h k ks Less ey) ∙ put_by g h (k ∷ ks) Less ez
    ∙ sym (ap (put_group h) (put_by g k ks Less ex) ∙ put_by h g (k ∷ ks) Greater (turned g h Less ez) ∙ ap (λ l. g ∷ l) (put_by h k ks Less ey))
puts_turn_by g h k ks Less Less Equal ex ey ez ih =
    let same = row_exact g h ez in
    subst (λ f. put_group g (put_group f (k ∷ ks)) ≡ put_group f (put_group g (k ∷ ks))) same refl
puts_turn_by g h k ks Less Less Greater ex ey ez ih =
    ap (put_group g) (put_by h k ks Less ey) ∙ put_by g h (k ∷ ks) Greater ez ∙ ap (λ l. h ∷ l) (put_by g k ks Less ex)
    ∙ sym (ap (put_group h) (put_by g k ks Less ex) ∙ put_by h g (k ∷ ks) Less (turned g h Greater ez))
puts_turn_by g h k ks Less Equal z ex ey ez ih =
    let higher : row_cmp h g ≡ Greater = turned g h Less (subst (λ f. row_cmp g f ≡ Less) (sym (row_exact h k ey)) ex) in
    ap (put_group g) (put_by h k ks Equal ey) ∙ put_by g k ks Less ex
    ∙ sym (ap (put_group h) (put_by g k ks Less ex) ∙ put_by h g (k ∷ ks) Greater higher ∙ ap (λ l. g ∷ l) (put_by h k ks Equal ey))
puts_turn_by g h k ks Less Greater z ex ey ez ih =
    let higher : row_cmp h g ≡ Greater = above h k g ey (turned g k Less ex) in
    ap (put_group g) (put_by h k ks Greater ey) ∙ put_by g k (put_group h ks) Less ex
    ∙ sym (ap (put_group h) (put_by g k ks Less ex) ∙ put_by h g (k ∷ ks) Greater higher ∙ ap (λ l. g ∷ l) (put_by h k ks Greater ey))
puts_turn_by g h k ks Equal Less z ex ey ez ih =
    let higher : row_cmp g h ≡ Greater = turned h g Less (subst (λ f. row_cmp h f ≡ Less) (sym (row_exact g k ex)) ey) in
    ap (put_group g) (put_by h k ks Less ey) ∙ put_by g h (k ∷ ks) Greater higher ∙ ap (λ l. h ∷ l) (put_by g k ks Equal ex)
    ∙ sym (ap (put_group h) (put_by g k ks Equal ex) ∙ put_by h k ks Less ey)
puts_turn_by g h k ks Equal Equal z ex ey ez ih =
    ap (put_group g) (put_by h k ks Equal ey) ∙ put_by g k ks Equal ex ∙ sym (ap (put_group h) (put_by g k ks Equal ex) ∙ put_by h k ks Equal ey)
puts_turn_by g h k ks Equal Greater z ex ey ez ih =
    ap (put_group g) (put_by h k ks Greater ey) ∙ put_by g k (put_group h ks) Equal ex
    ∙ sym (ap (put_group h) (put_by g k ks Equal ex) ∙ put_by h k ks Greater ey)
puts_turn_by g h k ks Greater Less z ex ey ez ih =
    let higher : row_cmp g h ≡ Greater = above g k h ex (turned h k Less ey) in
    ap (put_group g) (put_by h k ks Less ey) ∙ put_by g h (k ∷ ks) Greater higher ∙ ap (λ l. h ∷ l) (put_by g k ks Greater ex)
    ∙ sym (ap (put_group h) (put_by g k ks Greater ex) ∙ put_by h k (put_group g ks) Less ey)
puts_turn_by g h k ks Greater Equal z ex ey ez ih =
    ap (put_group g) (put_by h k ks Equal ey) ∙ put_by g k ks Greater ex
    ∙ sym (ap (put_group h) (put_by g k ks Greater ex) ∙ put_by h k (put_group g ks) Equal ey)
puts_turn_by g h k ks Greater Greater z ex ey ez ih =
    ap (put_group g) (put_by h k ks Greater ey) ∙ put_by g k (put_group h ks) Greater ex ∙ ap (λ l. k ∷ l) ih
    ∙ sym (ap (put_group h) (put_by g k ks Greater ex) ∙ put_by h k (put_group g ks) Greater ey)

-- which of two groups is put in first makes no difference
puts_turn : (g h : List Value) (ks : List (List Value)) → put_group g (put_group h ks) ≡ put_group h (put_group g ks)
puts_turn g h [] = alone (row_cmp g h) refl
  where
    alone : (z : Ordering) → row_cmp g h ≡ z → put_group g (h ∷ []) ≡ put_group h (g ∷ [])
    alone Less e = put_by g h [] Less e ∙ sym (put_by h g [] Greater (turned g h Less e))
    alone Equal e = put_by g h [] Equal e ∙ sym (put_by h g [] Equal (turned g h Equal e) ∙ ap (λ f. f ∷ []) (row_exact g h e))
    alone Greater e = put_by g h [] Greater e ∙ sym (put_by h g [] Less (turned g h Greater e))
puts_turn g h (k ∷ ks) = puts_turn_by g h k ks (row_cmp g k) (row_cmp h k) (row_cmp g h) refl refl refl (puts_turn g h ks)

ascending_last : (gs : List (List Value)) (g : List Value) → ascending (gs ++ g ∷ []) ≡ put_group g (ascending gs)
ascending_last [] g = refl
ascending_last (h ∷ gs) g = ap (put_group h) (ascending_last gs g) ∙ puts_turn h g (ascending gs)

pub keys_last : (columns : List ColRef) (kept : List Tuple) (t : Tuple) → keys_of columns (kept ++ t ∷ []) ≡ put_group (group_of columns t) (keys_of columns kept)
keys_last columns kept t = ap ascending (map-append (group_of columns) kept (t ∷ [])) ∙ ascending_last (map (group_of columns) kept) (group_of columns t)

-- ---- what all groups pass

module _ (p : List Value → Bool) where
  all_put_by : (g h : List Value) (hs : List (List Value)) (o : Ordering) → row_cmp g h ≡ o
      → list_all p (put_group g hs) ≡ (p g && list_all p hs) → list_all p (put_group g (h ∷ hs)) ≡ (p g && (p h && list_all p hs))
  all_put_by g h hs Less e ih = ap (list_all p) (put_by g h hs Less e)
  all_put_by g h hs Equal e ih = ap (list_all p) (put_by g h hs Equal e) ∙ twice (p h) (list_all p hs) ∙ ap (λ f. p f && (p h && list_all p hs)) (sym (row_exact g h e))
    where
      twice : (a b : Bool) → (a && b) ≡ (a && (a && b))
      twice true b = refl
      twice false b = refl
  all_put_by g h hs Greater e ih = ap (list_all p) (put_by g h hs Greater e) ∙ ap (λ b. p h && b) ih ∙ turn (p h) (p g) (list_all p hs)
    where
      turn : (a b c : Bool) → (a && (b && c)) ≡ (b && (a && c))
      turn true true c = refl
      turn true false c = refl
      turn false true c = refl
      turn false false c = refl

  all_put : (g : List Value) (hs : List (List Value)) → list_all p (put_group g hs) ≡ (p g && list_all p hs)
  all_put g [] = refl
  all_put g (h ∷ hs) = all_put_by g h hs (row_cmp g h) refl (all_put g hs)

-- a test that another implies
all_weaker : (p q : List Value → Bool) → ((k : List Value) → p k ≡ true → q k ≡ true) → (ks : List (List Value)) → list_all p ks ≡ true → list_all q ks ≡ true
all_weaker p q f [] h = refl
all_weaker p q f (k ∷ ks) h =
    let parts = and_parts (p k) (list_all p ks) h in
    and_from (q k) (list_all q ks) (f k parts.0) (all_weaker p q f ks parts.1)

-- ---- groups in order

abbrev is_below : List Value → List Value → Bool
is_below g k = is_lt (row_cmp g k)

less_by : (o : Ordering) → is_lt o ≡ true → o ≡ Less
less_by Less h = refl
less_by Equal h = clash (sym h)
less_by Greater h = clash (sym h)

all_below : (g k : List Value) (ks : List (List Value)) → row_cmp g k ≡ Less → list_all (is_below k) ks ≡ true → list_all (is_below g) ks ≡ true
all_below g k ks e h = all_weaker (is_below k) (is_below g) (λ j b. ap is_lt (row_total.trans g k j e (less_by (row_cmp k j) b))) ks h

rising_put_by : (g k : List Value) (ks : List (List Value)) (o : Ordering) → row_cmp g k ≡ o → is_rising (k ∷ ks) ≡ true → is_rising (put_group g ks) ≡ true
    → is_rising (put_group g (k ∷ ks)) ≡ true
rising_put_by g k ks Less e h ih =
    let parts = and_parts (list_all (is_below k) ks) (is_rising ks) h in
    let low = and_from (is_below g k) (list_all (is_below g) ks) (ap is_lt e) (all_below g k ks e parts.0) in
    ap is_rising (put_by g k ks Less e) ∙ and_from (list_all (is_below g) (k ∷ ks)) (is_rising (k ∷ ks)) low h
rising_put_by g k ks Equal e h ih = ap is_rising (put_by g k ks Equal e) ∙ h
rising_put_by g k ks Greater e h ih =
    let parts = and_parts (list_all (is_below k) ks) (is_rising ks) h in
    let low = all_put (is_below k) g ks ∙ and_from (is_below k g) (list_all (is_below k) ks) (ap is_lt (turned g k Greater e)) parts.0 in
    ap is_rising (put_by g k ks Greater e) ∙ and_from (list_all (is_below k) (put_group g ks)) (is_rising (put_group g ks)) low ih

rising_put : (g : List Value) (ks : List (List Value)) → is_rising ks ≡ true → is_rising (put_group g ks) ≡ true
rising_put g [] h = refl
rising_put g (k ∷ ks) h = rising_put_by g k ks (row_cmp g k) refl h (rising_put g ks (and_parts (list_all (is_below k) ks) (is_rising ks) h).1)

rising_all : (gs : List (List Value)) → is_rising (ascending gs) ≡ true
rising_all [] = refl
rising_all (g ∷ gs) = rising_put g (ascending gs) (rising_all gs)

pub keys_rise : (columns : List ColRef) (kept : List Tuple) → is_rising (keys_of columns kept) ≡ true
keys_rise columns kept = rising_all (map (group_of columns) kept)

-- ---- rows or pairs of a group that isn't there

abbrev differs : List Value → List Value → Bool
differs g k = not (is_eq (row_cmp g k))

module _ (columns : List ColRef) where
  none_by : (b : Bool) (g : List Value) (t : Tuple) (more : List Tuple) → is_eq (row_cmp (group_of columns t) g) ≡ b → not b ≡ true → more ≡ [] → cond b (t ∷ more) more ≡ []
  none_by true g t more e n m = clash (sym n)
  none_by false g t more e n m = m

  alike : (g h : List Value) → is_eq (row_cmp h g) ≡ is_eq (row_cmp g h)
  alike g h = ap is_eq (row_total.antisymm h g) ∙ back (row_cmp g h)
    where
      back : (o : Ordering) → is_eq (ordering_reverse o) ≡ is_eq o
      back Less = refl
      back Equal = refl
      back Greater = refl

  no_members : (kept : List Tuple) (g : List Value) → list_all (differs g) (keys_of columns kept) ≡ true → members columns kept g ≡ []
  no_members [] g h = refl
  no_members (t ∷ kept) g h =
      let parts = and_parts (differs g (group_of columns t)) (list_all (differs g) (keys_of columns kept)) (sym (all_put (differs g) (group_of columns t) (keys_of columns kept)) ∙ h) in
      none_by (is_eq (row_cmp (group_of columns t) g)) g t (members columns kept g) refl (ap not (alike g (group_of columns t)) ∙ parts.0) (no_members kept g parts.1)

  members_last : (kept : List Tuple) (t : Tuple) (g : List Value) → members columns (kept ++ t ∷ []) g ≡ members columns kept g ++ cond (is_eq (row_cmp (group_of columns t) g)) (t ∷ []) []
  members_last kept t g = filter-append (λ u. is_eq (row_cmp (group_of columns u) g)) kept (t ∷ [])

  members_more : (kept : List Tuple) (t : Tuple) (g : List Value) → row_cmp (group_of columns t) g ≡ Equal → members columns (kept ++ t ∷ []) g ≡ members columns kept g ++ t ∷ []
  members_more kept t g e = members_last kept t g ∙ ap (λ o. members columns kept g ++ cond (is_eq o) (t ∷ []) []) e

  members_stay : (kept : List Tuple) (t : Tuple) (g : List Value) → differs (group_of columns t) g ≡ true → members columns (kept ++ t ∷ []) g ≡ members columns kept g
  members_stay kept t g d = members_last kept t g ∙ ap (λ b. members columns kept g ++ cond b (t ∷ []) []) (other (is_eq (row_cmp (group_of columns t) g)) d) ∙ append-nil (members columns kept g)
    where
      other : (b : Bool) → not b ≡ true → b ≡ false
      other true n = clash (sym n)
      other false n = refl

  module _ (items : List Item) where
    abbrev so_far : List Tuple → List Value → Group
    so_far kept key = group_so_far columns items kept key

    -- the other groups stay
    groups_stay : (kept : List Tuple) (t : Tuple) (ks : List (List Value)) → list_all (differs (group_of columns t)) ks ≡ true → map (so_far (kept ++ t ∷ [])) ks ≡ map (so_far kept) ks
    groups_stay kept t [] d = refl
    groups_stay kept t (k ∷ ks) d =
        let parts = and_parts (differs (group_of columns t) k) (list_all (differs (group_of columns t)) ks) d in
        λ i. record { key = k; tallies = map (tally_of (members_stay kept t k parts.0 i)) items } ∷ groups_stay kept t ks parts.1 i

    -- a group of its own
    group_is_new : (kept : List Tuple) (t : Tuple) → list_all (differs (group_of columns t)) (keys_of columns kept) ≡ true → so_far (kept ++ t ∷ []) (group_of columns t) ≡ new_group items t (group_of columns t)
    group_is_new kept t d =
        let g = group_of columns t in
        let only : members columns (kept ++ t ∷ []) g ≡ t ∷ [] = members_more kept t g (itself g) ∙ ap (λ l. l ++ t ∷ []) (no_members kept g d) in
        let tallied : map (tally_of (members columns (kept ++ t ∷ []) g)) items ≡ steps t items (map (tally_of []) items) = ap (λ l. map (tally_of l) items) only ∙ sym (steps_last t [] items) in
        λ i. record { key = g; tallies = tallied i }

    group_steps : (kept : List Tuple) (t : Tuple) (k : List Value) → row_cmp (group_of columns t) k ≡ Equal → so_far (kept ++ t ∷ []) k ≡ group_step items t (so_far kept k)
    group_steps kept t k e =
        let tallied : map (tally_of (members columns (kept ++ t ∷ []) k)) items ≡ steps t items (map (tally_of (members columns kept k)) items) =
        ap (λ l. map (tally_of l) items) (members_more kept t k e) ∙ sym (steps_last t (members columns kept k) items) in
        λ i. record { key = k; tallies = tallied i }

    less_differs : (g : List Value) (ks : List (List Value)) → list_all (is_below g) ks ≡ true → list_all (differs g) ks ≡ true
    less_differs g ks h = all_weaker (is_below g) (differs g) (λ k b. ap (λ o. not (is_eq o)) (less_by (row_cmp g k) b)) ks h

    tuple_at : (t : Tuple) (g : List Value) (h : Group) (hs : List Group) (o : Ordering) → row_cmp g h.key ≡ o
        → put_tuple items t g (h ∷ hs) ≡ put_at o (new_group items t g) (group_step items t h) h hs (put_tuple items t g hs)
    tuple_at t g h hs o e = ap (λ p. put_at p (new_group items t g) (group_step items t h) h hs (put_tuple items t g hs)) e

    module _ (kept : List Tuple) (t : Tuple) where
      abbrev key : List Value
      key = group_of columns t

      abbrev after : List Value → Group
      after k = so_far (kept ++ t ∷ []) k

      put_by_order : (k : List Value) (ks : List (List Value)) (o : Ordering) → row_cmp key k ≡ o → is_rising (k ∷ ks) ≡ true
          → (list_all (differs key) (k ∷ ks) ≡ true → after key ≡ new_group items t key)
          → (row_cmp key k ≡ Greater → map after (put_group key ks) ≡ put_tuple items t key (map (so_far kept) ks))
          → map after (put_group key (k ∷ ks)) ≡ put_tuple items t key (map (so_far kept) (k ∷ ks))
      put_by_order k ks Less e h new ih =
          let parts = and_parts (list_all (is_below k) ks) (is_rising ks) h in
          let low = and_from (is_below key k) (list_all (is_below key) ks) (ap is_lt e) (all_below key k ks e parts.0) in
          let apart = less_differs key (k ∷ ks) low in
          let both : map after (key ∷ k ∷ ks) ≡ new_group items t key ∷ map (so_far kept) (k ∷ ks) = λ i. new apart i ∷ groups_stay kept t (k ∷ ks) apart i in
          ap (map after) (put_by key k ks Less e) ∙ both ∙ sym (tuple_at t key (so_far kept k) (map (so_far kept) ks) Less e)
      put_by_order k ks Equal e h new ih =
          let parts = and_parts (list_all (is_below k) ks) (is_rising ks) h in
          let apart = less_differs key ks (subst (λ f. list_all (is_below f) ks ≡ true) (sym (row_exact key k e)) parts.0) in
          let both : map after (k ∷ ks) ≡ group_step items t (so_far kept k) ∷ map (so_far kept) ks = λ i. group_steps kept t k e i ∷ groups_stay kept t ks apart i in
          ap (map after) (put_by key k ks Equal e) ∙ both ∙ sym (tuple_at t key (so_far kept k) (map (so_far kept) ks) Equal e)
      put_by_order k ks Greater e h new ih =
          let stays : map after (k ∷ []) ≡ map (so_far kept) (k ∷ []) = groups_stay kept t (k ∷ []) (and_from (differs key k) true (ap (λ o. not (is_eq o)) e) refl) in
          ap (map after) (put_by key k ks Greater e) ∙ (λ i. stays i ++ ih e i) ∙ sym (tuple_at t key (so_far kept k) (map (so_far kept) ks) Greater e)

      put_in_order : (ks : List (List Value)) → is_rising ks ≡ true → (list_all (differs key) ks ≡ true → after key ≡ new_group items t key)
          → map after (put_group key ks) ≡ put_tuple items t key (map (so_far kept) ks)
      put_in_order [] h new = λ i. new refl i ∷ []
      put_in_order (k ∷ ks) h new =
          let parts = and_parts (list_all (is_below k) ks) (is_rising ks) h in
          put_by_order k ks (row_cmp key k) refl h new
          (λ e. put_in_order ks parts.1 (λ d. new (and_from (differs key k) (list_all (differs key) ks) (ap (λ o. not (is_eq o)) e) d)))

      -- the groups with one row or pair more
      pub groups_last : map after (keys_of columns (kept ++ t ∷ [])) ≡ put_tuple items t key (map (so_far kept) (keys_of columns kept))
      groups_last = ap (map after) (keys_last columns kept t) ∙ put_in_order (keys_of columns kept) (keys_rise columns kept) (group_is_new kept t)

-- ---- the place of a group

module _ (items : List Item) (t : Tuple) (key : List Value) where
  abbrev over : Group → Bool
  over g = is_over key g

  greater_by : (o : Ordering) → is_gt o ≡ true → o ≡ Greater
  greater_by Less h = clash (sym h)
  greater_by Equal h = clash (sym h)
  greater_by Greater h = refl

  pub placed_new : (gs : List Group) (i : ℕ) → i ≤ length gs → ((k : ℕ) (d : Group) → k < i → over (get_or gs k d) ≡ true)
      → ((d : Group) → i < length gs → row_cmp key (get_or gs i d).key ≡ Less) → put_tuple items t key gs ≡ insert gs i (new_group items t key)
  placed_new [] i le before behind = ap (λ n. insert [] n (new_group items t key)) (sym (nothing i le))
    where
      nothing : (n : ℕ) → n ≤ 0 → n ≡ 0
      nothing n h = omega arith
  placed_new (g ∷ gs) zero le before behind = tuple_at [] items t key g gs Less (behind g (omega arith))
  placed_new (g ∷ gs) (suc i) le before behind =
      tuple_at [] items t key g gs Greater (greater_by (row_cmp key g.key) (before 0 g (omega arith)))
      ∙ ap (λ l. g ∷ l) (placed_new gs i (omega arith) (λ k d h. before (suc k) d (omega arith)) (λ d h. behind d (omega arith)))

  pub placed_here : (gs : List Group) (i : ℕ) (d : Group) → i < length gs → ((k : ℕ) (d : Group) → k < i → over (get_or gs k d) ≡ true)
      → row_cmp key (get_or gs i d).key ≡ Equal → put_tuple items t key gs ≡ slice_set gs i (group_step items t (get_or gs i d))
  placed_here [] i d le before here = absurd (omega arith)
  placed_here (g ∷ gs) zero d le before here = tuple_at [] items t key g gs Equal here
  placed_here (g ∷ gs) (suc i) d le before here =
      tuple_at [] items t key g gs Greater (greater_by (row_cmp key g.key) (before 0 g (omega arith)))
      ∙ ap (λ l. g ∷ l) (placed_here gs i d (omega arith) (λ k e h. before (suc k) e (omega arith)) here)

  at_place : (gs : List Group) (i : ℕ) (d : Group) → is_at gs i key ≡ true → (i < length gs) × (row_cmp key (get_or gs i d).key ≡ Equal)
  at_place [] i d h = clash (sym h)
  at_place (g ∷ gs) zero d h = (omega arith, equal_by (row_cmp key g.key) h)
    where
      equal_by : (o : Ordering) → is_eq o ≡ true → o ≡ Equal
      equal_by Less e = clash (sym e)
      equal_by Equal e = refl
      equal_by Greater e = clash (sym e)
  at_place (g ∷ gs) (suc i) d h = let r = at_place gs i d h in (omega (arith, r.0), r.1)

  not_at_place : (gs : List Group) (i : ℕ) (d : Group) → is_at gs i key ≡ false → i < length gs → over (get_or gs i d) ≡ false → row_cmp key (get_or gs i d).key ≡ Less
  not_at_place [] i d h le o = absurd (omega arith)
  not_at_place (g ∷ gs) zero d h le o = left_over (row_cmp key g.key) h o
    where
      left_over : (p : Ordering) → is_eq p ≡ false → is_gt p ≡ false → p ≡ Less
      left_over Less e f = refl
      left_over Equal e f = clash e
      left_over Greater e f = clash f
  not_at_place (g ∷ gs) (suc i) d h le o = not_at_place gs i d h (omega arith) o

  -- a row or pair more of a group that is there
  pub put_in_group : (gs ds es : List Group) (i : ℕ) → ds ≡ gs → es ≡ gs → AllWithin (λ g. over g ≡ true) ds 0 i → is_at es i key ≡ true → (d : Group) → d ≡ get_or gs i d
      → slice_set gs i (group_step items t d) ≡ put_tuple items t key gs
  put_in_group gs ds es i e f before h d read =
      let there = at_place gs i d (subst (λ l. is_at l i key ≡ true) f h) in
      let all : (k : ℕ) (b : Group) → k < i → over (get_or gs k b) ≡ true = λ k b lt. subst (λ l. AllWithin (λ g. over g ≡ true) l 0 i) e before k b (omega arith) lt in
      ap (λ g. slice_set gs i (group_step items t g)) read ∙ sym (placed_here gs i d there.0 all there.1)

  -- a row or pair of a group that isn't there
  pub put_before_others : (gs ds es : List Group) (i : ℕ) → ds ≡ gs → es ≡ gs → i ≤ length ds → AllWithin (λ g. over g ≡ true) ds 0 i → AllWithin (λ g. over g ≡ false) ds i (length ds)
      → is_at es i key ≡ false → insert gs i (new_group items t key) ≡ put_tuple items t key gs
  put_before_others gs ds es i e f le before behind h =
      let all : (k : ℕ) (b : Group) → k < i → over (get_or gs k b) ≡ true = λ k b lt. subst (λ l. AllWithin (λ g. over g ≡ true) l 0 i) e before k b (omega arith) lt in
      let none = subst (λ l. AllWithin (λ g. over g ≡ false) l i (length l)) e behind in
      let within : i ≤ length gs = subst (λ l. i ≤ length l) e le in
      sym (placed_new gs i within all (λ d lt. not_at_place gs i d (subst (λ l. is_at l i key ≡ false) f h) lt (none i d (omega arith) lt)))

  one_below : (g : Group) (gs : List Group) (j : ℕ) (d : Group) → list_all (is_below g.key) (map (λ (h : Group). h.key) gs) ≡ true → j < length gs → row_cmp g.key (get_or gs j d).key ≡ Less
  one_below g [] j d h le = absurd (omega arith)
  one_below g (h ∷ hs) zero d all le = less_by (row_cmp g.key h.key) (and_parts (is_below g.key h.key) _ all).0
  one_below g (h ∷ hs) (suc j) d all le = one_below g hs j d (and_parts (is_below g.key h.key) _ all).1 (omega arith)

  -- the groups before the place are less, in order
  pub parted : (gs : List Group) → is_ascending gs ≡ true → (i j : ℕ) (d : Group) → i ≤ j → j < length gs → over (get_or gs j d) ≡ true → over (get_or gs i d) ≡ true
  parted [] h i j d le lt o = absurd (omega arith)
  parted (g ∷ gs) h zero zero d le lt o = o
  parted (g ∷ gs) h zero (suc j) d le lt o =
      let low = one_below g gs j d (and_parts (list_all (is_below g.key) (map (λ (k : Group). k.key) gs)) _ h).0 (omega arith) in
      ap is_gt (above key (get_or gs j d).key g.key (greater_by (row_cmp key (get_or gs j d).key) o) (turned g.key (get_or gs j d).key Less low))
  parted (g ∷ gs) h (suc i) zero d le lt o = absurd (omega arith)
  parted (g ∷ gs) h (suc i) (suc j) d le lt o = parted gs (and_parts (list_all (is_below g.key) (map (λ (k : Group). k.key) gs)) _ h).1 i j d (omega arith) (omega arith) o

-- ---- the groups so far

module _ (columns : List ColRef) (items : List Item) where
  keys_again : (kept : List Tuple) (ks : List (List Value)) → map (λ (g : Group). g.key) (map (group_so_far columns items kept) ks) ≡ ks
  keys_again kept [] = refl
  keys_again kept (k ∷ ks) = λ i. k ∷ keys_again kept ks i

  pub groups_ascend : (g : Groups) (kept : List Tuple) → IsGrouped columns items g kept → length g.groups.items ≤ MAX_ROWS → is_ascending g.groups.items ≡ true
  groups_ascend g kept so_far le = ap is_ascending (so_far.few le) ∙ ap is_rising (keys_again kept (keys_of columns kept)) ∙ keys_rise columns kept

  no_shorter_by : (g k : List Value) (ks : List (List Value)) (o : Ordering) → row_cmp g k ≡ o → length ks ≤ length (put_group g ks) → length (k ∷ ks) ≤ length (put_group g (k ∷ ks))
  no_shorter_by g k ks Less e h = let l = ap length (put_by g k ks Less e) in omega (arith, l)
  no_shorter_by g k ks Equal e h = let l = ap length (put_by g k ks Equal e) in omega (arith, l)
  no_shorter_by g k ks Greater e h = let l = ap length (put_by g k ks Greater e) in omega (arith, l)

  no_shorter : (g : List Value) (ks : List (List Value)) → length ks ≤ length (put_group g ks)
  no_shorter g [] = omega arith
  no_shorter g (k ∷ ks) = no_shorter_by g k ks (row_cmp g k) refl (no_shorter g ks)

  pub grouped_when_full : (g : Groups) (kept : List Tuple) (t : Tuple) → IsGrouped columns items g kept → MAX_ROWS < length g.groups.items → IsGrouped columns items g (kept ++ t ∷ [])
  grouped_when_full g kept t so_far full =
      let grows : length (keys_of columns kept) ≤ length (keys_of columns (kept ++ t ∷ [])) =
      subst (λ l. length (keys_of columns kept) ≤ length l) (sym (keys_last columns kept t)) (no_shorter (group_of columns t) (keys_of columns kept)) in
      let many : MAX_ROWS < length (keys_of columns kept) = so_far.many full in
      record {
        many = λ h. omega (arith, grows, many);
        few = λ h. absurd (omega (arith, h, full));
      }

  pub grouped_one_more : (old new : Groups) (kept : List Tuple) (t : Tuple) → IsGrouped columns items old kept → length old.groups.items ≤ MAX_ROWS
      → new.groups.items ≡ put_tuple items t (group_of columns t) old.groups.items → IsGrouped columns items new (kept ++ t ∷ [])
  grouped_one_more old new kept t so_far le put =
      let all : new.groups.items ≡ map (group_so_far columns items (kept ++ t ∷ [])) (keys_of columns (kept ++ t ∷ [])) =
      put ∙ ap (put_tuple items t (group_of columns t)) (so_far.few le) ∙ sym (groups_last columns items kept t) in
      let same : length new.groups.items ≡ length (keys_of columns (kept ++ t ∷ [])) = ap length all ∙ length-map (keys_of columns (kept ++ t ∷ [])) (group_so_far columns items (kept ++ t ∷ [])) in
      record { many = λ h. omega (arith, same, h); few = λ h. all }

  pub full_as_grouped : (g : Groups) (kept : List Tuple) → IsGrouped columns items g kept → nat_lt MAX_ROWS (length g.groups.items) ≡ nat_lt MAX_ROWS (length (groups_of columns kept))
  full_as_grouped g kept so_far =
      let keys : length (groups_of columns kept) ≡ length (keys_of columns kept) = length-map (keys_of columns kept) (members columns kept) in
      by_cases (cases_lt MAX_ROWS (length g.groups.items)) keys
    where
      by_cases : (MAX_ROWS < length g.groups.items) ⊎ (length g.groups.items ≤ MAX_ROWS) → length (groups_of columns kept) ≡ length (keys_of columns kept)
          → nat_lt MAX_ROWS (length g.groups.items) ≡ nat_lt MAX_ROWS (length (groups_of columns kept))
      by_cases (inl full) keys =
          let many : MAX_ROWS < length (keys_of columns kept) = so_far.many full in
          lt-ltb MAX_ROWS (length g.groups.items) full ∙ sym (lt-ltb MAX_ROWS (length (groups_of columns kept)) (omega (arith, keys, many)))
      by_cases (inr le) keys =
          ap (λ n. nat_lt MAX_ROWS n) (ap length (so_far.few le) ∙ length-map (keys_of columns kept) (group_so_far columns items kept) ∙ sym keys)

  pub groups_as_shown : (kept : List Tuple) (ks : List (List Value)) → each group_shown (map (group_so_far columns items kept) ks) ≡ each (group_row items) (map (members columns kept) ks)
  groups_as_shown kept [] = refl
  groups_as_shown kept (k ∷ ks) =
      ap (λ r. and_then r (λ y. and_then (each group_shown (map (group_so_far columns items kept) ks)) (λ ys. Ok (y ∷ ys)))) (tallies_shown (members columns kept k) items)
      ∙ ap (λ r. and_then (group_row items (members columns kept k)) (λ y. and_then r (λ ys. Ok (y ∷ ys)))) (groups_as_shown kept ks)

  -- the answer of the groups so far
  pub few_as_grouped : (g : Groups) (kept : List Tuple) → IsGrouped columns items g kept → few group_shown g.groups.items ≡ few (group_row items) (groups_of columns kept)
  few_as_grouped g kept so_far = by_cases (cases_lt MAX_ROWS (length g.groups.items))
    where
      both : (b : Bool) → nat_lt MAX_ROWS (length (groups_of columns kept)) ≡ b → few (group_row items) (groups_of columns kept) ≡ cond b (Failed TooManyRows) (shown (each (group_row items) (groups_of columns kept)))
      both b e = ap (λ c. cond c (Failed TooManyRows) (shown (each (group_row items) (groups_of columns kept)))) e

      by_cases : (MAX_ROWS < length g.groups.items) ⊎ (length g.groups.items ≤ MAX_ROWS) → few group_shown g.groups.items ≡ few (group_row items) (groups_of columns kept)
      by_cases (inl full) =
          let e : nat_lt MAX_ROWS (length g.groups.items) ≡ true = lt-ltb MAX_ROWS (length g.groups.items) full in
          ap (λ c. cond c (Failed TooManyRows) (shown (each group_shown g.groups.items))) e ∙ sym (both true (sym (full_as_grouped g kept so_far) ∙ e))
      by_cases (inr le) =
          ap (λ c. cond c (Failed TooManyRows) (shown (each group_shown g.groups.items))) (full_as_grouped g kept so_far)
          ∙ ap (λ r. cond (nat_lt MAX_ROWS (length (groups_of columns kept))) (Failed TooManyRows) (shown r)) (ap (each group_shown) (so_far.few le) ∙ groups_as_shown kept (keys_of columns kept))

  keys_grow : (kept more : List Tuple) → length (keys_of columns kept) ≤ length (keys_of columns (kept ++ more))
  keys_grow kept [] = subst (λ l. length (keys_of columns kept) ≤ length (keys_of columns l)) (sym (append-nil kept)) (omega arith)
  keys_grow kept (t ∷ more) =
      let one : length (keys_of columns kept) ≤ length (keys_of columns (kept ++ t ∷ [])) =
      subst (λ l. length (keys_of columns kept) ≤ length l) (sym (keys_last columns kept t)) (no_shorter (group_of columns t) (keys_of columns kept)) in
      let rest : length (keys_of columns (kept ++ t ∷ [])) ≤ length (keys_of columns (kept ++ t ∷ more)) =
      subst (λ l. length (keys_of columns (kept ++ t ∷ [])) ≤ length (keys_of columns l)) (append_assoc kept (t ∷ []) more) (keys_grow (kept ++ t ∷ []) more) in
      omega (arith, one, rest)

  -- too many groups are too many, whatever comes
  pub full_stays : (kept more : List Tuple) → nat_lt MAX_ROWS (length (groups_of columns kept)) ≡ true → few (group_row items) (groups_of columns (kept ++ more)) ≡ Failed TooManyRows
  full_stays kept more h =
      let now : length (groups_of columns kept) ≡ length (keys_of columns kept) = length-map (keys_of columns kept) (members columns kept) in
      let later : length (groups_of columns (kept ++ more)) ≡ length (keys_of columns (kept ++ more)) = length-map (keys_of columns (kept ++ more)) (members columns (kept ++ more)) in
      let grows = keys_grow kept more in
      let many = ltb-true MAX_ROWS (length (groups_of columns kept)) h in
      ap (λ b. cond b (Failed TooManyRows) (shown (each (group_row items) (groups_of columns (kept ++ more))))) (lt-ltb MAX_ROWS (length (groups_of columns (kept ++ more))) (omega (arith, now, later, grows, many)))
