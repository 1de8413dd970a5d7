-- Aggregates over rows in any order.
use Rattle.std.proofs.Common.{◌≡◌, ℤ, ◌+ℤ◌, Bool, true, false, cond, not, length, List, [], ◌∷◌, map, refl, ap, sym, ◌∙◌, is_lt, is_gt, true≢false}
use Rattle.std.specs.Prelude.{Ok}
use Rattle.std.specs.Cmp.{IsTotalOrder}
use Rattle.std.specs.BTreeMap.Comparable.{le_lt_trans}
use Rattle.std.specs.Ordering.{is_le, ordering_reverse}
use Rattle.std.specs.declared.cmp.Ordering.{Ordering}
use Rattle.std.specs.declared.cmp.Ordering.TheVariants.{Less, Equal, Greater}
use Rattle.std.specs.List.Sorted.{IsPermutation}
use Rattle.std.proofs.Math.IntN.{+ℤ_comm, +ℤ_assoc}
use Rattle.std.proofs.lemmas.Cmp.{back_total}
use Rattle.std.proofs.lemmas.List.Sorted.{IsPermutation-map, length_permutation}
use Rattle.std.proofs.lemmas.Map.Lookups.{CmpEqualImpliesEq}
use Rattle.hr_base.specs.Lists.{is_empty}
use Rattle.hr_rel.specs.declared.value.Value.{Value}
use Rattle.hr_rel.specs.declared.value.Value.TheVariants.{Null}
use Rattle.hr_rel.specs.declared.expr.ColRef.{ColRef}
use Rattle.hr_rel.specs.Kinds.{is_null}
use Rattle.hr_meaning.specs.Order.{value_cmp}
use Rattle.hr_meaning.specs.Truth.{Tuple, column_value}
use Rattle.hr_meaning.specs.Value.{number}
use Rattle.hr_meaning.specs.Select.{values_of, number_in, exact_sum, sum_value, lesser, greater, picked}
use Rattle.hr_answer.proofs.ValueOrder.{value_total, value_exact}
use Rattle.hr_statement_laws.proofs.Permutations.{by_neighbours, same_of_permuted, IsPermutation-filter}

-- ---- values of a column

pub values_permuted : (c : ColRef) (ts us : List Tuple) → IsPermutation ts us → IsPermutation (values_of c ts) (values_of c us)
values_permuted c ts us same =
    IsPermutation-filter (λ v. not (is_null v)) (map (λ t. column_value t c) ts) (map (λ t. column_value t c) us) (IsPermutation-map (λ t. column_value t c) ts us same)

same_emptiness : {X : Type 0} (xs ys : List X) → length ys ≡ length xs → is_empty xs ≡ is_empty ys
same_emptiness [] [] e = refl
same_emptiness [] (y ∷ ys) e = cc
same_emptiness (x ∷ xs) [] e = cc
same_emptiness (x ∷ xs) (y ∷ ys) e = refl

pub empty_alike : {X : Type 0} (xs ys : List X) → IsPermutation xs ys → is_empty xs ≡ is_empty ys
empty_alike xs ys same = same_emptiness xs ys (length_permutation xs ys same)

-- ---- SUM

added_in_turn : (a b c : ℤ) → a +ℤ (b +ℤ c) ≡ b +ℤ (a +ℤ c)
added_in_turn a b c = sym (+ℤ_assoc a b c) ∙ ap (λ n. n +ℤ c) (+ℤ_comm a b) ∙ +ℤ_assoc b a c

same_sum : (vs ws : List Value) → IsPermutation vs ws → exact_sum vs ≡ exact_sum ws
same_sum = same_of_permuted exact_sum (λ v vs ws e. ap (λ n. number_in v +ℤ n) e) (λ v w vs. added_in_turn (number_in v) (number_in w) (exact_sum vs))

sum_is : (vs : List Value) → sum_value vs ≡ cond (is_empty vs) (Ok Null) (number (exact_sum vs))
sum_is [] = refl
sum_is (v ∷ vs) = refl

pub sum_in_any_order : (vs ws : List Value) → IsPermutation vs ws → sum_value vs ≡ sum_value ws
sum_in_any_order vs ws same =
    let none = empty_alike vs ws same in
    let whole = same_sum vs ws same in
    sum_is vs ∙ (λ i. cond (none i) (Ok Null) (number (whole i))) ∙ sym (sum_is ws)

-- ---- MIN and MAX

module _ (R : Value → Value → Ordering) (o : IsTotalOrder R) (exact : CmpEqualImpliesEq R) where
  -- the lower of two
  abbrev lower : Value → Value → Value
  lower a b = cond (is_lt (R b a)) b a

  either_way : (a b : Value) (r : Ordering) → R b a ≡ r → cond (is_lt r) b a ≡ lower b a
  either_way a b Less e = ap (λ (s : Ordering). cond (is_lt s) a b) (sym (o.antisymm a b ∙ ap ordering_reverse e))
  either_way a b Equal e = sym (exact b a e) ∙ ap (λ (s : Ordering). cond (is_lt s) a b) (sym (o.antisymm a b ∙ ap ordering_reverse e))
  either_way a b Greater e = ap (λ (s : Ordering). cond (is_lt s) a b) (sym (o.antisymm a b ∙ ap ordering_reverse e))

  lower_flip : (a b : Value) → lower a b ≡ lower b a
  lower_flip a b = either_way a b (R b a) refl

  at_most : (r : Ordering) → is_lt r ≡ false → is_le (ordering_reverse r) ≡ true
  at_most Less h = cc
  at_most Equal h = refl
  at_most Greater h = refl

  less_of : (r : Ordering) → is_lt r ≡ true → r ≡ Less
  less_of Less h = refl
  less_of Equal h = cc
  less_of Greater h = cc

  -- what isn't above y is below all that y is below
  below : (x y z : Value) → is_lt (R y x) ≡ false → is_lt (R y z) ≡ true → is_lt (R x z) ≡ true
  below x y z h k = ap is_lt (le_lt_trans o x y z (ap is_le (o.antisymm x y) ∙ at_most (R y x) h) (less_of (R y z) k))

  turn_by : (a b c : Value) (s t : Bool) → is_lt (R c b) ≡ s → is_lt (R c a) ≡ t → lower a (cond s c b) ≡ lower b (cond t c a)
  turn_by a b c true true e f = ap (λ k. cond k c a) f ∙ sym (ap (λ k. cond k c b) e)
  turn_by a b c true false e f = ap (λ k. cond k c a) f ∙ sym (ap (λ k. cond k a b) (below a c b f e))
  turn_by a b c false true e f = ap (λ k. cond k b a) (below b c a e f) ∙ sym (ap (λ k. cond k c b) e)
  turn_by a b c false false e f = lower_flip a b

  lower_turn : (a b c : Value) → lower a (lower b c) ≡ lower b (lower a c)
  lower_turn a b c = turn_by a b c (is_lt (R c b)) (is_lt (R c a)) refl refl

  abbrev Alike : List Value → List Value → Type 0
  Alike vs ws = (is_empty vs ≡ is_empty ws) × (picked lower vs ≡ picked lower ws)

  alike_under : (v : Value) (vs ws : List Value) → Alike vs ws → Alike (v ∷ vs) (v ∷ ws)
  alike_under v [] [] h = (refl, refl)
  alike_under v [] (x ∷ ws) h = absurd (true≢false h.0)
  alike_under v (x ∷ vs) [] h = absurd (true≢false (sym h.0))
  alike_under v (x ∷ vs) (y ∷ ws) h = (refl, ap (lower v) h.1)

  alike_flip : (v w : Value) (vs : List Value) → Alike (v ∷ w ∷ vs) (w ∷ v ∷ vs)
  alike_flip v w [] = (refl, lower_flip v w)
  alike_flip v w (x ∷ vs) = (refl, lower_turn v w (picked lower (x ∷ vs)))

  lowest_alike : (vs ws : List Value) → IsPermutation vs ws → Alike vs ws
  lowest_alike = by_neighbours Alike (λ vs. (refl, refl)) (λ vs ws xs h k. (h.0 ∙ k.0, h.1 ∙ k.1)) alike_under alike_flip

  -- the lowest of all, by a function that takes the lower one of two
  lowest : (take : Value → Value → Value) → ((a b : Value) → take a b ≡ lower a b) → (vs ws : List Value) → IsPermutation vs ws → picked take vs ≡ picked take ws
  lowest take is vs ws same =
      let by_lower : (xs : List Value) → picked take xs ≡ picked lower xs = λ xs i. picked (λ a b. is a b i) xs in
      by_lower vs ∙ (lowest_alike vs ws same).1 ∙ sym (by_lower ws)

pub least_in_any_order : (vs ws : List Value) → IsPermutation vs ws → picked lesser vs ≡ picked lesser ws
least_in_any_order = lowest value_cmp value_total value_exact lesser (λ a b. refl)

turned : (r : Ordering) → is_gt r ≡ is_lt (ordering_reverse r)
turned Less = refl
turned Equal = refl
turned Greater = refl

pub greatest_in_any_order : (vs ws : List Value) → IsPermutation vs ws → picked greater vs ≡ picked greater ws
greatest_in_any_order = lowest (λ a b. value_cmp b a) (back_total value_total) (λ a b e. sym (value_exact b a e)) greater
    (λ a b. ap (λ t. cond t b a) (turned (value_cmp b a) ∙ ap is_lt (sym (value_total.antisymm a b))))
