-- A tally is what its item shows, and one more step is that of one more row or pair.
use Rattle.std.proofs.Common.{◌≡◌, pos, ◌+ℤ◌, not, Some, unwrap_or, List, [], ◌∷◌, ◌++◌, length, map, filter, Ok, refl, ap, sym, ◌∙◌, length-append}
use Rattle.std.proofs.Math.IntN.{+ℤ_assoc, +ℤ_comm}
use Rattle.std.proofs.lemmas.List.{append-nil, map-append}
use Rattle.std.proofs.lemmas.List.Elements.{filter-append}
use Rattle.hr_rel.specs.declared.value.Value.{Value}
use Rattle.hr_rel.specs.declared.value.Value.TheVariants.{Null, Int, Text}
use Rattle.hr_rel.specs.declared.expr.ColRef.{ColRef}
use Rattle.hr_rel.specs.declared.expr.Expr.{Expr}
use Rattle.hr_rel.specs.declared.stmt.Item.{Item}
use Rattle.hr_rel.specs.declared.stmt.Item.TheVariants as item
use Rattle.hr_rel.specs.Kinds.{is_null}
use Rattle.hr_meaning.specs.Truth.{Tuple, column_value}
use Rattle.hr_meaning.specs.Value.{value_of}
use Rattle.hr_meaning.specs.Select.{values_of, number_in, exact_sum, sum_value, lesser, greater, picked, first_value, item_value}
use Rattle.hr_eval.proofs.Picks.{lesser_associates, greater_associates}
use Rattle.hr_eval.specs.declared.tally.Tally.TheVariants as tally
use Rattle.hr_eval.specs.Tallies.{some_sum, some_picked, on_first, tally_of, unless_null, sum_step, pick_step, tally_step, sum_shown, tally_shown}

-- ---- sums

sum_last : (vs : List Value) (v : Value) → exact_sum (vs ++ v ∷ []) ≡ exact_sum vs +ℤ number_in v
sum_last [] v = +ℤ_comm (number_in v) (pos 0)
sum_last (w ∷ vs) v = ap (λ s. number_in w +ℤ s) (sum_last vs v) ∙ sym (+ℤ_assoc (number_in w) (exact_sum vs) (number_in v))

some_sum_last : (vs : List Value) (v : Value) → some_sum (vs ++ v ∷ []) ≡ sum_step v (some_sum vs)
some_sum_last [] v = ap Some (+ℤ_comm (number_in v) (pos 0))
some_sum_last (w ∷ vs) v = ap Some (sum_last (w ∷ vs) v)

-- ---- least and greatest

abbrev IsAssociative : (Value → Value → Value) → Type 0
IsAssociative take = (a b c : Value) → take a (take b c) ≡ take (take a b) c

picked_last : (take : Value → Value → Value) → IsAssociative take → (w : Value) (vs : List Value) (v : Value)
    → picked take (w ∷ (vs ++ v ∷ [])) ≡ take (picked take (w ∷ vs)) v
picked_last take assoc w [] v = refl
picked_last take assoc w (u ∷ vs) v = ap (take w) (picked_last take assoc u vs v) ∙ assoc w (picked take (u ∷ vs)) v

some_picked_last : (take : Value → Value → Value) → IsAssociative take → (vs : List Value) (v : Value)
    → some_picked take (vs ++ v ∷ []) ≡ pick_step take v (some_picked take vs)
some_picked_last take assoc [] v = refl
some_picked_last take assoc (w ∷ vs) v = ap Some (picked_last take assoc w vs v)

-- ---- values that aren't NULL

abbrev of_values : Value → List Value
of_values v = filter (λ w. not (is_null w)) (v ∷ [])

values_last : (c : ColRef) (kept : List Tuple) (t : Tuple) → values_of c (kept ++ t ∷ []) ≡ values_of c kept ++ of_values (column_value t c)
values_last c kept t =
    ap (filter (λ w. not (is_null w))) (map-append (λ u. column_value u c) kept (t ∷ []))
    ∙ filter-append (λ w. not (is_null w)) (map (λ u. column_value u c) kept) (column_value t c ∷ [])

module _ {X : Type 0} (of : List Value → X) (step : Value → X → X) (last : (vs : List Value) (v : Value) → of (vs ++ v ∷ []) ≡ step v (of vs)) where
  by_value : (vs : List Value) (v : Value) → of (vs ++ of_values v) ≡ unless_null v (of vs) (step v (of vs))
  by_value vs Null = ap of (append-nil vs)
  by_value vs (Int n) = last vs (Int n)
  by_value vs (Text s) = last vs (Text s)

  of_column : (c : ColRef) (kept : List Tuple) (t : Tuple)
      → of (values_of c (kept ++ t ∷ [])) ≡ unless_null (column_value t c) (of (values_of c kept)) (step (column_value t c) (of (values_of c kept)))
  of_column c kept t = ap of (values_last c kept t) ∙ by_value (values_of c kept) (column_value t c)

count_last : {X : Type 0} (xs : List X) (x : X) → pos (length (xs ++ x ∷ [])) ≡ pos (length xs) +ℤ pos 1
count_last xs x = ap pos (length-append xs (x ∷ []))

first_last : (e : Expr) (kept : List Tuple) (t : Tuple) → on_first e (kept ++ t ∷ []) ≡ Some (unwrap_or (on_first e kept) (value_of e t))
first_last e [] t = refl
first_last e (u ∷ kept) t = refl

-- ---- tallies

pub tally_last : (kept : List Tuple) (t : Tuple) (i : Item) → tally_step t i (tally_of kept i) ≡ tally_of (kept ++ t ∷ []) i
tally_last kept t (item.Plain e) = ap tally.First (sym (first_last e kept t))
tally_last kept t item.CountAll = ap tally.Count (sym (count_last kept t))
tally_last kept t (item.Count c) = ap tally.Count (sym (of_column (λ vs. pos (length vs)) (λ v n. n +ℤ pos 1) (λ vs v. count_last vs v) c kept t))
tally_last kept t (item.Sum c) = ap tally.Sum (sym (of_column some_sum sum_step some_sum_last c kept t))
tally_last kept t (item.Min c) = ap tally.Best (sym (of_column (some_picked lesser) (pick_step lesser) (some_picked_last lesser lesser_associates) c kept t))
tally_last kept t (item.Max c) = ap tally.Best (sym (of_column (some_picked greater) (pick_step greater) (some_picked_last greater greater_associates) c kept t))

sum_as_shown : (vs : List Value) → sum_shown (some_sum vs) ≡ sum_value vs
sum_as_shown [] = refl
sum_as_shown (v ∷ vs) = refl

picked_as_shown : (take : Value → Value → Value) (vs : List Value) → unwrap_or (some_picked take vs) Null ≡ picked take vs
picked_as_shown take [] = refl
picked_as_shown take (v ∷ vs) = refl

first_as_shown : (e : Expr) (kept : List Tuple) → unwrap_or (on_first e kept) (Ok Null) ≡ first_value e kept
first_as_shown e [] = refl
first_as_shown e (t ∷ kept) = refl

pub tally_as_shown : (kept : List Tuple) (i : Item) → tally_shown (tally_of kept i) ≡ item_value kept i
tally_as_shown kept (item.Plain e) = first_as_shown e kept
tally_as_shown kept item.CountAll = refl
tally_as_shown kept (item.Count c) = refl
tally_as_shown kept (item.Sum c) = sum_as_shown (values_of c kept)
tally_as_shown kept (item.Min c) = ap Ok (picked_as_shown lesser (values_of c kept))
tally_as_shown kept (item.Max c) = ap Ok (picked_as_shown greater (values_of c kept))
