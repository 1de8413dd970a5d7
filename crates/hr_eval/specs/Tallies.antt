-- What is kept of the rows or pairs so far for an item of a SELECT with aggregates.
use Rattle.std.specs.Prelude.{ℤ, pos, ◌+ℤ◌, if◌then◌else◌, Option, Some, None, unwrap_or, List, [], ◌∷◌, length, Result, Ok}
use Rattle.hr_rel.specs.declared.value.Value.{Value}
use Rattle.hr_rel.specs.declared.value.Value.TheVariants.{Null, Int}
use Rattle.hr_rel.specs.declared.answer.RunError.{RunError}
use Rattle.hr_rel.specs.declared.stmt.Item.{Item}
use Rattle.hr_rel.specs.declared.stmt.Item.TheVariants as item
use Rattle.hr_rel.specs.declared.expr.Expr.{Expr}
use Rattle.hr_rel.specs.Kinds.{is_null}
use Rattle.hr_meaning.specs.Truth.{Tuple, column_value}
use Rattle.hr_meaning.specs.Value.{number, value_of}
use Rattle.hr_meaning.specs.Select.{values_of, number_in, exact_sum, lesser, greater, picked}
use Rattle.hr_eval.specs.declared.tally.Tally.{Tally}
use Rattle.hr_eval.specs.declared.tally.Tally.TheVariants as tally

-- the exact sum of numbers, if there are any
abbrev pub some_sum : List Value → Option ℤ
some_sum [] = None
some_sum (v ∷ vs) = Some (exact_sum (v ∷ vs))

-- the one that is picked, if there are any
abbrev pub some_picked : (Value → Value → Value) → List Value → Option Value
some_picked take [] = None
some_picked take (v ∷ vs) = Some (picked take (v ∷ vs))

-- the value of an expression on the first, if there is one
abbrev pub on_first : Expr → List Tuple → Option (Result Value RunError)
on_first e [] = None
on_first e (t ∷ kept) = Some (value_of e t)

abbrev pub tally_of : List Tuple → Item → Tally
tally_of kept (item.Plain e) = tally.First (on_first e kept)
tally_of kept item.CountAll = tally.Count (pos (length kept))
tally_of kept (item.Count c) = tally.Count (pos (length (values_of c kept)))
tally_of kept (item.Sum c) = tally.Sum (some_sum (values_of c kept))
tally_of kept (item.Min c) = tally.Best (some_picked lesser (values_of c kept))
tally_of kept (item.Max c) = tally.Best (some_picked greater (values_of c kept))

-- ---- Not to be believed: the steps of the code, which these mirror.

-- y, unless the value is NULL
abbrev pub unless_null : {X : Type 0} → Value → X → X → X
unless_null v x y = if is_null v then x else y

abbrev pub sum_step : Value → Option ℤ → Option ℤ
sum_step v s = Some (unwrap_or s (pos 0) +ℤ number_in v)

abbrev pub pick_step : (Value → Value → Value) → Value → Option Value → Option Value
pick_step take v None = Some v
pick_step take v (Some w) = Some (take w v)

-- the tally with one row or pair more; one that isn't the item's stays as it is
abbrev pub tally_step : Tuple → Item → Tally → Tally
tally_step t (item.Plain e) (tally.First first) = tally.First (Some (unwrap_or first (value_of e t)))
tally_step t item.CountAll (tally.Count n) = tally.Count (n +ℤ pos 1)
tally_step t (item.Count c) (tally.Count n) = tally.Count (unless_null (column_value t c) n (n +ℤ pos 1))
tally_step t (item.Sum c) (tally.Sum s) = tally.Sum (unless_null (column_value t c) s (sum_step (column_value t c) s))
tally_step t (item.Min c) (tally.Best b) = tally.Best (unless_null (column_value t c) b (pick_step lesser (column_value t c) b))
tally_step t (item.Max c) (tally.Best b) = tally.Best (unless_null (column_value t c) b (pick_step greater (column_value t c) b))
tally_step t _ s = s

abbrev pub sum_shown : Option ℤ → Result Value RunError
sum_shown None = Ok Null
sum_shown (Some n) = number n

-- what the tally shows
abbrev pub tally_shown : Tally → Result Value RunError
tally_shown (tally.First first) = unwrap_or first (Ok Null)
tally_shown (tally.Count n) = Ok (Int n)
tally_shown (tally.Sum s) = sum_shown s
tally_shown (tally.Best b) = Ok (unwrap_or b Null)
