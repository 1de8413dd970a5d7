-- The answer of a SELECT, from the rows or pairs that it keeps.
use Rattle.std.specs.Prelude.{ℤ, pos, ◌+ℤ◌, not, nat_lt, if◌then◌else◌, List, [], ◌∷◌, length, map, filter, Result, Ok, Err}
use Rattle.std.specs.Ordering.{is_eq, is_lt, is_gt}
use Rattle.std.specs.declared.cmp.Ordering.{Ordering}
use Rattle.std.specs.declared.cmp.Ordering.TheVariants.{Less, Equal, Greater}
use Rattle.hr_base.specs.Lists.{is_empty}
use Rattle.hr_base.specs.declared.limits.TheConstants.{MAX_ROWS}
use Rattle.hr_rel.specs.declared.value.Value.{Value}
use Rattle.hr_rel.specs.declared.value.Value.TheVariants.{Null, Int, Text}
use Rattle.hr_rel.specs.declared.answer.Answer.{Answer}
use Rattle.hr_rel.specs.declared.answer.Answer.TheVariants.{Rows, Failed}
use Rattle.hr_rel.specs.declared.answer.RunError.{RunError}
use Rattle.hr_rel.specs.declared.answer.RunError.TheVariants.{TooManyRows}
use Rattle.hr_rel.specs.declared.expr.ColRef.{ColRef}
use Rattle.hr_rel.specs.declared.expr.Expr.{Expr}
use Rattle.hr_rel.specs.declared.stmt.Item.{Item}
use Rattle.hr_rel.specs.declared.stmt.Item.TheVariants as item
use Rattle.hr_rel.specs.declared.stmt.SelectStmt.{SelectStmt}
use Rattle.hr_rel.specs.Kinds.{is_null}
use Rattle.hr_rel.specs.Fit.{is_grouped}
use Rattle.hr_meaning.specs.Order.{value_cmp, row_cmp}
use Rattle.hr_meaning.specs.Truth.{Tuple, column_value}
use Rattle.hr_meaning.specs.Value.{each, number, value_of}

-- ---- aggregates

-- the values of a column that aren't NULL
abbrev pub values_of : ColRef → List Tuple → List Value
values_of c kept = filter (λ v. not (is_null v)) (map (λ t. column_value t c) kept)

abbrev pub number_in : Value → ℤ
number_in Null = pos 0
number_in (Int n) = n
number_in (Text t) = pos 0

-- the sum of numbers without bounds: only the whole of it has to have 64 bits
abbrev pub exact_sum : List Value → ℤ
exact_sum [] = pos 0
exact_sum (v ∷ vs) = number_in v +ℤ exact_sum vs

-- SUM: NULL over no values
abbrev pub sum_value : List Value → Result Value RunError
sum_value [] = Ok Null
sum_value (v ∷ vs) = number (exact_sum (v ∷ vs))

abbrev pub lesser : Value → Value → Value
lesser a b = if is_lt (value_cmp b a) then b else a

abbrev pub greater : Value → Value → Value
greater a b = if is_gt (value_cmp b a) then b else a

-- MIN and MAX, by which of two is taken: NULL over no values
abbrev pub picked : (Value → Value → Value) → List Value → Value
picked take [] = Null
picked take (v ∷ []) = v
picked take (v ∷ w ∷ vs) = take v (picked take (w ∷ vs))

-- the value of an expression on the first row; NULL over none
abbrev pub first_value : Expr → List Tuple → Result Value RunError
first_value e [] = Ok Null
first_value e (t ∷ kept) = value_of e t

-- what an item shows of a group of rows; a plain one is a column of GROUP BY, which is the same in all of them
abbrev pub item_value : List Tuple → Item → Result Value RunError
item_value kept (item.Plain e) = first_value e kept
item_value kept item.CountAll = Ok (Int (pos (length kept)))
item_value kept (item.Count c) = Ok (Int (pos (length (values_of c kept))))
item_value kept (item.Sum c) = sum_value (values_of c kept)
item_value kept (item.Min c) = Ok (picked lesser (values_of c kept))
item_value kept (item.Max c) = Ok (picked greater (values_of c kept))

-- ---- groups

-- the values by which a row is grouped; NULL is a value like any other here
abbrev pub group_of : List ColRef → Tuple → List Value
group_of groups t = map (column_value t) groups

-- g before, at or behind the first of an ascending list, by how it compares with that one
abbrev pub put_at : Ordering → List Value → List Value → List (List Value) → List (List Value) → List (List Value)
put_at Less g h gs behind = g ∷ h ∷ gs
put_at Equal g h gs behind = h ∷ gs
put_at Greater g h gs behind = h ∷ behind

-- an ascending list with one more, unless it is there
abbrev pub put_group : List Value → List (List Value) → List (List Value)
put_group g [] = g ∷ []
put_group g (h ∷ gs) = put_at (row_cmp g h) g h gs (put_group g gs)

-- each of these once, in ascending order
abbrev pub ascending : List (List Value) → List (List Value)
ascending [] = []
ascending (g ∷ gs) = put_group g (ascending gs)

-- the rows of a group
abbrev pub members : List ColRef → List Tuple → List Value → List Tuple
members groups kept g = filter (λ t. is_eq (row_cmp (group_of groups t) g)) kept

-- The groups, in the order of their values.
-- (An ORDER BY over groups will come in here: this list sorted by its columns, of which a LIMIT takes the first.)
abbrev pub groups_of : List ColRef → List Tuple → List (List Tuple)
groups_of groups kept = map (members groups kept) (ascending (map (group_of groups) kept))

-- ---- the answer

-- (An answer in an order, which a comparison of answers has to keep, will come in here.)
abbrev pub shown : Result (List (List Value)) RunError → Answer
shown (Ok rows) = Rows rows
shown (Err e) = Failed e

-- A row for each of these, or the first error; that they are too many comes before all errors.
abbrev pub few : {X : Type 0} → (X → Result (List Value) RunError) → List X → Answer
few row all = if nat_lt MAX_ROWS (length all) then Failed TooManyRows else shown (each row all)

-- the items of a group, from the left, or the first error
abbrev pub group_row : List Item → List Tuple → Result (List Value) RunError
group_row items kept = each (item_value kept) items

-- the same of one row or pair
abbrev pub plain_row : List Item → Tuple → Result (List Value) RunError
plain_row items t = group_row items (t ∷ [])

-- With GROUP BY a row for each group; with aggregates alone one row over all; else a row for each row or pair.
-- (An ORDER BY over plain rows will come in here: the kept ones sorted by its columns, of which a LIMIT takes the first.)
abbrev pub answer_from : SelectStmt → List Tuple → Answer
answer_from s kept =
    if not (is_empty s.groups) then few (group_row s.items) (groups_of s.groups kept)
    else (if is_grouped s then few (group_row s.items) (kept ∷ []) else few (plain_row s.items) kept)
