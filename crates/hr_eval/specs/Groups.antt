-- What is kept of the rows or pairs so far for a SELECT with GROUP BY.
use Rattle.std.specs.Prelude.{◌≡◌, ℕ, ◌<◌, ◌≤◌, Bool, true, false, ◌&&◌, Option, Some, None, List, [], ◌∷◌, length, map, slice_get, Result}
use Rattle.std.specs.List.{list_all}
use Rattle.std.specs.Ordering.{is_eq, is_lt, is_gt}
use Rattle.std.specs.declared.cmp.Ordering.{Ordering}
use Rattle.std.specs.declared.cmp.Ordering.TheVariants.{Less, Equal, Greater}
use Rattle.hr_base.specs.declared.limits.TheConstants.{MAX_ROWS}
use Rattle.hr_rel.specs.declared.value.Value.{Value}
use Rattle.hr_rel.specs.declared.answer.RunError.{RunError}
use Rattle.hr_rel.specs.declared.expr.ColRef.{ColRef}
use Rattle.hr_rel.specs.declared.stmt.Item.{Item}
use Rattle.hr_meaning.specs.Order.{row_cmp}
use Rattle.hr_meaning.specs.Truth.{Tuple}
use Rattle.hr_meaning.specs.Value.{each}
use Rattle.hr_meaning.specs.Select.{group_of, ascending, members}
use Rattle.hr_eval.specs.declared.tally.Tally.{Tally}
use Rattle.hr_eval.specs.declared.groups.Group.{Group}
use Rattle.hr_eval.specs.declared.groups.Groups.{Groups}
use Rattle.hr_eval.specs.Tallies.{tally_of, tally_step, tally_shown}

-- the values of each group, in ascending order
abbrev pub keys_of : List ColRef → List Tuple → List (List Value)
keys_of columns kept = ascending (map (group_of columns) kept)

-- the group with these values
abbrev pub group_so_far : List ColRef → List Item → List Tuple → List Value → Group
group_so_far columns items kept key = record { key = key; tallies = map (tally_of (members columns kept key)) items }

-- The groups so far: while they aren't too many, each is there, with the tallies of its rows or pairs.
pub record IsGrouped (columns : List ColRef) (items : List Item) (g : Groups) (kept : List Tuple) : Type 0 where
  pub many : MAX_ROWS < length g.groups.items → MAX_ROWS < length (keys_of columns kept)
  pub few : length g.groups.items ≤ MAX_ROWS → g.groups.items ≡ map (group_so_far columns items kept) (keys_of columns kept)

-- ---- Not to be believed: the steps of the code, which these mirror.

-- the tallies of a group with one row or pair more
abbrev pub steps : Tuple → List Item → List Tally → List Tally
steps t [] tallies = tallies
steps t (i ∷ items) [] = []
steps t (i ∷ items) (s ∷ tallies) = tally_step t i s ∷ steps t items tallies

-- a group of one row or pair
abbrev pub new_group : List Item → Tuple → List Value → Group
new_group items t key = record { key = key; tallies = steps t items (map (tally_of []) items) }

abbrev pub group_step : List Item → Tuple → Group → Group
group_step items t g = record { key = g.key; tallies = steps t items g.tallies }

-- what a group shows
abbrev pub group_shown : Group → Result (List Value) RunError
group_shown g = each tally_shown g.tallies

-- a new group before, a row or pair more in, or all that is behind the first of some groups
abbrev pub put_at : Ordering → Group → Group → Group → List Group → List Group → List Group
put_at Less new more first groups behind = new ∷ first ∷ groups
put_at Equal new more first groups behind = more ∷ groups
put_at Greater new more first groups behind = first ∷ behind

-- the groups with one row or pair more, whose values are these
abbrev pub put_tuple : List Item → Tuple → List Value → List Group → List Group
put_tuple items t key [] = new_group items t key ∷ []
put_tuple items t key (g ∷ groups) = put_at (row_cmp key g.key) (new_group items t key) (group_step items t g) g groups (put_tuple items t key groups)

-- ---- Not to be believed: how the code finds a group.

-- whether these values come after those of the group
abbrev pub is_over : List Value → Group → Bool
is_over key g = is_gt (row_cmp key g.key)

-- whether there is a group, and it has these values
abbrev pub has_key : Option Group → List Value → Bool
has_key None key = false
has_key (Some g) key = is_eq (row_cmp key g.key)

-- the same of the one at this place
abbrev pub is_at : List Group → ℕ → List Value → Bool
is_at groups at key = has_key (slice_get groups at) key

-- each row of a list is less than all that are behind it
abbrev pub is_rising : List (List Value) → Bool
is_rising [] = true
is_rising (k ∷ ks) = list_all (λ j. is_lt (row_cmp k j)) ks && is_rising ks

abbrev pub is_ascending : List Group → Bool
is_ascending groups = is_rising (map (λ (g : Group). g.key) groups)
