-- Words on lists.
use Rattle.std.specs.Prelude.{ℕ, zero, suc, Bool, true, false, not, ◌&&◌, ◌==◌, nat_lt, if◌then◌else◌, Option, Some, None, List, [], ◌∷◌, filter, slice_get}
use Rattle.std.specs.List.{list_any, range_with_len}

abbrev pub is_empty : {X : Type 0} → List X → Bool
is_empty [] = true
is_empty (x ∷ xs) = false

-- the one element of a list of one
abbrev pub only : {X : Type 0} → List X → Option X
only (x ∷ []) = Some x
only _ = None

-- the one with this number, counted from 1
abbrev pub numbered : {X : Type 0} → List X → ℕ → Option X
numbered xs zero = None
numbered xs (suc n) = slice_get xs n

-- the last one
abbrev pub last_of : {X : Type 0} → List X → Option X
last_of [] = None
last_of (x ∷ []) = Some x
last_of (x ∷ y ∷ xs) = last_of (y ∷ xs)

-- the first that is there
abbrev pub first_some : {X : Type 0} → List (Option X) → Option X
first_some [] = None
first_some (Some x ∷ xs) = Some x
first_some (None ∷ xs) = first_some xs

-- x, if the test holds
abbrev pub when : {X : Type 0} → Bool → X → Option X
when true x = Some x
when false x = None

-- of two, the second where it comes before the first
abbrev pub earlier : {X : Type 0} → (X → X → Bool) → X → Option X → Option X
earlier before x None = Some x
earlier before x (Some y) = Some (if before y x then y else x)

-- the one before which no other comes; of several, the first in the list
abbrev pub first_by : {X : Type 0} → (X → X → Bool) → List X → Option X
first_by before [] = None
first_by before (x ∷ xs) = earlier before x (first_by before xs)

-- ---- lists of numbers

-- the numbers 1 to n
abbrev pub one_to : ℕ → List ℕ
one_to n = range_with_len 1 n

-- whether the list has t
abbrev pub has : List ℕ → ℕ → Bool
has ts t = list_any (λ u. u == t) ts

-- whether none stands in it twice
abbrev pub is_distinct : List ℕ → Bool
is_distinct [] = true
is_distinct (t ∷ ts) = not (has ts t) && is_distinct ts

-- whether each is greater than the one before
abbrev pub is_ascending : List ℕ → Bool
is_ascending [] = true
is_ascending (t ∷ []) = true
is_ascending (t ∷ u ∷ ts) = nat_lt t u && is_ascending (u ∷ ts)

-- each of the list once, where it stands first
abbrev pub once : List ℕ → List ℕ
once [] = []
once (t ∷ ts) = t ∷ filter (λ u. not (u == t)) (once ts)
