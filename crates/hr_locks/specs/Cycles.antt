-- Cycles of waits, and which of them is told.
use Rattle.std.specs.Prelude.{ℕ, Bool, true, false, not, ◌&&◌, ◌||◌, ◌==◌, nat_lt, List, [], ◌∷◌, ◌++◌, length, IsTrue}
use Rattle.std.specs.Ordering.{nat_cmp, is_le}
use Rattle.std.specs.Cmp.Lexicographic.{slice_cmp}
use Rattle.hr_base.specs.Lists.{has}

-- whether each of a path waits for the next, where `waits` gives the wait of each transaction
abbrev pub is_chain : (ℕ → List ℕ) → List ℕ → Bool
is_chain waits [] = true
is_chain waits (t ∷ []) = true
is_chain waits (t ∷ u ∷ path) = has (waits t) u && is_chain waits (u ∷ path)

-- whether a cycle closes along a path: its first is in the asker's way, each waits for the next, and the last for the asker
abbrev pub closes : (ℕ → Bool) → (ℕ → List ℕ) → ℕ → List ℕ → Bool
closes in_way waits asker [] = false
closes in_way waits asker (t ∷ path) = not (t == asker) && in_way t && is_chain waits (t ∷ path ++ asker ∷ [])

-- whether a path is told rather than another: the shorter one, and of two as long the first in dictionary order
abbrev pub is_told_before : List ℕ → List ℕ → Bool
is_told_before path other = nat_lt (length path) (length other) || ((length path == length other) && is_le (slice_cmp nat_cmp path other))

-- A path closes a cycle, and is told rather than any other that does.
pub record IsToldCycle (in_way : ℕ → Bool) (waits : ℕ → List ℕ) (asker : ℕ) (path : List ℕ) : Type 0 where
  pub closed : IsTrue (closes in_way waits asker path)
  pub first : (other : List ℕ) → IsTrue (closes in_way waits asker other) → IsTrue (is_told_before path other)
