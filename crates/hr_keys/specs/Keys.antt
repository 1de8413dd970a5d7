-- What the order of keys gives a search, and what a condition asks of a key.
use Rattle.std.specs.Prelude.{◌≡◌, ℕ, ℤ, Bool, true, false, ◌&&◌, ◌==◌, Option, List, [], ◌∷◌, take, drop}
use Rattle.std.specs.List.{list_all, list_any}
use Rattle.hr_rel.specs.declared.value.Value.{Value}
use Rattle.hr_rel.specs.declared.expr.ColRef.{ColRef}
use Rattle.hr_rel.specs.declared.expr.Pred.{Pred}
use Rattle.hr_meaning.specs.Truth.{is_kept}
use Rattle.hr_meaning.specs.Insert.{has_key, comes_after}

-- for each number, all rows behind one whose key is greater have greater keys too
abbrev pub Splits : List (List Value) → Type 0
Splits [] = Unit {0}
Splits (row ∷ rows) = ((n : ℤ) → comes_after n row ≡ true → list_all (comes_after n) rows ≡ true) × Splits rows

-- no row before the first place, and none from the second one on, passes
abbrev pub IsClear : (List Value → Bool) → ℕ → ℕ → List (List Value) → Type 0
IsClear p from to rows = (list_any p (take from rows) ≡ false) × (list_any p (drop to rows) ≡ false)

-- each row that the condition keeps has this key
abbrev pub Asks : ℤ → Option Pred → Type 0
Asks n filter = (row : List Value) → is_kept filter (row ∷ []) ≡ true → has_key n row ≡ true

-- the first column of the first table entry
abbrev pub is_key_column : ColRef → Bool
is_key_column c = (c.entry == 0) && (c.column == 0)
