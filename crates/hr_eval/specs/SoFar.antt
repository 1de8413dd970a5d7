-- What an answer in the making holds of the rows or pairs that were kept so far.
use Rattle.std.specs.Prelude.{◌≡◌, ◌+◌, ◌≤◌, min, List, [], ◌∷◌, ◌++◌, length, Result, Ok}
use Rattle.hr_base.specs.declared.limits.TheConstants.{MAX_ROWS}
use Rattle.hr_rel.specs.declared.answer.RunError.{RunError}
use Rattle.hr_rel.specs.declared.stmt.Item.{Item}
use Rattle.hr_meaning.specs.Truth.{Tuple}
use Rattle.hr_meaning.specs.Value.{and_then, each}
use Rattle.hr_meaning.specs.Insert.{unless}
use Rattle.hr_meaning.specs.Select.{plain_row}
use Rattle.hr_eval.specs.declared.plain_rows.PlainRows.{PlainRows}

-- The answer of a SELECT without aggregate or GROUP BY so far. All that are kept are counted, up to one too many; while they
-- aren't too many, their rows are there, or the first error.
pub record IsListed (items : List Item) (p : PlainRows) (kept : List Tuple) : Type 0 where
  pub counted : p.count ≡ min (length kept) (MAX_ROWS + 1)
  pub listed : length kept ≤ MAX_ROWS → each (plain_row items) kept ≡ unless p.error p.rows

-- a list with one more at its end, or the first error
abbrev pub with_last : {X : Type 0} → Result (List X) RunError → Result X RunError → Result (List X) RunError
with_last all last = and_then all (λ xs. and_then last (λ x. Ok (xs ++ x ∷ [])))

-- a list behind a front, or its error
abbrev pub led : {X : Type 0} → List X → Result (List X) RunError → Result (List X) RunError
led front all = and_then all (λ xs. Ok (front ++ xs))
