-- Rows so far, with one row or pair more, and their answer.
use Rattle.std.proofs.Common.{◌≡◌, ◌+◌, ◌<◌, min, nat_lt, List, [], ◌∷◌, ◌++◌, length, ap, sym, ◌∙◌, arith, length-append}
use Rattle.std.proofs.lemmas.Bool.{lt-ltb, ltb-true, ltb_from_iff}
use Rattle.hr_base.specs.declared.limits.TheConstants.{MAX_ROWS}
use Rattle.hr_rel.specs.declared.stmt.Item.{Item}
use Rattle.hr_meaning.specs.Truth.{Tuple}
use Rattle.hr_meaning.specs.Insert.{unless}
use Rattle.hr_meaning.specs.Select.{plain_row}
use Rattle.hr_eval.specs.declared.plain_rows.PlainRows.{PlainRows}
use Rattle.hr_eval.specs.SoFar.{IsListed, with_last}
use Rattle.hr_eval.proofs.Each.{each_and_last}

module _ (items : List Item) where
  pub listed_one_more : (old new : PlainRows) (kept : List Tuple) (t : Tuple) → IsListed items old kept
      → new.count ≡ min old.count MAX_ROWS + 1
      → (old.count < MAX_ROWS → unless new.error new.rows ≡ with_last (unless old.error old.rows) (plain_row items t))
      → IsListed items new (kept ++ t ∷ [])
  listed_one_more old new kept t so_far counted last =
      let longer : length (kept ++ t ∷ []) ≡ length kept + 1 = length-append kept (t ∷ []) in
      record {
        counted = omega (arith, longer, counted, so_far.counted);
        listed = λ few. each_and_last (plain_row items) kept t
            ∙ ap (λ r. with_last r (plain_row items t)) (so_far.listed (omega (arith, longer, few)))
            ∙ sym (last (omega (arith, longer, few, so_far.counted)));
      }

  pub full_as_counted : (p : PlainRows) (kept : List Tuple) → IsListed items p kept → nat_lt MAX_ROWS p.count ≡ nat_lt MAX_ROWS (length kept)
  full_as_counted p kept so_far = ltb_from_iff (
    λ h. omega (arith, ltb-true MAX_ROWS p.count h, so_far.counted),
    λ h. lt-ltb MAX_ROWS p.count (omega (arith, h, so_far.counted)),
  )
