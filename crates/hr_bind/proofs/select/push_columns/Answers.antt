use Rattle.std.proofs.Common.{ℕ, List, [], ◌∷◌, ◌++◌, map, sym, ap, ◌∙◌, append_assoc, arith}
use Rattle.std.specs.List.{range_with_len}
use Rattle.std.proofs.lemmas.List.FromFn.{map-range_with_len_more}
use Rattle.hr_rel.specs.declared.stmt.Item.{Item}
use Rattle.hr_bind.specs.Bound.{column_item}
use Rattle.hr_bind.proofs.select.push_columns.Goals as goal

-- one column more
pub loop-place-preserved : goal.loop-place-preserved
loop-place-preserved c =
    let f = column_item c.args.number in
    let n = c.loop-place.place in
    let front = c.args.all.now.items in
    c.in_ok-push.ensures.items ∙ ap (λ (all : List Item). all ++ f c.in_ok-small.field-0 ∷ []) c.loop-place.invariant
    ∙ ap (λ (place : ℕ). front ++ map f (range_with_len 0 n) ++ f place ∷ []) c.in_ok-small.ensures
    ∙ append_assoc front (map f (range_with_len 0 n)) (f n ∷ []) ∙ ap (λ (all : List Item). front ++ all) (sym (map-range_with_len_more f 0 n n (omega arith)))
