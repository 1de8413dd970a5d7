use Rattle.std.proofs.Common.{◌≡◌, ◌+◌, ◌++◌, IfOk, List, [], ◌∷◌, take, drop, ap, sym, subst, ◌∙◌, arith}
use Rattle.std.proofs.lemmas.List.{take_all}
use Rattle.hr_rel.specs.declared.value.Value.{Value}
use Rattle.hr_meaning.specs.Select.{answer_from}
use Rattle.hr_meaning.specs.Exec.{tuples}
use Rattle.hr_machine.specs.Kept.{kept_of}
use Rattle.hr_machine.proofs.SelectLaws.{kept_through}
use Rattle.hr_machine.proofs.select.from_rows.Goals as goal

-- the rows behind this one change nothing any more
pub returns-then-is_full : goal.returns-then-is_full
returns-then-is_full c =
    let s = c.args.select.now in
    let rows = c.args.rows.now in
    let before = kept_of s (tuples (take c.rows.row-index rows ∷ [])) in
    let behind = kept_of s (tuples (drop (c.rows.row-index + 1) rows ∷ [])) in
    sym (ap (answer_from s) (kept_through s [] rows c.rows.row-index c.row-item.result c.rows-test.true c.row-item.is)
    ∙ ap (λ (row : List Value). answer_from s ((before ++ kept_of s ((row ∷ []) ∷ [])) ++ behind)) (sym c.as_slice.ensures)
    ∙ c.is_full.ensures s _ behind (c.in_ok-offer.ensures before c.rows.invariant) c.if-is_full.true)

pub returns : goal.returns
returns c =
    let s = c.args.select.now in
    subst (λ (rows : List (List Value)). IfOk c.answer.result (λ answer. answer ≡ answer_from s (kept_of s (tuples (rows ∷ [])))))
    (take_all c.rows.row-index c.args.rows.now (omega arith)) (c.answer.ensures s _ c.rows.invariant)
