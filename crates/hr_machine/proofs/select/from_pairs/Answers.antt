use Rattle.std.proofs.Common.{◌≡◌, ◌+◌, IfOk, List, [], ◌∷◌, take, drop, ap, sym, subst, ◌∙◌, arith}
use Rattle.std.proofs.lemmas.List.{take_all}
use Rattle.hr_rel.specs.declared.value.Value.{Value}
use Rattle.hr_meaning.specs.Select.{answer_from}
use Rattle.hr_meaning.specs.Exec.{tuples}
use Rattle.hr_machine.specs.Kept.{kept_of}
use Rattle.hr_machine.proofs.SelectLaws.{kept_through}
use Rattle.hr_machine.proofs.select.from_pairs.Goals as goal

-- the rows behind this one change nothing any more
pub returns-then-is_full : goal.returns-then-is_full
returns-then-is_full c =
    let s = c.args.select.now in
    let firsts = c.args.firsts.now in
    let others = c.args.seconds.now ∷ [] in
    let before = kept_of s (tuples (take c.firsts.first-index firsts ∷ others)) in
    let behind = kept_of s (tuples (drop (c.firsts.first-index + 1) firsts ∷ others)) in
    sym (ap (answer_from s) (kept_through s others firsts c.firsts.first-index c.first-item.result c.firsts-test.true c.first-item.is)
    ∙ c.is_full.ensures s _ behind (c.in_ok-offer_pairs.ensures before c.firsts.invariant) c.if-is_full.true)

pub returns : goal.returns
returns c =
    let s = c.args.select.now in
    subst (λ (rows : List (List Value)). IfOk c.answer.result (λ answer. answer ≡ answer_from s (kept_of s (tuples (rows ∷ c.args.seconds.now ∷ [])))))
    (take_all c.firsts.first-index c.args.firsts.now (omega arith)) (c.answer.ensures s _ c.firsts.invariant)
