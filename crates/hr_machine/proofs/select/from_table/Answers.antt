use Rattle.std.proofs.Common.{◌≡◌, IfOk, List, subst}
use Rattle.hr_meaning.specs.Truth.{Tuple}
use Rattle.hr_meaning.specs.Select.{answer_from}
use Rattle.hr_machine.proofs.Spans.{kept_within}
use Rattle.hr_machine.proofs.select.from_table.Goals as goal

pub returns : goal.returns
returns c =
    let s = c.args.select.now in
    let same = kept_within s c.args.rows.now c.span_of-span.result.from c.span_of-span.result.to c.span_of-span.ensures.within.0 c.span_of-span.ensures.clear in
    subst (λ (k : List Tuple). IfOk c.from_rows.result (λ answer. answer ≡ answer_from s k)) same c.from_rows.ensures
