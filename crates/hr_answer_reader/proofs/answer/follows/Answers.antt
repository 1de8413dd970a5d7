use Rattle.std.proofs.Common.{◌∙◌, ap, not}
use Rattle.std.specs.Cmp.Lexicographic.{slice_cmp}
use Rattle.std.specs.Ordering.{is_lt}
use Rattle.std.specs.declared.cmp.Ordering.{Ordering}
use Rattle.hr_rel.specs.declared.value.Value.{Value}
use Rattle.hr_answer.proofs.ValueOrder.{derived_cmp}
use Rattle.hr_answer_reader.proofs.answer.follows.Goals as goal

pub returns : goal.returns
returns c =
    ap not c.is_lt.ensures ∙ ap (λ (o : Ordering). not (is_lt o)) c.cmp.ensures
    ∙ ap (λ (R : Value → Value → Ordering). not (is_lt (slice_cmp R c.args.row.now c.args.before.now))) (λ i a b. derived_cmp a b i)
