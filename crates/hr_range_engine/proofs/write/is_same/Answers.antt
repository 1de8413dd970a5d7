use Rattle.std.proofs.Common.{ap, ◌∙◌}
use Rattle.std.specs.Ordering.{is_eq}
use Rattle.std.specs.declared.cmp.Ordering.{Ordering}
use Rattle.std.specs.Cmp.Lexicographic.{slice_cmp}
use Rattle.hr_rel.specs.declared.value.Value.{Value}
use Rattle.hr_answer.proofs.ValueOrder.{derived_cmp}
use Rattle.hr_range_engine.proofs.write.is_same.Goals as goal

pub returns : goal.returns
returns c =
    c.is_eq.ensures ∙ ap is_eq (c.cmp.ensures ∙ ap (λ (by : Value → Value → Ordering). slice_cmp by c.args.row.now c.args.other.now) (λ i a b. derived_cmp a b i))
