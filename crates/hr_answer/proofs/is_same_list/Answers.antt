use Rattle.std.proofs.Common.{◌∙◌, ap, sym, subst, IsTrue, ◌↔◌, ◌≡◌}
use Rattle.std.specs.Ordering.{is_eq}
use Rattle.hr_answer.proofs.ValueOrder.{rows_alike_derived}
use Rattle.hr_answer.proofs.is_same_list.Goals as goal

pub returns : goal.returns
returns c =
    let told = c.is_eq.ensures ∙ ap is_eq c.cmp.ensures in
    subst (λ b. IsTrue b ↔ (c.args.a.now ≡ c.args.b.now)) (sym told) (rows_alike_derived c.args.a.now c.args.b.now)
