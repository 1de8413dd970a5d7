use Rattle.std.proofs.Common.{ap, ◌∙◌}
use Rattle.std.proofs.lemmas.Result.{IfOk-weaker}
use Rattle.hr_meaning.specs.Select.{few}
use Rattle.hr_eval.specs.Groups.{group_shown}
use Rattle.hr_eval.proofs.GroupLaws.{few_as_grouped}
use Rattle.hr_eval.proofs.groups.Groups.answer.Goals as goal

pub returns : goal.returns
returns c = λ columns items kept so_far.
    IfOk-weaker c.answer_of.result _ _ (λ a e. e ∙ ap (few group_shown) c.deref.ensures.value ∙ few_as_grouped columns items c.args.self kept so_far) c.answer_of.ensures
