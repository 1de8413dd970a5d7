use Rattle.std.proofs.Common.{ap, subst, ◌∙◌, [], ◌∷◌, Ok}
use Rattle.std.proofs.lemmas.Result.{IfOk-weaker}
use Rattle.hr_meaning.specs.Value.{and_then, each}
use Rattle.hr_meaning.specs.Select.{shown}
use Rattle.hr_eval.specs.Tallies.{tally_shown}
use Rattle.hr_eval.specs.Answerings.{IsSoFar}
use Rattle.hr_eval.proofs.AnsweringLaws.{whole_answered}
use Rattle.hr_eval.proofs.answering.Answering.answer.Goals as goal

pub returns-in-Whole : goal.returns-in-Whole
returns-in-Whole c = λ s kept so_far.
    let whole = subst (λ a. IsSoFar s a kept) c.in-Whole.is so_far in
    IfOk-weaker c.whole_answer.result _ _
    (λ a e. e ∙ ap (λ l. shown (and_then (each tally_shown l) (λ row. Ok (row ∷ [])))) c.as_slice.ensures ∙ whole_answered s c.in-Whole.tallies kept whole)
    c.whole_answer.ensures
