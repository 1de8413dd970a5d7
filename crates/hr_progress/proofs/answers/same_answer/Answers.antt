use Rattle.std.proofs.Common.{ap, sym, ◌∙◌}
use Rattle.std.specs.Ordering.{is_eq}
use Rattle.hr_answer.proofs.ValueOrder.{rows_alike_derived}
use Rattle.hr_history.specs.SameAnswers.{same_answer}
use Rattle.hr_history.proofs.SameAnswersLemmas.{rows_decides}
use Rattle.hr_progress.proofs.Waiting.{same_bool}
use Rattle.hr_progress.proofs.answers.same_answer.Goals as goal

pub returns-in-Rows-Rows : goal.returns-in-Rows-Rows
returns-in-Rows-Rows c =
    let x = c.in-Rows-Rows.a in
    let y = c.in-Rows-Rows.b in
    c.is_eq.ensures ∙ ap is_eq c.cmp.ensures
    ∙ same_bool _ _ (λ h. (rows_decides x y).1 ((rows_alike_derived x y).0 h)) (λ h. (rows_alike_derived x y).1 ((rows_decides x y).0 h))
    ∙ sym (λ i. same_answer (c.in-Rows-Rows.is-0 i) (c.in-Rows-Rows.is-1 i))
