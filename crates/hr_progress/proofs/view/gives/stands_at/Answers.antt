use Rattle.std.proofs.Common.{option_copied, ap, sym, ◌∙◌}
use Rattle.hr_history.proofs.SameAnswersLemmas.{same_answer_decides}
use Rattle.hr_progress.proofs.Compared.{stands_there}
use Rattle.hr_progress.proofs.view.gives.stands_at.Goals as goal

pub returns-in-Some : goal.returns-in-Some
returns-in-Some c = λ same. stands_there _ c.in-Some.other.now c.args.answer.now (sym c.done_at.ensures ∙ ap option_copied c.in-Some.is) ((same_answer_decides c.in-Some.other.now c.args.answer.now).0 (sym c.same_answer.ensures ∙ same))
