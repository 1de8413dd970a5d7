use Rattle.std.proofs.Common.{ap, sym, ◌∙◌}
use Rattle.hr_history.specs.SameAnswers.{same_answer}
use Rattle.hr_progress.specs.Seen.{answer_at}
use Rattle.hr_progress.proofs.Compared.{same_itself}
use Rattle.hr_progress.proofs.answers.same_at.Goals as goal

pub returns-then-a-b : goal.returns-then-a-b
returns-then-a-b c = sym (ap (λ k. same_answer (answer_at c.args.replies.now c.args.a) (answer_at c.args.replies.now k)) (sym c.if-a-b.true) ∙ same_itself (answer_at c.args.replies.now c.args.a))
