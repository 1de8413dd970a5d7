use Rattle.std.proofs.Common.{◌≡◌, ◌+◌, ◌-◌, ◌≤◌, length, drop}
use Rattle.hr_history.specs.SameAnswers.{first_difference}
use Rattle.hr_progress.proofs.Compared.{told_answers, given_answers}
use Rattle.hr_progress.proofs.answers.first_difference.Given as goal

abbrev pub invariant-answers : goal.invariant-answers
invariant-answers l = record {
  value : first_difference (told_answers l.replies l.told) (given_answers l.replies l.given) ≡ l.same + first_difference (told_answers l.replies (drop l.same l.told)) (given_answers l.replies (drop l.same l.given));
  bound : l.same ≤ length l.given;
}

abbrev pub decreases-answers : goal.decreases-answers
decreases-answers l = length l.told - l.same
