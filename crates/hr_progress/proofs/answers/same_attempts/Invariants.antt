use Rattle.std.proofs.Common.{◌≡◌, length, drop}
use Rattle.hr_history.specs.SameAnswers.{same_answers}
use Rattle.hr_progress.proofs.Compared.{told_answers}
use Rattle.hr_progress.proofs.answers.same_attempts.Given as goal

abbrev pub invariant-answers : goal.invariant-answers
invariant-answers l = record {
  value : same_answers (told_answers l.replies (drop l.place l.told)) (told_answers l.replies (drop l.place l.other)) ≡ same_answers (told_answers l.replies l.told) (told_answers l.replies l.other);
  long : length l.told ≡ length l.other;
}
