use Rattle.std.proofs.Common.{◌+◌, sym, ap, ◌∙◌, arith}
use Rattle.hr_progress.proofs.Compared.{told_is, given_is, differs_here, differs_past_told, differs_past_given}
use Rattle.hr_progress.proofs.answers.first_difference.Goals as goal
use Rattle.hr_progress.proofs.answers.first_difference.Goals.{then-answers-test+else-same-given, else-answers-test}

pub same_at-requires-clause-first : goal.same_at-requires-clause-first
same_at-requires-clause-first c = told_is c.args.replies.now c.args.told.now c.answers.same record { reply = 0; at = 0 } c.requires.told c.answers-test.true

pub same_at-requires-clause-second : goal.same_at-requires-clause-second
same_at-requires-clause-second c = given_is c.args.replies.now c.args.given.now c.answers.same record { reply = 0; stamp = 0 } c.requires.given c.if-same-given.true

pub returns-then-not-same_at : goal.returns-then-not-same_at
returns-then-not-same_at c =
    let here = differs_here c.args.replies.now c.args.told.now c.args.given.now c.answers.same record { reply = 0; at = 0 } record { reply = 0; stamp = 0 } c.answers-test.true c.if-same-given.true (sym c.same_at.ensures ∙ c.if-not-same_at.true) in
    sym (c.answers.invariant.value ∙ ap (λ n. c.answers.same + n) here)

pub returns : goal.returns
returns c =
    elim c.answers-test.branch [
      | then-answers-test+else-same-given w ↦ sym (c.answers.invariant.value ∙ ap (λ n. c.answers.same + n) (differs_past_given c.args.replies.now c.args.told.now c.args.given.now c.answers.same (omega (arith, w.if-same-given))))
      | else-answers-test w ↦ sym (c.answers.invariant.value ∙ ap (λ n. c.answers.same + n) (differs_past_told c.args.replies.now c.args.told.now c.args.given.now c.answers.same (omega (arith, w.answers-test))))
    ]
