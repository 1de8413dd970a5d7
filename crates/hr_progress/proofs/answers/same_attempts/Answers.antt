use Rattle.std.proofs.Common.{sym, ◌∙◌, arith}
use Rattle.hr_progress.proofs.Compared.{told_is, same_on, same_here, same_past, differ_long}
use Rattle.hr_progress.proofs.answers.same_attempts.Goals as goal

pub returns-then-told-other : goal.returns-then-told-other
returns-then-told-other c = sym (differ_long c.args.replies.now c.args.told.now c.args.other.now c.if-told-other.true)

pub same_at-requires-clause-first : goal.same_at-requires-clause-first
same_at-requires-clause-first c = told_is c.args.replies.now c.args.told.now c.answers.place record { reply = 0; at = 0 } c.requires.told c.answers-test.true

pub same_at-requires-clause-second : goal.same_at-requires-clause-second
same_at-requires-clause-second c = told_is c.args.replies.now c.args.other.now c.answers.place record { reply = 0; at = 0 } c.requires.other (omega (arith, c.answers-test.true, c.answers.invariant.long))

pub answers-preserved : goal.answers-preserved
answers-preserved c = record {
  value = sym (same_on c.args.replies.now c.args.told.now c.args.other.now c.answers.place record { reply = 0; at = 0 } c.answers-test.true (omega (arith, c.answers-test.true, c.answers.invariant.long)) (sym c.same_at.ensures ∙ c.if-not-same_at.false)) ∙ c.answers.invariant.value;
  long = c.answers.invariant.long;
}

pub returns-then-not-same_at : goal.returns-then-not-same_at
returns-then-not-same_at c =
    sym (same_here c.args.replies.now c.args.told.now c.args.other.now c.answers.place record { reply = 0; at = 0 } c.answers-test.true (omega (arith, c.answers-test.true, c.answers.invariant.long)) (sym c.same_at.ensures ∙ c.if-not-same_at.true)) ∙ c.answers.invariant.value

pub returns : goal.returns
returns c = sym (same_past c.args.replies.now c.args.told.now c.args.other.now c.answers.place c.answers-test.false (omega (arith, c.answers-test.false, c.answers.invariant.long))) ∙ c.answers.invariant.value
