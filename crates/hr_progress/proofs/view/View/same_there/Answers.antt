use Rattle.std.proofs.Common.{◌≡◌, List, map, sym, ap, subst, ◌∙◌}
use Rattle.hr_engine.specs.declared.reply.RunReply.{RunReply}
use Rattle.hr_history.specs.SameAnswers.{same_answers}
use Rattle.hr_history.specs.View.{View}
use Rattle.hr_history.specs.Processed.{answers_in}
use Rattle.hr_progress.specs.declared.progress.Progress as progress
use Rattle.hr_progress.specs.declared.attempt.Told.{Told}
use Rattle.hr_progress.specs.Plain.{plain, plain_progress, plain_replica_in, plain_attempt_in}
use Rattle.hr_progress.specs.Kept.{AreAnswers, told_places}
use Rattle.hr_progress.proofs.Rests.{told_at}
use Rattle.hr_progress.proofs.Compared.{told_answers, answers_are}
use Rattle.hr_progress.proofs.view.View.same_there.Goals as goal

here : (c : goal.After-answers_at) → c.answers_at-told.result.now ≡ (plain_attempt_in (plain_replica_in (plain c.self.inside).replicas c.args.replica).attempts c.args.txn).answers
here c = c.answers_at-told.ensures ∙ ap (λ (qs : List progress.Progress). (plain_attempt_in (plain_replica_in (map plain_progress qs) c.args.replica).attempts c.args.txn).answers) c.deref.ensures.value

there : (c : goal.After-answers_at) → c.answers_at.result.now ≡ (plain_attempt_in (plain_replica_in (plain c.self.inside).replicas c.args.other).attempts c.args.txn).answers
there c = c.answers_at.ensures ∙ ap (λ (qs : List progress.Progress). (plain_attempt_in (plain_replica_in (map plain_progress qs) c.args.other).attempts c.args.txn).answers) c.deref-3.ensures.value

pub same_attempts-requires-clause-told : goal.same_attempts-requires-clause-told
same_attempts-requires-clause-told c =
    let p = plain c.self.inside in
    subst (λ (rs : List RunReply). AreAnswers rs (told_places rs c.answers_at.result.now)) (sym c.deref-2.ensures.value)
    (subst (λ (ts : List Told). AreAnswers p.replies (told_places p.replies ts)) (sym (there c)) (told_at p.replies (plain_replica_in p.replicas c.args.other).attempts (c.self.invariant.places.told c.args.other) c.args.txn).answers)

pub same_attempts-requires-clause-other : goal.same_attempts-requires-clause-other
same_attempts-requires-clause-other c =
    let p = plain c.self.inside in
    subst (λ (rs : List RunReply). AreAnswers rs (told_places rs c.answers_at-told.result.now)) (sym c.deref-2.ensures.value)
    (subst (λ (ts : List Told). AreAnswers p.replies (told_places p.replies ts)) (sym (here c)) (told_at p.replies (plain_replica_in p.replicas c.args.replica).attempts (c.self.invariant.places.told c.args.replica) c.args.txn).answers)

pub returns : goal.returns
returns c =
    let p = plain c.self.inside in
    let t = c.args.txn in
    c.same_attempts.ensures
    ∙ (λ i. same_answers (told_answers (c.deref-2.ensures.value i) (there c.before i)) (told_answers (c.deref-2.ensures.value i) (here c.before i)))
    ∙ sym (λ i. same_answers (answers_are p c.args.other t i) (answers_are p c.args.replica t i)) ∙ ap (λ (v : View). same_answers (answers_in v c.args.other t) (answers_in v c.args.replica t)) c.self.view_is
