use Rattle.std.proofs.Common.{◌≡◌, ◌≤◌, List, map, length, sym, ap, subst, ◌∙◌}
use Rattle.hr_base.specs.declared.limits.TheConstants.{MAX_STATEMENTS}
use Rattle.hr_engine.specs.declared.reply.RunReply.{RunReply}
use Rattle.hr_history.specs.SameAnswers.{same_answers}
use Rattle.hr_history.specs.View.{View}
use Rattle.hr_history.specs.Processed.{answers_in, given_in}
use Rattle.hr_progress.specs.declared.progress.Progress as progress
use Rattle.hr_progress.specs.declared.txn.TxnState as txn
use Rattle.hr_progress.specs.declared.txn.Given.{Given}
use Rattle.hr_progress.specs.declared.attempt.Told.{Told}
use Rattle.hr_progress.specs.Plain.{plain, plain_txn, plain_progress, plain_txn_in, plain_replica_in, plain_attempt_in}
use Rattle.hr_progress.specs.Kept.{AreAnswers, told_places}
use Rattle.hr_progress.proofs.Lookups.{few_statements}
use Rattle.hr_progress.proofs.Rests.{told_at}
use Rattle.hr_progress.proofs.Compared.{told_answers, given_answers, answers_are, given_are, given_few}
use Rattle.hr_progress.proofs.view.View.same_as_given.Goals as goal

its_told : (c : goal.After-given_of) → c.answers_at-told.result.now ≡ (plain_attempt_in (plain_replica_in (plain c.self.inside).replicas c.args.replica).attempts c.args.txn).answers
its_told c = c.answers_at-told.ensures ∙ ap (λ (qs : List progress.Progress). (plain_attempt_in (plain_replica_in (map plain_progress qs) c.args.replica).attempts c.args.txn).answers) c.deref.ensures.value

its_given : (c : goal.After-given_of) → c.given_of.result.now ≡ (plain_txn_in (plain c.self.inside).txns c.args.txn).given
its_given c = c.given_of.ensures ∙ ap (λ (xs : List txn.TxnState). (plain_txn_in (map plain_txn xs) c.args.txn).given) c.deref-3.ensures.value

pub same_as_given-requires-clause-told : goal.same_as_given-requires-clause-told
same_as_given-requires-clause-told c =
    let p = plain c.self.inside in
    subst (λ (rs : List RunReply). AreAnswers rs (told_places rs c.answers_at-told.result.now)) (sym c.deref-2.ensures.value)
    (subst (λ (ts : List Told). AreAnswers p.replies (told_places p.replies ts)) (sym (its_told c)) (told_at p.replies (plain_replica_in p.replicas c.args.replica).attempts (c.self.invariant.places.told c.args.replica) c.args.txn).answers)

pub same_as_given-requires-clause-few : goal.same_as_given-requires-clause-few
same_as_given-requires-clause-few c =
    subst (λ (gs : List Given). length gs ≤ MAX_STATEMENTS) (sym (its_given c)) (given_few (plain c.self.inside) c.args.txn c.self.invariant.sane (few_statements c.self.inside.txns.items c.args.txn c.self.invariant.room.given))

pub returns : goal.returns
returns c =
    let p = plain c.self.inside in
    let r = c.args.replica in
    let t = c.args.txn in
    c.same_as_given.ensures
    ∙ (λ i. same_answers (told_answers (c.deref-2.ensures.value i) (its_told c.before i)) (given_answers (c.deref-2.ensures.value i) (its_given c.before i)))
    ∙ sym (λ i. same_answers (answers_are p r t i) (given_are p t i)) ∙ ap (λ (v : View). same_answers (answers_in v r t) (given_in v t)) c.self.view_is
