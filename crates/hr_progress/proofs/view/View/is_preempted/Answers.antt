use Rattle.std.proofs.Common.{List, map, sym, ap, ◌∙◌}
use Rattle.hr_history.specs.View.{Attempt}
use Rattle.hr_history.specs.Processed.{attempt_in}
use Rattle.hr_progress.specs.declared.progress.Progress as code
use Rattle.hr_progress.specs.Plain.{PlainProgress, plain, plain_progress, plain_replica_in, plain_attempt_in}
use Rattle.hr_progress.proofs.Parts.{attempt_seen}
use Rattle.hr_progress.proofs.Lookups.{replica_found, replica_missing}
use Rattle.hr_progress.proofs.view.View.is_preempted.Goals as goal

pub returns-in-Some : goal.returns-in-Some
returns-in-Some c =
    let r = c.args.replica in
    let t = c.args.txn in
    c.preempted_in.ensures
    ∙ sym (ap (λ (q : PlainProgress). (plain_attempt_in q.attempts t).preempted) (replica_found c.deref.result.now r c.in-Some.progress.now c.in-Some.ensures.lookup.3.0 c.in-Some.ensures.lookup.1))
    ∙ ap (λ (qs : List code.Progress). (plain_attempt_in (plain_replica_in (map plain_progress qs) r).attempts t).preempted) c.deref.ensures.value
    ∙ sym (ap (λ (x : Attempt). x.preempted) (attempt_seen (plain c.self.inside) r t)) ∙ ap (λ v. (attempt_in v r t).preempted) c.self.view_is

pub returns-in-None : goal.returns-in-None
returns-in-None c =
    let r = c.args.replica in
    let t = c.args.txn in
    sym (ap (λ (q : PlainProgress). (plain_attempt_in q.attempts t).preempted) (replica_missing c.deref.result.now r c.in-None.ensures.lookup.3))
    ∙ ap (λ (qs : List code.Progress). (plain_attempt_in (plain_replica_in (map plain_progress qs) r).attempts t).preempted) c.deref.ensures.value
    ∙ sym (ap (λ (x : Attempt). x.preempted) (attempt_seen (plain c.self.inside) r t)) ∙ ap (λ v. (attempt_in v r t).preempted) c.self.view_is
