use Rattle.std.proofs.Common.{List, map, length, sym, ap, ◌∙◌}
use Rattle.hr_history.specs.Processed.{attempt_in}
use Rattle.hr_progress.specs.declared.progress.Progress as code
use Rattle.hr_progress.specs.Plain.{plain, plain_progress, plain_replica_in, plain_attempt_in}
use Rattle.hr_progress.proofs.Words.{answers_seen}
use Rattle.hr_progress.proofs.view.View.answered.Goals as goal

pub returns : goal.returns
returns c =
    let r = c.args.replica in
    let t = c.args.txn in
    c.answered_at.ensures ∙ ap (λ (qs : List code.Progress). length (plain_attempt_in (plain_replica_in (map plain_progress qs) r).attempts t).answers) c.deref.ensures.value
    ∙ sym (answers_seen (plain c.self.inside) r t) ∙ ap (λ v. length (attempt_in v r t).answers) c.self.view_is
