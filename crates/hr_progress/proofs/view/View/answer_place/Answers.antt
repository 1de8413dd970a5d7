use Rattle.std.proofs.Common.{ℕ, List, map, unwrap_or, sym, ap, ◌∙◌}
use Rattle.std.specs.Option.{option_map}
use Rattle.hr_base.specs.Lists.{numbered}
use Rattle.hr_history.specs.View.{View, Attempt}
use Rattle.hr_history.specs.Processed.{attempt_in}
use Rattle.hr_progress.specs.declared.attempt.Told.{Told}
use Rattle.hr_progress.specs.declared.progress.Progress as progress
use Rattle.hr_progress.specs.Plain.{plain, plain_progress, plain_replica_in, plain_attempt_in}
use Rattle.hr_progress.proofs.Parts.{attempt_seen, numbered_map}
use Rattle.hr_progress.proofs.view.View.answer_place.Goals as goal

pub returns : goal.returns
returns c =
    let p = plain c.self.inside in
    let r = c.args.replica in
    let t = c.args.txn in
    let i = c.args.index in
    let ts = (plain_attempt_in (plain_replica_in p.replicas r).attempts t).answers in
    c.told_place.ensures
    ∙ ap (λ (xs : List Told). unwrap_or (option_map (λ (x : Told). x.at) (numbered xs i)) 0)
    (c.answers_at.ensures ∙ ap (λ (qs : List progress.Progress). (plain_attempt_in (plain_replica_in (map plain_progress qs) r).attempts t).answers) c.deref.ensures.value)
    ∙ sym (ap (λ (x : Attempt). unwrap_or (numbered x.places i) 0) (attempt_seen p r t) ∙ ap (λ o. unwrap_or o 0) (numbered_map (λ (x : Told). x.at) ts i))
    ∙ ap (λ (v : View). unwrap_or (numbered (attempt_in v r t).places i) 0) c.self.view_is
