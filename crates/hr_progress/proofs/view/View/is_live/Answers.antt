use Rattle.std.proofs.Common.{List, map, not, ◌&&◌, sym, ap, ◌∙◌}
use Rattle.hr_history.specs.View.{Progress}
use Rattle.hr_history.specs.Processed.{live_in}
use Rattle.hr_progress.specs.declared.progress.Progress as code
use Rattle.hr_progress.specs.Plain.{PlainProgress, plain, plain_progress, plain_replica_in}
use Rattle.hr_progress.proofs.Parts.{replica_seen}
use Rattle.hr_progress.proofs.Lookups.{replica_found, replica_missing}
use Rattle.hr_progress.proofs.view.View.is_live.Goals as goal

pub returns-then-not-progress : goal.returns-then-not-progress
returns-then-not-progress c =
    let r = c.args.replica in
    ap (λ b. not b && not c.in-Some.progress.now.convicted) (sym c.if-not-progress.true)
    ∙ sym (ap (λ (q : PlainProgress). not q.lost && not q.convicted) (replica_found c.deref.result.now r c.in-Some.progress.now c.in-Some.ensures.lookup.3.0 c.in-Some.ensures.lookup.1))
    ∙ ap (λ (qs : List code.Progress). not (plain_replica_in (map plain_progress qs) r).lost && not (plain_replica_in (map plain_progress qs) r).convicted) c.deref.ensures.value
    ∙ sym (ap (λ (x : Progress). not x.lost && not x.convicted) (replica_seen (plain c.self.inside) r)) ∙ ap (λ v. live_in v r) c.self.view_is

pub returns-else-not-progress : goal.returns-else-not-progress
returns-else-not-progress c =
    let r = c.args.replica in
    ap not c.if-not-progress.false ∙ ap (λ b. not b && not c.in-Some.progress.now.convicted) (sym c.if-not-progress.false)
    ∙ sym (ap (λ (q : PlainProgress). not q.lost && not q.convicted) (replica_found c.deref.result.now r c.in-Some.progress.now c.in-Some.ensures.lookup.3.0 c.in-Some.ensures.lookup.1))
    ∙ ap (λ (qs : List code.Progress). not (plain_replica_in (map plain_progress qs) r).lost && not (plain_replica_in (map plain_progress qs) r).convicted) c.deref.ensures.value
    ∙ sym (ap (λ (x : Progress). not x.lost && not x.convicted) (replica_seen (plain c.self.inside) r)) ∙ ap (λ v. live_in v r) c.self.view_is

pub returns-in-None : goal.returns-in-None
returns-in-None c =
    let r = c.args.replica in
    sym (ap (λ (q : PlainProgress). not q.lost && not q.convicted) (replica_missing c.deref.result.now r c.in-None.ensures.lookup.3))
    ∙ ap (λ (qs : List code.Progress). not (plain_replica_in (map plain_progress qs) r).lost && not (plain_replica_in (map plain_progress qs) r).convicted) c.deref.ensures.value
    ∙ sym (ap (λ (x : Progress). not x.lost && not x.convicted) (replica_seen (plain c.self.inside) r)) ∙ ap (λ v. live_in v r) c.self.view_is
