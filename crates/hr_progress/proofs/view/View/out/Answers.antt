use Rattle.std.proofs.Common.{List, map, sym, ap, ◌∙◌}
use Rattle.hr_history.specs.View.{Progress}
use Rattle.hr_history.specs.Processed.{replica_in}
use Rattle.hr_progress.specs.declared.progress.Progress as code
use Rattle.hr_progress.specs.Plain.{plain, plain_progress, plain_replica_in}
use Rattle.hr_progress.proofs.Parts.{replica_seen}
use Rattle.hr_progress.proofs.view.View.out.Goals as goal

pub returns : goal.returns
returns c =
    let r = c.args.replica in
    c.out_of.ensures ∙ ap (λ (qs : List code.Progress). (plain_replica_in (map plain_progress qs) r).out) c.deref.ensures.value
    ∙ sym (ap (λ (x : Progress). x.out) (replica_seen (plain c.self.inside) r)) ∙ ap (λ v. (replica_in v r).out) c.self.view_is
