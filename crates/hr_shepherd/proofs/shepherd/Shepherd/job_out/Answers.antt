use Rattle.std.proofs.Common.{ap, ◌∙◌}
use Rattle.hr_history.specs.View.{View}
use Rattle.hr_history.specs.Processed.{replica_in}
use Rattle.hr_ledger.specs.Chronicle.{view_in}
use Rattle.hr_shepherd.proofs.Lent.{out_here}
use Rattle.hr_shepherd.proofs.shepherd.Shepherd.job_out.Goals as goal

pub returns : goal.returns
returns c =
    let r = c.args.replica in
    let here = c.ledger.ensures ∙ c.deref.ensures ∙ c.self.view_is in
    c.out.ensures ∙ ap (λ (v : View). (replica_in v r).out) (c.view.ensures ∙ ap view_in here) ∙ out_here c.args.self.now r c.requires
