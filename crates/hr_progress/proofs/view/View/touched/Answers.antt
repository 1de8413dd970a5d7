use Rattle.std.proofs.Common.{List, map, sym, ap, subst, ◌∙◌}
use Rattle.hr_history.specs.View.{View}
use Rattle.hr_moves.specs.Kept.{touched_in}
use Rattle.hr_moves.specs.Sane.{IsReplica}
use Rattle.hr_progress.specs.declared.progress.Progress as code
use Rattle.hr_progress.specs.Plain.{plain, plain_progress, plain_replica_in}
use Rattle.hr_progress.proofs.Replicas.{within}
use Rattle.hr_progress.proofs.Words.{touched_seen}
use Rattle.hr_progress.proofs.view.View.touched.Goals as goal

pub returns : goal.returns
returns c =
    let p = plain c.self.inside in
    let r = c.args.replica in
    c.touched_of.ensures ∙ ap (λ (qs : List code.Progress). (plain_replica_in (map plain_progress qs) r).touched) c.deref.ensures.value
    ∙ (c.self.invariant.kept.counted r (within p r c.self.invariant.sane (subst (λ (v : View). IsReplica v r) (sym c.self.view_is) c.requires))).touched
    ∙ touched_seen p r ∙ ap (λ v. touched_in v r) c.self.view_is
