use Rattle.std.proofs.Common.{List, map, slice_get, sym, ap, ◌∙◌}
use Rattle.hr_history.specs.View.{View}
use Rattle.hr_moves.specs.Kept.{entries_in}
use Rattle.hr_progress.specs.declared.progress.Progress as code
use Rattle.hr_progress.specs.Plain.{key, plain, plain_progress, plain_replica_in}
use Rattle.hr_progress.proofs.Words.{entries_seen}
use Rattle.hr_progress.proofs.view.View.entry.Goals as goal

pub returns : goal.returns
returns c =
    let r = c.args.replica in
    c.entry_at.ensures ∙ ap (λ (qs : List code.Progress). slice_get (map key (plain_replica_in (map plain_progress qs) r).attempts) c.args.place) c.deref.ensures.value
    ∙ sym (ap (λ ts. slice_get ts c.args.place) (entries_seen (plain c.self.inside) r)) ∙ ap (λ (v : View). slice_get (entries_in v r) c.args.place) c.self.view_is
