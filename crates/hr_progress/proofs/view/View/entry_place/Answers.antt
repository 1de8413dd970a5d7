use Rattle.std.proofs.Common.{List, map, nat_eq, position, sym, ap, ◌∙◌}
use Rattle.hr_history.specs.View.{View}
use Rattle.hr_moves.specs.Kept.{entries_in}
use Rattle.hr_progress.specs.declared.progress.Progress as code
use Rattle.hr_progress.specs.Plain.{key, plain, plain_progress, plain_replica_in}
use Rattle.hr_progress.proofs.Words.{entries_seen}
use Rattle.hr_progress.proofs.view.View.entry_place.Goals as goal

pub returns : goal.returns
returns c =
    let r = c.args.replica in
    c.entry_place.ensures ∙ ap (λ (qs : List code.Progress). position (nat_eq c.args.txn) (map key (plain_replica_in (map plain_progress qs) r).attempts)) c.deref.ensures.value
    ∙ sym (ap (position (nat_eq c.args.txn)) (entries_seen (plain c.self.inside) r)) ∙ ap (λ (v : View). position (nat_eq c.args.txn) (entries_in v r)) c.self.view_is
