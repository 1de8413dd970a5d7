use Rattle.std.proofs.Common.{◌∙◌}
use Rattle.hr_history.specs.Votes.{difference_at}
use Rattle.hr_due.proofs.Tallies.{told_so}
use Rattle.hr_due.proofs.votes.refusal.Goals as goal

pub unreachable-requires : goal.unreachable-requires
unreachable-requires c =
    let v = c.args.view.now in
    let d = told_so v c.args.txn c.requires in
    c.in_default.not-Differ (difference_at v d.0 c.args.txn) d.0 (c.tally.ensures ∙ d.1)
