use Rattle.std.proofs.Common.{ap, ◌∙◌}
use Rattle.std.specs.List.{list_any}
use Rattle.hr_history.specs.Replies.{is_of}
use Rattle.hr_moves.specs.Kept.{open_in}
use Rattle.hr_ledger.specs.Chronicle.{history_in}
use Rattle.hr_shepherd.proofs.Owners.{open_found}
use Rattle.hr_shepherd.proofs.gate.has_open.Goals as goal

pub returns : goal.returns
returns c =
    let l = c.args.ledger.now in
    c.any_is_of.ensures ∙ ap (list_any (λ t. is_of c.args.session t (history_in l))) (c.opened.ensures ∙ ap open_in c.view.ensures) ∙ open_found l.f c.args.session (history_in l)
