use Rattle.std.proofs.Common.{ap, sym, ◌∙◌}
use Rattle.hr_history.specs.Jobs.{txn_numbers}
use Rattle.hr_history.specs.Processed.{phase_in}
use Rattle.hr_history.specs.Transactions.{is_open}
use Rattle.hr_due.proofs.Orders.{head_of, find_head, head_none, head_some}
use Rattle.hr_due.proofs.refusals.first_open.Goals as goal

pub returns-in-empty : goal.returns-in-empty
returns-in-empty c =
    let v = c.args.view.now in
    head_none c.opened.result.now c.in-empty.len_below ∙ ap head_of c.opened.ensures ∙ sym (find_head (λ t. is_open (phase_in v t)) (txn_numbers v))

pub returns-in-len1-up : goal.returns-in-len1-up
returns-in-len1-up c =
    let v = c.args.view.now in
    head_some c.opened.result.now c.in-len1-up.len_at_least ∙ ap head_of c.opened.ensures ∙ sym (find_head (λ t. is_open (phase_in v t)) (txn_numbers v))
