use Rattle.std.proofs.Common.{◌||◌, find, ap, ◌∙◌}
use Rattle.hr_history.specs.Transactions.{is_ended}
use Rattle.hr_history.specs.Processed.{phase_in, attempt_in}
use Rattle.hr_history.specs.Jobs.{txn_numbers}
use Rattle.hr_pool.proofs.Searches.{find_filter}
use Rattle.hr_pool.proofs.rollbacks.to_roll_back.Goals as goal

pub returns : goal.returns
returns c =
    let v = c.args.view.now in
    let r = c.args.replica in
    c.first_to_stop.ensures
    ∙ ap (find (λ t. is_ended (phase_in v t) || (attempt_in v r t).preempted)) c.touched.ensures
    ∙ find_filter (λ t. (attempt_in v r t).touched) (λ t. is_ended (phase_in v t) || (attempt_in v r t).preempted) (txn_numbers v)
