use Rattle.std.proofs.Common.{filter, ap, sym, ◌∙◌}
use Rattle.hr_history.specs.Ranks.{first_in_rank}
use Rattle.hr_history.specs.Jobs.{may_run_first}
use Rattle.hr_pool.proofs.Repeats.{firsts_found}
use Rattle.hr_pool.proofs.runs.to_run_first.Goals as goal

pub returns : goal.returns
returns c =
    let v = c.args.view.now in
    let r = c.args.replica in
    c.first_to_run.ensures ∙ ap (λ xs. first_in_rank v (filter (may_run_first v r) xs)) c.opened.ensures ∙ sym (firsts_found v r)
