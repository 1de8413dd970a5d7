use Rattle.std.proofs.Common.{sym, ◌∙◌}
use Rattle.hr_history.specs.Processed.{runs_in}
use Rattle.hr_votes.proofs.Sound.{asker_apart, passes_by}
use Rattle.hr_votes.proofs.waits.is_sound_blocked.Goals as goal

pub leads_to-requires : goal.leads_to-requires
leads_to-requires c = asker_apart (runs_in c.args.view.now c.args.replica) c.args.asker c.args.named.now (sym c.is_list_of_running.ensures ∙ c.if-is_list_of_running.true)

pub returns-then-is_list_of_running-clause-value : goal.returns-then-is_list_of_running-clause-value
returns-then-is_list_of_running-clause-value c =
    passes_by c.args.view.now c.args.replica c.args.asker c.args.named.now (sym c.is_list_of_running.ensures ∙ c.if-is_list_of_running.true) c.leads_to.result c.leads_to.ensures
