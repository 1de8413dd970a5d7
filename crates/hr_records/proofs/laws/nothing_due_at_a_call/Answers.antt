use Rattle.hr_records.proofs.RuleLemmas.{nothing_due}
use Rattle.hr_records.proofs.laws.nothing_due_at_a_call.Goals as goal

pub returns : goal.returns
returns c f sessions e before begun call = nothing_due f sessions e before begun call
