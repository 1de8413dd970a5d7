use Rattle.hr_complete.proofs.ReadyLemmas.{decided_by_ready}
use Rattle.hr_complete.proofs.laws.ready_is_decided.Goals as goal

pub returns : goal.returns
returns c f sessions t db h faithful is many = decided_by_ready f sessions t db h faithful is many
