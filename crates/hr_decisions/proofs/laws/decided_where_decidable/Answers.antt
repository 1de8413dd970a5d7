use Rattle.std.proofs.Common.{refl}
use Rattle.hr_history.specs.declared.entry.Event.TheVariants as event
use Rattle.hr_records.proofs.RuleLemmas.{by_rule}
use Rattle.hr_decisions.proofs.laws.decided_where_decidable.Goals as goal

pub returns : goal.returns
returns c f sessions caller t before begun = (by_rule f sessions record { caller = caller; event = event.Decide t } before begun refl).1
