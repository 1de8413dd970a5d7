use Rattle.std.proofs.Common.{refl}
use Rattle.hr_history.specs.declared.cause.CauseAt.TheVariants as cause
use Rattle.hr_history.specs.declared.entry.Event.TheVariants as event
use Rattle.hr_records.proofs.RuleLemmas.{by_rule}
use Rattle.hr_causes.proofs.TurnWords.{gone_shown}
use Rattle.hr_causes.proofs.laws.primary_changed.Goals as goal

pub returns : goal.returns
returns c f sessions caller t from at because before begun =
    gone_shown before record { from = from; why = because; at = at } (by_rule f sessions record { caller = caller; event = event.Refuse t (cause.PrimaryChanged from because at) } before begun refl).1
