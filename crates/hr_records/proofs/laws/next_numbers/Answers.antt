use Rattle.std.proofs.Common.{refl}
use Rattle.hr_history.specs.declared.entry.Event.TheVariants as event
use Rattle.hr_history.proofs.StepLemmas.{call_allowed}
use Rattle.hr_records.proofs.Allowed.{begin_allowed, submit_allowed}
use Rattle.hr_records.proofs.laws.next_numbers.Goals as goal

pub returns-clause-begins : goal.returns-clause-begins
returns-clause-begins c f sessions caller session txn before begun =
    (begin_allowed f sessions caller before session txn (call_allowed f sessions record { caller = caller; event = event.Begin session txn } before begun refl)).0

pub returns-clause-submits : goal.returns-clause-submits
returns-clause-submits c f sessions caller txn index stmt before begun =
    (submit_allowed f sessions caller before txn index stmt (call_allowed f sessions record { caller = caller; event = event.Submit txn index stmt } before begun refl)).1
