-- How transactions end.
use Rattle.std.specs.Prelude.{ℕ, Bool, false, ◌==◌}
use Rattle.hr_history.specs.declared.entry.Event.{Event}
use Rattle.hr_history.specs.declared.entry.Event.TheVariants as event

-- whether by this event the transaction is decided, refused or rolled back
abbrev pub ends : ℕ → Event → Bool
ends t (event.Decide txn) = txn == t
ends t (event.Refuse txn cause) = txn == t
ends t (event.AskRollback txn) = txn == t
ends t _ = false
