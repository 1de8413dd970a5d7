-- The events that follow-ups are.
use Rattle.std.specs.Prelude.{Option}
use Rattle.std.specs.Option.{option_map}
use Rattle.hr_history.specs.declared.entry.Event.{Event}
use Rattle.hr_history.specs.declared.entry.Event.TheVariants as event
use Rattle.hr_due.specs.declared.follow_up.FollowUp.{FollowUp}
use Rattle.hr_due.specs.declared.follow_up.FollowUp.TheVariants as follow

abbrev pub event_of : FollowUp → Event
event_of (follow.Decide txn) = event.Decide txn
event_of (follow.Refuse txn cause) = event.Refuse txn cause
event_of (follow.Convict replica evidence) = event.Convict replica evidence
event_of (follow.NewPrimary replica) = event.NewPrimary replica
event_of (follow.Preempt replica txn) = event.Preempt replica txn

abbrev pub events_of : Option FollowUp → Option Event
events_of o = option_map event_of o
