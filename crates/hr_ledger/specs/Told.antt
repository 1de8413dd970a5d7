-- Replies to runs, as entries tell them.
use Rattle.std.specs.Prelude.{ℕ, Option, Some, None}
use Rattle.hr_engine.specs.declared.reply.RunReply.{RunReply}
use Rattle.hr_history.specs.declared.entry.Event.{Event}
use Rattle.hr_history.specs.declared.entry.Event.TheVariants as event
use Rattle.hr_history.specs.declared.job.JobReply.TheVariants as reply
use Rattle.hr_entries.specs.declared.stored.Stored.{Stored}
use Rattle.hr_entries.specs.declared.stored.StoredEvent.{StoredEvent}
use Rattle.hr_entries.specs.declared.stored.StoredEvent.TheVariants as stored

-- the reply to a run that an event tells, if it tells one
abbrev pub reply_told : Option Event → Option RunReply
reply_told (Some (event.Give replica (reply.Ran told))) = Some told
reply_told _ = None

-- where it stands, as it is stored
abbrev pub place_told : StoredEvent → Option ℕ
place_told (stored.Ran replica at) = Some at
place_told _ = None

abbrev pub ran_in : Option Stored → Option ℕ
ran_in None = None
ran_in (Some s) = place_told s.event
