-- The entries that stored ones stand for.
use Rattle.std.specs.Prelude.{ℕ, Bool, true, nat_lt, List, None, length, map, slice_get, unwrap_or}
use Rattle.std.specs.List.{list_all}
use Rattle.hr_rel.specs.declared.stmt.Stmt.{Stmt}
use Rattle.hr_rel.specs.declared.stmt.Stmt.TheVariants as stmt
use Rattle.hr_engine.specs.declared.reply.RunReply.{RunReply}
use Rattle.hr_engine.specs.declared.reply.RunReply.TheVariants as run
use Rattle.hr_history.specs.declared.entry.Entry.{Entry}
use Rattle.hr_history.specs.declared.entry.Event.{Event}
use Rattle.hr_history.specs.declared.entry.Event.TheVariants as event
use Rattle.hr_history.specs.declared.job.JobReply.{JobReply}
use Rattle.hr_history.specs.declared.job.JobReply.TheVariants as reply
use Rattle.hr_entries.specs.declared.stored.Stored.{Stored}
use Rattle.hr_entries.specs.declared.stored.StoredEvent.{StoredEvent}
use Rattle.hr_entries.specs.declared.stored.StoredEvent.TheVariants as stored
use Rattle.hr_entries.specs.declared.lent.EntryRef.{EntryRef}
use Rattle.hr_entries.specs.declared.lent.EventRef.{EventRef}
use Rattle.hr_entries.specs.declared.lent.EventRef.TheVariants as lent
use Rattle.hr_entries.specs.declared.lent.ReplyRef.{ReplyRef}
use Rattle.hr_entries.specs.declared.lent.ReplyRef.TheVariants as lent_reply

-- ---- what is stored

-- the statement, and the reply, at a place; that there is one is `IsKept`
abbrev pub statement_at : List Stmt → ℕ → Stmt
statement_at statements at = unwrap_or (slice_get statements at) (stmt.Delete (record { table = 0; filter = None }))

abbrev pub reply_at : List RunReply → ℕ → RunReply
reply_at replies at = unwrap_or (slice_get replies at) run.NoMemory

abbrev pub event_of : List Stmt → List RunReply → StoredEvent → Event
event_of statements replies (stored.Begin session txn) = event.Begin session txn
event_of statements replies (stored.Submit txn index at) = event.Submit txn index (statement_at statements at)
event_of statements replies (stored.AskCommit txn) = event.AskCommit txn
event_of statements replies (stored.AskRollback txn) = event.AskRollback txn
event_of statements replies (stored.Take replica job) = event.Take replica job
event_of statements replies (stored.Ran replica at) = event.Give replica (reply.Ran (reply_at replies at))
event_of statements replies (stored.Ended replica given) = event.Give replica (reply.Ended given)
event_of statements replies (stored.StillLost replica) = event.Give replica reply.StillLost
event_of statements replies (stored.Restarted replica count) = event.Restarted replica count
event_of statements replies stored.Suspect = event.Suspect
event_of statements replies (stored.Decide txn) = event.Decide txn
event_of statements replies (stored.Refuse txn cause) = event.Refuse txn cause
event_of statements replies (stored.Convict replica evidence) = event.Convict replica evidence
event_of statements replies (stored.NewPrimary replica) = event.NewPrimary replica
event_of statements replies (stored.Preempt replica txn) = event.Preempt replica txn

abbrev pub entry_of : List Stmt → List RunReply → Stored → Entry
entry_of statements replies s = record { caller = s.caller; event = event_of statements replies s.event }

abbrev pub entries_of : List Stmt → List RunReply → List Stored → List Entry
entries_of statements replies all = map (entry_of statements replies) all

-- whether the statement or reply of an event is there, among so many statements and replies
abbrev pub is_within : ℕ → ℕ → StoredEvent → Bool
is_within statements replies (stored.Submit txn index at) = nat_lt at statements
is_within statements replies (stored.Ran replica at) = nat_lt at replies
is_within statements replies _ = true

-- each statement and each reply of these entries is there
abbrev pub are_within : List Stmt → List RunReply → List Stored → Bool
are_within statements replies all = list_all (λ s. is_within (length statements) (length replies) s.event) all

-- ---- what is lent

abbrev pub reply_in : ReplyRef → JobReply
reply_in (lent_reply.Ran given) = reply.Ran given.now
reply_in (lent_reply.Ended given) = reply.Ended given
reply_in lent_reply.StillLost = reply.StillLost

abbrev pub event_in : EventRef → Event
event_in (lent.Begin session txn) = event.Begin session txn
event_in (lent.Submit txn index statement) = event.Submit txn index statement.now
event_in (lent.AskCommit txn) = event.AskCommit txn
event_in (lent.AskRollback txn) = event.AskRollback txn
event_in (lent.Take replica job) = event.Take replica job
event_in (lent.Give replica given) = event.Give replica (reply_in given)
event_in (lent.Restarted replica count) = event.Restarted replica count
event_in lent.Suspect = event.Suspect
event_in (lent.Decide txn) = event.Decide txn
event_in (lent.Refuse txn cause) = event.Refuse txn cause
event_in (lent.Convict replica evidence) = event.Convict replica evidence
event_in (lent.NewPrimary replica) = event.NewPrimary replica
event_in (lent.Preempt replica txn) = event.Preempt replica txn

-- the entry that a lent one is
abbrev pub entry_in : EntryRef → Entry
entry_in e = record { caller = e.caller; event = event_in e.event }
