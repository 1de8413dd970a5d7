-- Histories.
use Rattle.std.specs.Prelude.{ℕ, Bool, true, false, ◌==◌, List, reverse, filter}
use Rattle.hr_history.specs.declared.entry.Entry.{Entry}
use Rattle.hr_history.specs.declared.entry.Event.{Event}
use Rattle.hr_history.specs.declared.entry.Event.TheVariants as event

-- What happened, the latest entry first, as in a journal. So a word of a history says what its latest entry makes of the
-- same word of the history before, and "at that moment" is the history before. An entry's place in a history is the
-- length of the history before it.
abbrev pub History : Type 0
History = List Entry

-- the history that is stored as this list, the first entry first
abbrev pub history_of : List Entry → History
history_of entries = reverse entries

-- whether an entry is somebody's call; the others follow from a call
abbrev pub is_call : Event → Bool
is_call (event.Begin session txn) = true
is_call (event.Submit txn index stmt) = true
is_call (event.AskCommit txn) = true
is_call (event.AskRollback txn) = true
is_call (event.Take replica job) = true
is_call (event.Give replica reply) = true
is_call (event.Restarted replica count) = true
is_call event.Suspect = true
is_call (event.Decide txn) = false
is_call (event.Refuse txn cause) = false
is_call (event.Convict replica evidence) = false
is_call (event.NewPrimary replica) = false
is_call (event.Preempt replica txn) = false

-- the entries of one caller: its calls, each with what followed from it
abbrev pub calls : ℕ → List Entry → List Entry
calls caller entries = filter (λ (e : Entry). e.caller == caller) entries
