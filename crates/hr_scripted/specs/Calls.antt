-- The calls of sessions in the order in which they came, and those that a block says.
use Rattle.std.specs.Prelude.{ℕ, ◌+◌, Bool, true, false, ◌&&◌, ◌==◌, if◌then◌else◌, List, [], ◌∷◌, ◌++◌}
use Rattle.hr_rel.specs.declared.stmt.Stmt.{Stmt}
use Rattle.hr_said.specs.declared.scenario.Block.{Block}
use Rattle.hr_history.specs.declared.entry.Event.{Event}
use Rattle.hr_history.specs.declared.entry.Event.TheVariants as event
use Rattle.hr_history.specs.History.{History}
use Rattle.hr_history.specs.Faithful.{session_caller}
use Rattle.hr_schedule.specs.Scripts.{end_call}

-- whether the event is a call of a session
abbrev pub is_session_call : Event → Bool
is_session_call (event.Begin session txn) = true
is_session_call (event.Submit txn index stmt) = true
is_session_call (event.AskCommit txn) = true
is_session_call (event.AskRollback txn) = true
is_session_call _ = false

-- whether it is one of transaction t
abbrev pub is_call_of : ℕ → Event → Bool
is_call_of t (event.Begin session txn) = txn == t
is_call_of t (event.Submit txn index stmt) = txn == t
is_call_of t (event.AskCommit txn) = txn == t
is_call_of t (event.AskRollback txn) = txn == t
is_call_of t _ = false

-- one more at the end, if it is such a call
abbrev pub next_calls : Bool → Event → List Event → List Event
next_calls such e calls = if such then calls ++ e ∷ [] else calls

-- the calls of session s in a history, the first one first
abbrev pub session_calls : ℕ → ℕ → History → List Event
session_calls f s [] = []
session_calls f s (e ∷ before) = next_calls (is_session_call e.event && (e.caller == session_caller f s)) e.event (session_calls f s before)

-- the calls of transaction t, the first one first
abbrev pub txn_calls : ℕ → History → List Event
txn_calls t [] = []
txn_calls t (e ∷ before) = next_calls (is_call_of t e.event) e.event (txn_calls t before)

-- statements of transaction t, with their numbers from i on
abbrev pub submits_from : ℕ → ℕ → List Stmt → List Event
submits_from i t [] = []
submits_from i t (stmt ∷ stmts) = event.Submit t i stmt ∷ submits_from (i + 1) t stmts

-- what a block says: a Begin, each statement once and in its order, and the end
abbrev pub block_calls : ℕ → ℕ → Block → List Event
block_calls s t block = event.Begin s t ∷ (submits_from 1 t block.stmts ++ end_call block.commits t ∷ [])
