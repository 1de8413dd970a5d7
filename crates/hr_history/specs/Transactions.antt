-- What a history tells of each transaction.
use Rattle.std.specs.Prelude.{ℕ, ◌+◌, Bool, true, false, ◌==◌, if◌then◌else◌, Option, List, [], ◌∷◌, ◌++◌, length}
use Rattle.hr_rel.specs.declared.stmt.Stmt.{Stmt}
use Rattle.hr_history.specs.declared.entry.Event.{Event}
use Rattle.hr_history.specs.declared.entry.Event.TheVariants as event
use Rattle.hr_history.specs.declared.phase.Phase.{Phase}
use Rattle.hr_history.specs.declared.phase.Phase.TheVariants as phase
use Rattle.hr_history.specs.History.{History}
use Rattle.hr_base.specs.Lists.{numbered}

abbrev pub next_begun : Event → List ℕ → List ℕ
next_begun (event.Begin session txn) sessions = sessions ++ session ∷ []
next_begun _ sessions = sessions

-- the session of each transaction begun so far, in the order of their numbers
abbrev pub begun : History → List ℕ
begun [] = []
begun (e ∷ before) = next_begun e.event (begun before)

abbrev pub session_of : ℕ → History → Option ℕ
session_of t h = numbered (begun h) t

abbrev pub next_log : Event → List ℕ → List ℕ
next_log (event.Decide txn) log = log ++ txn ∷ []
next_log _ log = log

-- the decided transactions, in the order of their decisions
abbrev pub log : History → List ℕ
log [] = []
log (e ∷ before) = next_log e.event (log before)

abbrev pub next_asks : Event → ℕ → ℕ
next_asks (event.AskCommit txn) n = n + 1
next_asks _ n = n

-- how often a commit was asked for
abbrev pub asks : History → ℕ
asks [] = 0
asks (e ∷ before) = next_asks e.event (asks before)

abbrev pub next_submits : ℕ → Event → List Stmt → List Stmt
next_submits t (event.Begin session txn) stmts = if txn == t then [] else stmts
next_submits t (event.Submit txn index stmt) stmts = if txn == t then stmts ++ stmt ∷ [] else stmts
next_submits t _ stmts = stmts

-- the statements of a transaction since its Begin, in order
abbrev pub submits : ℕ → History → List Stmt
submits t [] = []
submits t (e ∷ before) = next_submits t e.event (submits t before)

abbrev pub next_submitted : Event → ℕ → ℕ
next_submitted (event.Submit txn index stmt) n = n + 1
next_submitted _ n = n

-- how many statements were submitted, of all transactions
abbrev pub submitted : History → ℕ
submitted [] = 0
submitted (e ∷ before) = next_submitted e.event (submitted before)

-- what an entry makes of the phase of transaction t, where the entries before it had so many AskCommits and Decides
abbrev pub next_phase : ℕ → Event → ℕ → ℕ → Phase → Phase
next_phase t (event.Begin session txn) asked logged p = if txn == t then phase.Active else p
next_phase t (event.AskCommit txn) asked logged p = if txn == t then phase.Asked (asked + 1) else p
next_phase t (event.AskRollback txn) asked logged p = if txn == t then phase.RolledBack else p
next_phase t (event.Decide txn) asked logged p = if txn == t then phase.Logged (logged + 1) else p
next_phase t (event.Refuse txn cause) asked logged p = if txn == t then phase.Refused else p
next_phase t _ asked logged p = p

-- where a transaction stands: it is Active until its commit is asked for, it is decided, or it is refused or rolled back
abbrev pub phase_of : ℕ → History → Phase
phase_of t [] = phase.Active
phase_of t (e ∷ before) = next_phase t e.event (asks before) (length (log before)) (phase_of t before)

-- open: neither decided nor refused nor rolled back
abbrev pub is_open : Phase → Bool
is_open phase.Active = true
is_open (phase.Asked n) = true
is_open (phase.Logged place) = false
is_open phase.RolledBack = false
is_open phase.Refused = false

abbrev pub is_asked : Phase → Bool
is_asked phase.Active = false
is_asked (phase.Asked n) = true
is_asked (phase.Logged place) = false
is_asked phase.RolledBack = false
is_asked phase.Refused = false

abbrev pub is_logged : Phase → Bool
is_logged phase.Active = false
is_logged (phase.Asked n) = false
is_logged (phase.Logged place) = true
is_logged phase.RolledBack = false
is_logged phase.Refused = false

-- ended: refused or rolled back
abbrev pub is_ended : Phase → Bool
is_ended phase.Active = false
is_ended (phase.Asked n) = false
is_ended (phase.Logged place) = false
is_ended phase.RolledBack = true
is_ended phase.Refused = true
