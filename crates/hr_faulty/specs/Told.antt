-- What the acts of a script make of the calls of the backend within.
use Rattle.std.specs.Prelude.{◌≡◌, ◌⊎◌, ℕ, ℤ, ◌+◌, Bool, true, false, Option, Some, None, Result, Ok, Err, IsErr, List, [], ◌∷◌, ◌++◌, length}
use Rattle.hr_rel.specs.declared.value.Value.TheVariants.{Int}
use Rattle.hr_rel.specs.declared.answer.Answer.{Answer}
use Rattle.hr_rel.specs.declared.answer.Answer.TheVariants.{Rows, Count, Failed}
use Rattle.hr_rel.specs.declared.answer.RunError.TheVariants.{Overflow}
use Rattle.hr_rel.specs.declared.stmt.Stmt.{Stmt}
use Rattle.hr_engine.specs.declared.reply.RunReply.{RunReply}
use Rattle.hr_engine.specs.declared.reply.RunReply.TheVariants as run
use Rattle.hr_engine.specs.declared.reply.EndReply.{EndReply}
use Rattle.hr_engine.specs.declared.reply.EndReply.TheVariants as end
use Rattle.hr_engine.specs.declared.reply.Lost.{Lost}
use Rattle.hr_engine.specs.Journal.{Call, Ran, Committed, RolledBack, Restarted, Journal}
use Rattle.hr_engine.specs.Base.{settled}
use Rattle.hr_base.specs.Counters.{shown}
use Rattle.hr_faulty.specs.declared.script.Fault.{Fault}
use Rattle.hr_faulty.specs.declared.script.Act.{Act}
use Rattle.hr_faulty.specs.declared.script.Act.TheVariants as act
use Rattle.hr_faulty.specs.declared.script.When.{When}
use Rattle.hr_faulty.specs.declared.script.When.TheVariants.{Before, After}
use Rattle.hr_faulty.specs.Script.{act_at, loss_of, position_of}

-- the answer of one row with this one value
abbrev pub one_value : ℤ → Answer
one_value n = Rows ((Int n ∷ []) ∷ [])

-- a reply with this answer in place of the one that it has, if it has one
abbrev pub with_answer : Answer → RunReply → RunReply
with_answer lie (run.Done answer) = run.Done lie
with_answer lie (run.Blocked named) = run.Blocked named
with_answer lie (run.Deadlock cycle) = run.Deadlock cycle
with_answer lie run.Lost = run.Lost
with_answer lie run.NoMemory = run.NoMemory

-- The calls that Early makes, the latest first: behind a Done it commits.
abbrev pub EarlyCalls : ℕ → Stmt → RunReply → List Call → Type 0
EarlyCalls t stmt (run.Done answer) calls = (reply : EndReply) × (calls ≡ Committed t reply ∷ Ran t stmt (run.Done answer) ∷ [])
EarlyCalls t stmt (run.Blocked named) calls = calls ≡ Ran t stmt (run.Blocked named) ∷ []
EarlyCalls t stmt (run.Deadlock cycle) calls = calls ≡ Ran t stmt (run.Deadlock cycle) ∷ []
EarlyCalls t stmt run.Lost calls = calls ≡ Ran t stmt run.Lost ∷ []
EarlyCalls t stmt run.NoMemory calls = calls ≡ Ran t stmt run.NoMemory ∷ []

-- there was no memory for what an act answers, and nothing was called
abbrev pub IsRefused : RunReply → List Call → Type 0
IsRefused reply calls = (reply ≡ run.NoMemory) × (calls ≡ [])

-- Of a run: the reply that is given, and the calls that are made within, the latest first.
abbrev pub TellsRun : Option Act → ℕ → Stmt → RunReply → List Call → Type 0
TellsRun None t stmt reply calls = calls ≡ Ran t stmt reply ∷ []
TellsRun (Some (act.Wrong n)) t stmt reply calls = ((within : RunReply) × (calls ≡ Ran t stmt within ∷ []) × (reply ≡ with_answer (one_value n) within)) ⊎ IsRefused reply calls
TellsRun (Some (act.Drop n)) t stmt reply calls = (reply ≡ run.Done (Count n)) × (calls ≡ [])
TellsRun (Some act.Early) t stmt reply calls = EarlyCalls t stmt reply calls
TellsRun (Some (act.Block named)) t stmt reply calls = ((reply ≡ run.Blocked named) × (calls ≡ [])) ⊎ IsRefused reply calls
TellsRun (Some (act.Deadlock cycle)) t stmt reply calls = ((reply ≡ run.Deadlock cycle) × (calls ≡ [])) ⊎ IsRefused reply calls
TellsRun (Some act.Fail) t stmt reply calls = (reply ≡ run.Done (Failed Overflow)) × (calls ≡ [])
TellsRun (Some (act.Position n)) t stmt reply calls = calls ≡ Ran t stmt reply ∷ []
TellsRun (Some (act.Lose Before)) t stmt reply calls = (reply ≡ run.Lost) × (calls ≡ [])
TellsRun (Some (act.Lose After)) t stmt reply calls = (within : RunReply) × (reply ≡ run.Lost) × (calls ≡ Ran t stmt within ∷ [])

-- of a commit or a rollback, where `call` is the call with its reply
abbrev pub TellsEnd : Option When → (EndReply → Call) → EndReply → List Call → Type 0
TellsEnd None call reply calls = calls ≡ call reply ∷ []
TellsEnd (Some Before) call reply calls = (reply ≡ end.Lost) × (calls ≡ [])
TellsEnd (Some After) call reply calls = (within : EndReply) × (reply ≡ end.Lost) × (calls ≡ call within ∷ [])

-- what is told in place of a count
abbrev pub with_position : Option ℕ → Result ℕ Lost → Result ℕ Lost
with_position None told = told
with_position (Some n) (Ok told) = Ok n
with_position (Some n) (Err lost) = Err lost

-- of a restart; while the backend is lost already, a loss calls nothing within
abbrev pub TellsRestart : Option When → Option ℕ → Bool → Result ℕ Lost → List Call → Type 0
TellsRestart None position lost told calls = (within : Result ℕ Lost) × (told ≡ with_position position within) × (calls ≡ Restarted within ∷ [])
TellsRestart (Some Before) position lost told calls = IsErr told × (calls ≡ [])
TellsRestart (Some After) position true told calls = IsErr told × (calls ≡ [])
TellsRestart (Some After) position false told calls = (within : Result ℕ Lost) × IsErr told × (calls ≡ Restarted within ∷ [])

-- What is told of one call, given the act at it and whether the backend is lost: once it has answered Lost, each call
-- but a restart is answered Lost and makes no call within.
abbrev pub Tells : Option Act → Bool → Call → List Call → Type 0
Tells act false (Ran t stmt reply) calls = TellsRun act t stmt reply calls
Tells act true (Ran t stmt reply) calls = (reply ≡ run.Lost) × (calls ≡ [])
Tells act false (Committed t reply) calls = TellsEnd (loss_of act) (Committed t) reply calls
Tells act true (Committed t reply) calls = (reply ≡ end.Lost) × (calls ≡ [])
Tells act false (RolledBack t reply) calls = TellsEnd (loss_of act) (RolledBack t) reply calls
Tells act true (RolledBack t reply) calls = (reply ≡ end.Lost) × (calls ≡ [])
Tells act lost (Restarted told) calls = TellsRestart (loss_of act) (position_of act) lost told calls

-- the number of the next call, counted from 1; the count stands still at 2^64 - 1
abbrev pub next_number : Journal → ℕ
next_number journal = shown (length journal + 1)

-- A journal is told by a script: its acts make it of the journal of the backend within.
abbrev pub Scripted : List Fault → Journal → Journal → Type 0
Scripted script within [] = within ≡ []
Scripted script within (call ∷ before) =
    (earlier : Journal) × (calls : List Call) × (within ≡ calls ++ earlier) × Scripted script earlier before
    × Tells (act_at script (next_number before)) (settled before).lost call calls
