-- Rigorous journals: those of a database that lets each transaction keep its locks until it ends. Stated without locks.
use Rattle.std.specs.Prelude.{ℕ, Ok, Err, List, [], ◌∷◌, map, IsTrue}
use Rattle.std.specs.List.{list_all, AllZip}
use Rattle.hr_rel.specs.Database.{Database}
use Rattle.hr_meaning.specs.Serial.{serial_answers}
use Rattle.hr_meaning.specs.SameAnswer.{SameAnswer}
use Rattle.hr_engine.specs.declared.reply.RunReply.TheVariants as run
use Rattle.hr_engine.specs.Journal.{Call, Ran, Committed, RolledBack, Restarted, Journal}
use Rattle.hr_engine.specs.Attempts.{attempt, statements, answers, is_running}
use Rattle.hr_engine.specs.Waits.{wait, IsSoundBlocked, is_sound_deadlock}
use Rattle.hr_engine.specs.Base.{base, IsSoundCount}
use Rattle.hr_base.specs.Lists.{is_distinct}

-- Played one after another from the base, in this order, the transactions' attempts answer what they were answered.
abbrev pub InOrder : Database → Journal → List ℕ → Type 0
InOrder db journal ts =
    AllZip (AllZip SameAnswer) (serial_answers (base db journal) (map (λ t. statements (attempt t journal)) ts)) (map (λ t. answers (attempt t journal)) ts)

-- the running transactions, or some of them, could be played in any order
abbrev pub AnyOrder : Database → Journal → Type 0
AnyOrder db journal = (ts : List ℕ) → IsTrue (is_distinct ts) → IsTrue (list_all (λ t. is_running t journal) ts) → InOrder db journal ts

-- what a reply tells of waits and commits is sound, given the journal before it
abbrev pub IsSound : Call → Journal → Type 0
IsSound (Ran t stmt (run.Blocked named)) before = IsSoundBlocked (λ u. is_running u before) (λ u. wait u before) t named
IsSound (Ran t stmt (run.Deadlock cycle)) before = IsTrue (is_sound_deadlock (λ u. is_running u before) (λ u. wait u before) t cycle)
IsSound (Restarted (Ok told)) before = IsSoundCount told before
IsSound (Restarted (Err lost)) before = Unit {0}
IsSound (Ran t stmt (run.Done answer)) before = Unit {0}
IsSound (Ran t stmt run.Lost) before = Unit {0}
IsSound (Ran t stmt run.NoMemory) before = Unit {0}
IsSound (Committed t reply) before = Unit {0}
IsSound (RolledBack t reply) before = Unit {0}

-- A journal is rigorous, from this start: at each moment of it what was told of waits and commits was sound, and the
-- running transactions could be played in any order.
abbrev pub Rigorous : Database → Journal → Type 0
Rigorous db [] = Unit {0}
Rigorous db (call ∷ before) = Rigorous db before × IsSound call before × AnyOrder db (call ∷ before)
