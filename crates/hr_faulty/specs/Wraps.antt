-- Not to be believed: what a scripted backend's own value stands for, which mirrors its code.
use Rattle.std.specs.Prelude.{◌≡◌, ℕ, Bool, IsTrue, List, ◌++◌, length}
use Rattle.hr_rel.specs.Database.{Database}
use Rattle.hr_engine.specs.Journal.{Call, Journal}
use Rattle.hr_engine.specs.Base.{settled}
use Rattle.hr_base.specs.Counters.{shown}
use Rattle.hr_engine.specs.Backend.{Standing}
use Rattle.hr_faulty.specs.declared.script.Fault.{Fault}
use Rattle.hr_faulty.specs.Script.{names_calls}
use Rattle.hr_faulty.specs.Told.{Scripted}

-- for each journal that a backend stood for, it now stands for that journal with these calls more, the latest first
abbrev pub ExtendsBy : Standing → Standing → List Call → Type 0
ExtendsBy before now calls = (start : Database) (journal : Journal) → before start journal → now start (calls ++ journal)

-- The journal is told by the script, of a journal that the backend within stands for from the same start.
pub record Wraps (stands : Database → Journal → Type 0) (script : List Fault) (calls : ℕ) (lost : Bool) (start : Database) (journal : Journal) : Type 0 where
  pub named : IsTrue (names_calls script)
  pub within : Journal
  pub stood : stands start within
  pub told : Scripted script within journal
  pub counted : calls ≡ shown (length journal)
  pub loses : lost ≡ (settled journal).lost
