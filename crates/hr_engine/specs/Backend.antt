-- What the contracts of `Backend` cite.
use Rattle.std.specs.Prelude.{◌≡◌, ◌⊎◌, ℕ, Bool, true, false, ◌∷◌, Contains}
use Rattle.hr_base.specs.Counters.{Rose}
use Rattle.hr_rel.specs.Database.{Database}
use Rattle.hr_answer.specs.Canonical.{IsCanonical}
use Rattle.hr_engine.specs.declared.reply.RunReply.{RunReply}
use Rattle.hr_engine.specs.declared.reply.RunReply.TheVariants as run
use Rattle.hr_engine.specs.declared.reply.EndReply.{EndReply}
use Rattle.hr_engine.specs.declared.reply.EndReply.TheVariants as end
use Rattle.hr_engine.specs.Journal.{Call, Journal}
use Rattle.hr_engine.specs.Base.{bases}
use Rattle.hr_engine.specs.Rigorous.{Rigorous}

-- what a backend stands for: start databases, each with a journal from it
abbrev pub Standing : Type 1
Standing = Database → Journal → Type 0

-- for each journal that a backend stood for, it now stands for that journal with one more call
abbrev pub Extends : Standing → Standing → Call → Type 0
Extends before now call = (db : Database) (journal : Journal) → before db journal → now db (call ∷ journal)

abbrev pub is_lost_run : RunReply → Bool
is_lost_run (run.Done answer) = false
is_lost_run (run.Blocked named) = false
is_lost_run (run.Deadlock cycle) = false
is_lost_run run.Lost = true
is_lost_run run.NoMemory = false

abbrev pub is_lost_end : EndReply → Bool
is_lost_end end.Done = false
is_lost_end end.Lost = true

-- the answer in a reply, if it has one, is canonical
abbrev pub AnswersCanonically : RunReply → Type 0
AnswersCanonically (run.Done answer) = IsCanonical answer
AnswersCanonically _ = Unit {0}

-- a call is answered Lost only where the count of losses rose in it, or while the backend is lost
abbrev pub HasLossCause : Bool → ℕ → ℕ → Bool → Type 0
HasLossCause was_lost losses_before losses_now is_lost_reply = is_lost_reply ≡ true → (was_lost ≡ true) ⊎ Rose losses_before losses_now

-- what is promised of an honest backend: its journal is rigorous, and its base is one that the journal tells of
pub record IsLegal (db : Database) (journal : Journal) (database : Database) : Type 0 where
  pub rigorous : Rigorous db journal
  pub base : Contains (bases db journal) database
