-- What every kept history promises, beside that it follows the rules. Of others than are named nothing is asked: they may lie.
use Rattle.std.specs.Prelude.{◌≡◌, ℕ, ◌+◌, ◌*◌, ◌<◌, Bool, true, false, Some, List, ◌∷◌, ◌++◌}
use Rattle.hr_base.specs.Lists.{numbered}
use Rattle.hr_rel.specs.Database.{Database}
use Rattle.hr_rel.specs.declared.answer.Answer.{Answer}
use Rattle.hr_engine.specs.declared.reply.RunReply.TheVariants.{Done}
use Rattle.hr_history.specs.declared.cause.CauseAt.{CauseAt}
use Rattle.hr_history.specs.declared.entry.Entry.{Entry}
use Rattle.hr_history.specs.declared.entry.Event.TheVariants as event
use Rattle.hr_history.specs.declared.evidence.Evidence.{Evidence}
use Rattle.hr_history.specs.declared.evidence.Evidence.TheVariants as evidence
use Rattle.hr_history.specs.declared.job.Job.TheVariants.{Run}
use Rattle.hr_history.specs.declared.job.JobReply.TheVariants.{Ran}
use Rattle.hr_history.specs.History.{History}
use Rattle.hr_history.specs.Transactions.{phase_of, is_asked}
use Rattle.hr_history.specs.Replicas.{out_at}
use Rattle.hr_history.specs.Primary.{primary_of}
use Rattle.hr_history.specs.Given.{Given, given_to}
use Rattle.hr_history.specs.Words.{IsReady}
use Rattle.hr_history.specs.Faithful.{Correct}
use Rattle.hr_decisions.specs.Groups.{IsGroup}
use Rattle.hr_serial.specs.Serial.{LiarsAreAtMost, AtEachDecide}
use Rattle.hr_barriers.specs.Served.{IsServed}
use Rattle.hr_causes.specs.Causes.{IsShown}
use Rattle.hr_complete.specs.Undisturbed.{IsLed, IsPrimarysReply}

-- the entries by which a replica answers, a replica is convicted, and a transaction is refused
abbrev pub answers : ℕ → ℕ → Answer → Entry
answers caller r told = record { caller = caller; event = event.Give r (Ran (Done told)) }

abbrev pub convicts : ℕ → ℕ → Evidence → Entry
convicts caller r shown = record { caller = caller; event = event.Convict r shown }

abbrev pub refuses : ℕ → ℕ → CauseAt → Entry
refuses caller t cause = record { caller = caller; event = event.Refuse t cause }

-- What a correct replica answered to a statement is the answer that the session was given to it, if it was given one. For this
-- the replica has to be correct as far as its answer, and who was the primary while the transaction was open and had answers, as
-- far as then.
abbrev pub KeepsBarrier : Database → History → Type 0
KeepsBarrier db h =
    (caller r t i : ℕ) (told : Answer) (given : Given) (more : List Entry) (before : History) → more ++ answers caller r told ∷ before ≡ h → out_at r before ≡ Some (Run t i)
    → IsServed db t (answers caller r told ∷ before) → Correct db (answers caller r told ∷ before) r → numbered (given_to t h) i ≡ Some given → given.answer ≡ told

-- how few lie, so that such evidence is against no correct replica: where it doesn't go by what others answered, that is any number
abbrev pub LieFew : ℕ → Database → Evidence → History → Type 0
LieFew f db (evidence.Contradicted t i) h = LiarsAreAtMost f f db h
LieFew f db (evidence.Differs t i) h = AtEachDecide (LiarsAreAtMost f f db) h
LieFew f db (evidence.BadBlocked t) h = Unit {0}
LieFew f db (evidence.BadDeadlock t) h = Unit {0}
LieFew f db (evidence.BadRestart count) h = Unit {0}

-- who was convicted wasn't correct until then
abbrev pub ConvictsLiars : ℕ → Database → History → Type 0
ConvictsLiars f db h = (caller r : ℕ) (shown : Evidence) (more : List Entry) (before : History) → more ++ convicts caller r shown ∷ before ≡ h → LieFew f db shown before → Correct db before r → ⊥

-- the history shows the cause of each refusal, where that stands
abbrev pub ShowsCauses : History → Type 0
ShowsCauses h = (caller t : ℕ) (cause : CauseAt) (more : List Entry) (before : History) → more ++ refuses caller t cause ∷ before ≡ h → IsShown t cause before

-- Where the first primary is correct and was never lost, nobody was suspected and at most f lie.
pub record IsComplete (f : ℕ) (db : Database) (h : History) : Type 0 where
  -- it is the primary still
  pub primary : IsLed f db h → primary_of h ≡ Some 0
  -- a transaction was refused for the primary's reply to it alone, and not once its commit was asked for
  pub refused : (caller t : ℕ) (cause : CauseAt) (more : List Entry) (before : History) → more ++ refuses caller t cause ∷ before ≡ h → IsLed f db before → IsPrimarysReply cause × (is_asked (phase_of t before) ≡ false)
  -- what f + 1 correct replicas are ready for is decided
  pub decided : (t : ℕ) (group : ℕ → Bool) → IsLed f db h → IsGroup f group → ((r : ℕ) → r < 2 * f + 1 → group r ≡ true → Correct db h r × IsReady f h t r) → is_asked (phase_of t h) ≡ false
