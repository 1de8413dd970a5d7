-- Scenarios that disturb nothing, and what then holds of their runs.
use Rattle.std.specs.Prelude.{◌≡◌, ◌⊎◌, ℕ, false, Some, List, [], ◌∷◌, ◌++◌}
use Rattle.std.specs.List.{All}
use Rattle.hr_faulty.specs.declared.script.Fault.{Fault}
use Rattle.hr_said.specs.declared.scenario.Scenario.{Scenario}
use Rattle.hr_history.specs.declared.cause.Cause.{Cause}
use Rattle.hr_history.specs.declared.cause.Cause.TheVariants as cause
use Rattle.hr_history.specs.declared.cause.CauseAt.{CauseAt}
use Rattle.hr_history.specs.declared.entry.Entry.{Entry}
use Rattle.hr_history.specs.declared.entry.Event.TheVariants as event
use Rattle.hr_history.specs.declared.reply.Ending.TheVariants as ending
use Rattle.hr_history.specs.History.{History}
use Rattle.hr_history.specs.Transactions.{phase_of, is_asked}
use Rattle.hr_history.specs.Replicas.{is_convicted}
use Rattle.hr_history.specs.Primary.{primary_of}
use Rattle.hr_history.specs.Replies.{ending_of}
use Rattle.hr_history.specs.View.{view_of}
use Rattle.hr_history.specs.Votes.{is_ready}
use Rattle.hr_decisions.specs.Groups.{IsGroup}

-- No replica's script has an act, and nobody is to be suspected.
pub record IsQuiet (sc : Scenario) : Type 0 where
  pub faultless : All (λ (script : List Fault). script ≡ []) sc.faults
  pub unsuspected : sc.suspects ≡ []

-- the cause is what the primary replied: a Deadlock, or that it has no memory
abbrev pub IsOfPrimary : Cause → Type 0
IsOfPrimary c = ((cycle : List ℕ) × (c ≡ cause.Deadlock cycle)) ⊎ (c ≡ cause.PrimaryMemory)

-- Replica 0 stays the primary, and nobody is convicted. A transaction that ends refused is so for what the primary replied,
-- and its commit wasn't asked for. What f + 1 replicas are ready for is decided, once its commit is asked for.
pub record IsSmooth (f : ℕ) (h : History) : Type 0 where
  pub primary : primary_of h ≡ Some 0
  pub unconvicted : (r : ℕ) → is_convicted r h ≡ false
  pub refused : (t : ℕ) (c : Cause) → ending_of t h ≡ Some (ending.Refused c) → IsOfPrimary c
  pub unasked : (newer : List Entry) (caller t : ℕ) (c : CauseAt) (before : History) → h ≡ newer ++ record { caller = caller; event = event.Refuse t c } ∷ before → is_asked (phase_of t before) ≡ false
  pub decided : (t : ℕ) → IsGroup f (is_ready (view_of f h) t) → is_asked (phase_of t h) ≡ false
