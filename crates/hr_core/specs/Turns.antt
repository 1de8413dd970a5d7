-- Turns of a kept history.
use Rattle.std.specs.Prelude.{◌≡◌, ℕ, List, ◌++◌}
use Rattle.hr_history.specs.declared.entry.Entry.{Entry}
use Rattle.hr_history.specs.declared.entry.Event.{Event}
use Rattle.hr_history.specs.Turns.{FollowFrom}
use Rattle.hr_moves.specs.Callers.{IsTurn}
use Rattle.hr_due.specs.declared.follow_up.FollowUp.{FollowUp}
use Rattle.hr_due.specs.declared.follow_up.FollowUp.TheVariants as follow
use Rattle.hr_ledger.specs.Chronicle.{Chronicle, history_in, IsQuiet}

-- It is of as many replicas and sessions.
pub record IsSameSize (before after : Chronicle) : Type 0 where
  pub f : after.f ≡ before.f
  pub sessions : after.sessions ≡ before.sessions

-- Some of what is due has happened, in the turn of this caller.
pub record GoesOn (caller : ℕ) (before after : Chronicle) : Type 0 where
  pub size : IsSameSize before after
  pub more : List Entry
  pub is : history_in after ≡ more ++ history_in before
  pub follows : FollowFrom before.f caller more (history_in before)

-- All that is due has happened.
pub record Ends (caller : ℕ) (before after : Chronicle) : Type 0 where
  pub goes_on : GoesOn caller before after
  pub quiet : IsQuiet after

-- It has grown by one turn: this caller's call, and then what was due, again and again, until nothing was.
pub record HasTurn (caller : ℕ) (call : Event) (before after : Chronicle) : Type 0 where
  pub size : IsSameSize before after
  pub turn : IsTurn before.f caller call (history_in before) (history_in after)

-- no session is told of it
abbrev pub IsSilent : FollowUp → Type 0
IsSilent (follow.Decide txn) = ⊥
IsSilent (follow.Refuse txn cause) = ⊥
IsSilent (follow.Convict replica evidence) = Unit {0}
IsSilent (follow.NewPrimary replica) = Unit {0}
IsSilent (follow.Preempt replica txn) = Unit {0}
