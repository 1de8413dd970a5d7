-- How a history grows: by whole turns, each of one caller.
use Rattle.std.specs.Prelude.{◌≡◌, ℕ, None, List, ◌∷◌, ◌++◌}
use Rattle.std.specs.List.{All}
use Rattle.hr_history.specs.declared.entry.Entry.{Entry}
use Rattle.hr_history.specs.declared.entry.Event.{Event}
use Rattle.hr_history.specs.History.{History}
use Rattle.hr_history.specs.Rules.{due}
use Rattle.hr_history.specs.Turns.{FollowFrom}

-- One turn: the call of this caller, and then what is due, again and again, until nothing is.
pub record IsTurn (f caller : ℕ) (call : Event) (before after : History) : Type 0 where
  pub more : List Entry
  pub is : after ≡ more ++ record { caller = caller; event = call } ∷ before
  pub follows : FollowFrom f caller more (record { caller = caller; event = call } ∷ before)
  pub ends : due f after ≡ None

-- The stored list has grown, at its end, by entries of this caller alone.
pub record Grows (caller : ℕ) (before after : List Entry) : Type 0 where
  pub more : List Entry
  pub is : after ≡ before ++ more
  pub mine : All (λ (e : Entry). e.caller ≡ caller) more
