-- Where an entry stands.
use Rattle.std.specs.Prelude.{◌≡◌, ℕ, List, ◌∷◌, ◌++◌, length}
use Rattle.hr_history.specs.declared.entry.Entry.{Entry}
use Rattle.hr_history.specs.declared.entry.Event.{Event}
use Rattle.hr_history.specs.History.{History}
use Rattle.hr_calls.specs.Callers.{AreFollowUps}

-- At this place of the history, from 0, stands this event; `older` is the history before it, and `more` what came after it.
pub record StandsAt (place : ℕ) (e : Event) (older h : History) : Type 0 where
  pub caller : ℕ
  pub more : List Entry
  pub whole : more ++ record { caller = caller; event = e } ∷ older ≡ h
  pub placed : length older ≡ place

-- It stands there, and no call has come after it: so it is of the history's last turn.
pub record StandsInTurn (place : ℕ) (e : Event) (older h : History) : Type 0 where
  pub stands : StandsAt place e older h
  pub last : AreFollowUps stands.more
