-- Faithful histories in other words: as lists of turns.
use Rattle.std.specs.Prelude.{◌≡◌, ℕ, Bool, false, Option, Some, None, List, [], ◌∷◌, ◌++◌, IsTrue}
use Rattle.hr_history.specs.declared.entry.Entry.{Entry}
use Rattle.hr_history.specs.declared.entry.Event.{Event}
use Rattle.hr_history.specs.History.{History}
use Rattle.hr_history.specs.Rules.{due}
use Rattle.hr_history.specs.Faithful.{is_allowed, same_event}

-- A turn: a call, and what followed from it, the latest first.
pub record OneTurn : Type 0 where
  pub call : Entry
  pub more : List Entry

-- the history of some turns, the latest turn first
abbrev pub history_of_turns : List OneTurn → History
history_of_turns [] = []
history_of_turns (turn ∷ earlier) = turn.more ++ turn.call ∷ history_of_turns earlier

-- whether an event is what is due
abbrev pub is_due : Event → Option Event → Bool
is_due e None = false
is_due e (Some next) = same_event next e

-- each of these entries, in its turn, was what was due, and carries the caller's number
abbrev pub FollowFrom : ℕ → ℕ → List Entry → History → Type 0
FollowFrom f caller [] before = Unit {0}
FollowFrom f caller (e ∷ more) before = IsTrue (is_due e.event (due f (more ++ before))) × (e.caller ≡ caller) × FollowFrom f caller more before

-- Each turn is an allowed call and then what was due, again and again, until nothing was.
abbrev pub AreTurns : ℕ → ℕ → List OneTurn → Type 0
AreTurns f sessions [] = Unit {0}
AreTurns f sessions (turn ∷ earlier) =
    AreTurns f sessions earlier
    × IsTrue (is_allowed f sessions turn.call.caller turn.call.event (history_of_turns earlier))
    × FollowFrom f turn.call.caller turn.more (turn.call ∷ history_of_turns earlier)
    × (due f (history_of_turns (turn ∷ earlier)) ≡ None)

-- a history is made of such turns
abbrev pub IsMadeOfTurns : ℕ → ℕ → History → Type 0
IsMadeOfTurns f sessions h = (turns : List OneTurn) × AreTurns f sessions turns × (history_of_turns turns ≡ h)
