-- What contracts see of a kept history.
use Rattle.std.specs.Prelude.{◌≡◌, ℕ, None, List, [], ◌∷◌, ◌++◌, IsTrue}
use Rattle.hr_history.specs.declared.entry.Entry.{Entry}
use Rattle.hr_history.specs.declared.entry.Event.{Event}
use Rattle.hr_history.specs.History.{History, history_of}
use Rattle.hr_history.specs.View.{View, view_of}
use Rattle.hr_history.specs.Rules.{due}
use Rattle.hr_history.specs.Faithful.{Begun, Faithful, is_allowed}

-- The kept history of 2f + 1 replicas and so many sessions: its entries, the first first.
pub record Chronicle : Type 0 where
  pub f : ℕ
  pub sessions : ℕ
  pub entries : List Entry

-- the history that it is, as the rules read it
abbrev pub history_in : Chronicle → History
history_in c = history_of c.entries

-- its view
abbrev pub view_in : Chronicle → View
view_in c = view_of c.f (history_in c)

-- it has begun rightly, perhaps within a turn
abbrev pub HasBegun : Chronicle → Type 0
HasBegun c = Begun c.f c.sessions (history_in c)

-- it follows the rules, and nothing more is due
abbrev pub IsFaithful : Chronicle → Type 0
IsFaithful c = Faithful c.f c.sessions (history_in c)

-- nothing is due
abbrev pub IsQuiet : Chronicle → Type 0
IsQuiet c = due c.f (history_in c) ≡ None

-- this call of this caller is allowed
abbrev pub IsAllowed : ℕ → Event → Chronicle → Type 0
IsAllowed caller e c = IsTrue (is_allowed c.f c.sessions caller e (history_in c))

-- with one more entry
abbrev pub and_entry : ℕ → Event → Chronicle → Chronicle
and_entry caller e c = record c { entries = c.entries ++ record { caller = caller; event = e } ∷ [] }
