-- The order of decisions.
use Rattle.std.specs.Prelude.{◌≡◌, ℕ, ◌<◌, Some, length}
use Rattle.hr_history.specs.declared.phase.Phase.TheVariants.{Logged}
use Rattle.hr_history.specs.History.{History}
use Rattle.hr_history.specs.Transactions.{begun, session_of, phase_of}

-- the transaction was decided, and this is its place in the log
abbrev pub WasDecided : ℕ → ℕ → History → Type 0
WasDecided t place h = phase_of t h ≡ Logged place

-- no transaction has this number yet
abbrev pub HasNotBegun : ℕ → History → Type 0
HasNotBegun t h = length (begun h) < t

-- if it was decided, its place is later than this one
abbrev pub IsLater : ℕ → ℕ → History → Type 0
IsLater t place h = (its : ℕ) → WasDecided t its h → place < its

-- both are the session's
abbrev pub AreOf : ℕ → ℕ → ℕ → History → Type 0
AreOf session t u h = (session_of t h ≡ Some session) × (session_of u h ≡ Some session)
