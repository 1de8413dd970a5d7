-- The stamps of given answers, and what bounds them.
use Rattle.std.specs.Prelude.{◌≡◌, ℕ, ◌<◌, ◌≤◌, Bool, true, false, Some, List, [], ◌∷◌, length}
use Rattle.hr_base.specs.Lists.{numbered}
use Rattle.hr_history.specs.History.{History}
use Rattle.hr_history.specs.Transactions.{log, phase_of, is_open}
use Rattle.hr_history.specs.Given.{Given}

-- what an entry makes of a span, where the transaction is open now, or was before, and the log is so long now, and was
abbrev pub next_span : Bool → Bool → ℕ → ℕ → ℕ → ℕ
next_span true was now before span = now
next_span false true now before span = before
next_span false false now before span = span

-- The span of a transaction: how long the log is, as long as the transaction is open, and how long it was just before the
-- transaction was decided, refused or rolled back, from then on.
abbrev pub span : ℕ → History → ℕ
span t [] = 0
span t (e ∷ before) = next_span (is_open (phase_of t (e ∷ before))) (is_open (phase_of t before)) (length (log (e ∷ before))) (length (log before)) (span t before)

-- The stamps of given answers ascend, and none is higher than this.
pub record AreStampedTo (given : List Given) (high : ℕ) : Type 0 where
  pub within : (i : ℕ) (g : Given) → numbered given i ≡ Some g → g.stamp ≤ high
  pub ascend : (i k : ℕ) (a b : Given) → i < k → numbered given i ≡ Some a → numbered given k ≡ Some b → a.stamp ≤ b.stamp
