-- Why a transaction gives way at a replica.
use Rattle.std.specs.Prelude.{◌≡◌, ℕ, true, false, ◌||◌, Some, List}
use Rattle.hr_base.specs.Lists.{has}
use Rattle.hr_engine.specs.Waits.{wait, standing}
use Rattle.hr_history.specs.History.{History}
use Rattle.hr_history.specs.Transactions.{phase_of, is_logged, is_asked}
use Rattle.hr_history.specs.Replicas.{journal_of}
use Rattle.hr_history.specs.View.{view_of}
use Rattle.hr_history.specs.Ranks.{ranks_before}
use Rattle.hr_precedence.specs.Ends.{HasToEnd}

-- A transaction that is decided, or whose commit was asked for, ranks before t and waits for it there.
pub record IsInTheWay (f r t : ℕ) (h : History) : Type 0 where
  pub of : ℕ
  pub comes : (is_logged (phase_of of h) || is_asked (phase_of of h)) ≡ true
  pub ranks : ranks_before (view_of f h) of t ≡ true
  pub waits : has (wait of (journal_of r h)) t ≡ true

-- A cycle of waits stands there, t is of it, none of it has to end anyway, and t ranks before none of it.
pub record IsLastOfCycle (f r t : ℕ) (h : History) : Type 0 where
  pub told_to : ℕ
  pub cycle : List ℕ
  pub stands : standing told_to (journal_of r h) ≡ Some cycle
  pub member : has cycle t ≡ true
  pub stay : (u : ℕ) → has cycle u ≡ true → HasToEnd r u h → ⊥
  pub last : (u : ℕ) → has cycle u ≡ true → ranks_before (view_of f h) t u ≡ false
