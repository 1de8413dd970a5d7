use Rattle.std.proofs.Common.{ℕ, ◌<◌, ◌≤◌, ◌-◌, get_or, length}
use Rattle.hr_locks.proofs.conflicts.place_of.Given as goal

-- those before `low` are less, those from `high` on aren't
abbrev pub invariant-halves : goal.invariant-halves
invariant-halves l = record {
  order : l.low ≤ l.high;
  within : l.high ≤ length l.them;
  before : (k : ℕ) → k < l.low → get_or l.them k 0 < l.txn;
  after : (k : ℕ) → l.high ≤ k → k < length l.them → l.txn ≤ get_or l.them k 0;
}

abbrev pub decreases-halves : goal.decreases-halves
decreases-halves l = l.high - l.low
