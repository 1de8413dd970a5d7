use Rattle.std.proofs.Common.{◌≡◌, ℕ, not, ◌||◌, ◌&&◌, ◌==◌, [], ◌∷◌, take, IsTrue}
use Rattle.hr_base.specs.Lists.{has, is_ascending}
use Rattle.hr_locks.specs.Locks.{is_in_the_way}
use Rattle.hr_locks.proofs.conflicts.add_holders.Given as goal

abbrev pub invariant-locks : goal.invariant-locks
invariant-locks g l = record {
  ascending : IsTrue (is_ascending l.them.items);
  all : (t : ℕ) → has l.them.items t ≡ (has l.fn.them.items t || (not (t == l.asker) && is_in_the_way g.N.LockName.meets (take l.lock-index l.locks) (l.need ∷ []) t));
}
