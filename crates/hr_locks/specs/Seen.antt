-- How the lists of a lock table are seen: the wait of the one that was granted a request last is kept for an undo alone.
use Rattle.std.specs.Prelude.{ℕ, Option, Some, None, List, take}
use Rattle.hr_locks.specs.declared.need.Lock.{Lock}
use Rattle.hr_locks.specs.declared.wait.Wait.{Wait}
use Rattle.hr_locks.specs.declared.grant.LastGrant.{LastGrant}
use Rattle.hr_locks.specs.Waits.{pairs, seen_waits}
use Rattle.hr_locks.specs.Table.{Held, Table}

-- whose wait is kept back
abbrev pub waiter_of : Option LastGrant → Option ℕ
waiter_of None = None
waiter_of (Some last) = Some last.txn

module _ {N : Type 0} where
  -- what stands now
  abbrev pub held_of : List (Lock N) → List Wait → Option LastGrant → Held N
  held_of locks waits last = record { locks = locks; waits = pairs (seen_waits (waiter_of last) waits) }

  -- the locks before the last grant
  abbrev pub locks_before : Option LastGrant → List (Lock N) → List (Lock N)
  locks_before None locks = locks
  locks_before (Some last) locks = take last.locks locks

  -- what stood before the last grant
  abbrev pub undo_of : List (Lock N) → List Wait → Option LastGrant → Option (ℕ × Held N)
  undo_of locks waits None = None
  undo_of locks waits (Some last) = Some (last.txn, record { locks = locks_before (Some last) locks; waits = pairs waits })

  abbrev pub seen_table : List (Lock N) → List Wait → Option LastGrant → Table N
  seen_table locks waits last = record { held = held_of locks waits last; undo = undo_of locks waits last }
