-- A lock table: who holds what, and who waits for whom.
use Rattle.std.specs.Prelude.{ℕ, Option, Some, None, List, []}
use Rattle.hr_locks.specs.declared.need.Lock.{Lock}
use Rattle.hr_locks.specs.declared.grant.Grant.{Grant}
use Rattle.hr_locks.specs.declared.grant.Grant.TheVariants as grant
use Rattle.hr_locks.specs.Waits.{named_in}

-- Who holds what, in the order of granting; and who waits for whom: each that waits, with those that it waits for.
pub record Held (N : Type 0) : Type 0 where
  pub locks : List (Lock N)
  pub waits : List (ℕ × List ℕ)

-- What a lock table is seen as: what stands now; and, where the last call was a request that was granted, who asked and
-- what stood before, which an undo gives back.
pub record Table (N : Type 0) : Type 0 where
  pub held : Held N
  pub undo : Option (ℕ × Held N)

module _ {N : Type 0} where
  -- nothing is locked, and nobody waits
  abbrev pub empty : Table N
  empty = record { held = record { locks = []; waits = [] }; undo = None }

  -- whom a transaction waits for
  abbrev pub wait_of : Table N → ℕ → List ℕ
  wait_of table t = named_in table.held.waits t

  -- what an undo after an answer gives back, where it can be undone
  abbrev pub undo_given : ℕ → Held N → Grant → Option (ℕ × Held N)
  undo_given asker before grant.Granted = Some (asker, before)
  undo_given asker before (grant.Blocked named) = None
  undo_given asker before (grant.Deadlock cycle) = None
