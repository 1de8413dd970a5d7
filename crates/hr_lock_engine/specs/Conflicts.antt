-- Which statements conflict, by the rows that they need; and what a transaction needs and holds.
use Rattle.std.specs.Prelude.{ℕ, Bool, ◌==◌, List, map, filter}
use Rattle.std.specs.List.{list_any, flat_map}
use Rattle.hr_rel.specs.declared.stmt.Stmt.{Stmt}
use Rattle.hr_engine.specs.Journal.{Journal}
use Rattle.hr_engine.specs.Attempts.{attempt, statements}
use Rattle.hr_locks.specs.declared.need.Need.{Need}
use Rattle.hr_locks.specs.declared.need.Lock.{Lock}
use Rattle.hr_parts.specs.Parts.{Part, conflict}

-- whether a row is in parts of both that one of them may change
abbrev pub meet : List Part → List Part → Bool
meet parts others = list_any (λ part. list_any (conflict part) others) parts

-- statements conflict where the rows that they need meet; `parts s`: the rows that s needs
abbrev pub by_parts : (Stmt → List Part) → Stmt → Stmt → Bool
by_parts parts s u = meet (parts s) (parts u)

-- the rows that a transaction's attempt needs
abbrev pub needed : (Stmt → List Part) → ℕ → Journal → List Part
needed parts t journal = flat_map parts (statements (attempt t journal))

-- the rows that a transaction has locked; `covered need`: the rows that a need locks
abbrev pub held_by : {N : Type 0} → (Need N → Part) → ℕ → List (Lock N) → List Part
held_by covered t locks = map (λ lock. covered lock.need) (filter (λ lock. lock.txn == t) locks)
