-- Not to be believed: what the engine keeps, from which its journals are exact and rigorous.
use Rattle.std.specs.Prelude.{◌≡◌, ◌≢◌, ℕ, ℤ, true, false, None, List}
use Rattle.std.specs.List.{AllZip}
use Rattle.std.proofs.Common.{arith, sym}
use Rattle.hr_base.specs.Counters.{shown}
use Rattle.hr_rel.specs.declared.stmt.Stmt.{Stmt}
use Rattle.hr_rel.specs.Database.{Database}
use Rattle.hr_rel.specs.Kinds.{fits_i64}
use Rattle.hr_rel.specs.Holds.{IsOrdered}
use Rattle.hr_meaning.specs.Serial.{play}
use Rattle.hr_meaning.specs.SameAnswer.{SameAnswer}
use Rattle.hr_engine.specs.Journal.{Journal}
use Rattle.hr_engine.specs.Attempts.{attempt, statements, answers}
use Rattle.hr_engine.specs.Waits.{wait}
use Rattle.hr_engine.specs.Base.{settled, count}
use Rattle.hr_engine.specs.Base as counted
use Rattle.hr_engine.specs.Rigorous.{Rigorous}
use Rattle.hr_engine.specs.Exact.{Exact}
use Rattle.hr_engine.specs.Backend.{IsLegal}
use Rattle.hr_locks.specs.declared.need.Need.{Need}
use Rattle.hr_locks.specs.Table.{Table, wait_of}
use Rattle.hr_parts.specs.Parts.{Part, covers, written, row_at, Apart}
use Rattle.hr_lock_engine.specs.Conflicts.{by_parts, needed, held_by}
use Rattle.hr_lock_engine.specs.Views.{Seen, Wrote}

-- what a transaction's attempt leaves of the base
abbrev pub view_of : Database → ℕ → Journal → Database
view_of start t journal = (play (counted.base start journal) (statements (attempt t journal))).after

-- The journal is exact and rigorous, and nothing was lost; the attempts need rows that are apart, and each of them, alone on
-- the base, answers what it was answered.
pub record Tells (parts : Stmt → List Part) (start : Database) (journal : Journal) : Type 0 where
  pub exact : Exact (by_parts parts) journal
  pub rigorous : Rigorous start journal
  pub doubt : (settled journal).doubt ≡ None
  pub found : (settled journal).lost ≡ false
  pub ordered : IsOrdered (counted.base start journal)
  pub apart : (t u : ℕ) → t ≢ u → Apart (needed parts t journal) (needed parts u journal)
  pub answered : (t : ℕ) → AllZip SameAnswer (play (counted.base start journal) (statements (attempt t journal))).answers (answers (attempt t journal))

-- Each transaction holds what its attempt needs, and waits for whom the journal says.
pub record Locked {N : Type 0} (covered : Need N → Part) (parts : Stmt → List Part) (table : Table N) (journal : Journal) : Type 0 where
  pub locks : (t : ℕ) → held_by covered t table.held.locks ≡ needed parts t journal
  pub waits : (t : ℕ) → wait_of table t ≡ wait t journal

-- What is committed is the base of the journal, and each transaction sees what its attempt leaves of it.
pub record Stored (committed : Database) (seen_by : Seen) (start : Database) (journal : Journal) : Type 0 where
  pub base : committed ≡ counted.base start journal
  pub seen : (u t : ℕ) (k : ℤ) → seen_by u t k ≡ row_at (view_of start u journal) t k

pub record Keeps {N : Type 0} (covered : Need N → Part) (parts : Stmt → List Part) (committed : Database) (seen_by : Seen) (table : Table N) (told : ℕ)
    (start : Database) (journal : Journal) : Type 0 where
  pub tells : Tells parts start journal
  pub locked : Locked covered parts table journal
  pub stored : Stored committed seen_by start journal
  pub commits : told ≡ shown (count journal)

-- where a transaction has written, it has locked for itself alone
abbrev pub WritesAreLocked : {N : Type 0} → (Need N → Part) → Wrote → Table N → Type 0
WritesAreLocked covered wrote table = (u t : ℕ) (k : ℤ) → fits_i64 k ≡ true → wrote u t k ≡ true → covers (written (held_by covered u table.held.locks)) t k ≡ true

module _ {N : Type 0} (covered : Need N → Part) (parts : Stmt → List Part) where
  -- each journal that the engine stands for is rigorous, and tells of what is committed
  pub legal : (committed : Database) (seen_by : Seen) (table : Table N) (told : ℕ) (start : Database) (journal : Journal)
      → Keeps covered parts committed seen_by table told start journal → IsLegal start journal committed
  legal committed seen_by table told start journal h = record { rigorous = h.tells.rigorous; base = (0, omega arith, sym h.stored.base) }
