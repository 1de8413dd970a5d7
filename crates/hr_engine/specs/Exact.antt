-- Exact replies: those of an engine that locks what its statements need, refuses nothing else, and is never lost.
use Rattle.std.specs.Prelude.{◌≡◌, ◌≢◌, ℕ, Bool, false, not, ◌&&◌, ◌||◌, ◌==◌, nat_lt, Ok, Err, List, [], ◌∷◌, ◌++◌, length, IsTrue}
use Rattle.std.specs.List.{list_any}
use Rattle.std.specs.Ordering.{nat_cmp, is_le}
use Rattle.std.specs.Cmp.Lexicographic.{slice_cmp}
use Rattle.hr_rel.specs.declared.stmt.Stmt.{Stmt}
use Rattle.hr_engine.specs.declared.reply.RunReply.{RunReply}
use Rattle.hr_engine.specs.declared.reply.RunReply.TheVariants as run
use Rattle.hr_engine.specs.declared.reply.EndReply.TheVariants as end
use Rattle.hr_engine.specs.Journal.{Call, Ran, Committed, RolledBack, Restarted, Journal}
use Rattle.hr_engine.specs.Attempts.{RanStmt, attempt}
use Rattle.hr_engine.specs.Waits.{wait, is_chain}
use Rattle.hr_engine.specs.Base.{count}
use Rattle.hr_base.specs.Counters.{shown}
use Rattle.hr_base.specs.Lists.{has, is_ascending}

-- `conflict s u`: what the statements s and u need has an item in common, which one of them needs for itself alone.
module _ (conflict : Stmt → Stmt → Bool) where
  -- whether a transaction holds what conflicts with the statement: a running one holds the needs of its attempt
  abbrev pub is_in_the_way : Stmt → Journal → ℕ → Bool
  is_in_the_way stmt journal t = list_any (λ (s : RanStmt). conflict s.stmt stmt) (attempt t journal)

  -- the list is, in ascending order, all the others that are in the way of the asker's statement
  pub record AreHolders (asker : ℕ) (stmt : Stmt) (journal : Journal) (holders : List ℕ) : Type 0 where
    pub ascending : IsTrue (is_ascending holders)
    pub all : (t : ℕ) → has holders t ≡ not (t == asker) && is_in_the_way stmt journal t

  -- whether a cycle closes along a path: its first is in the asker's way, each waits for the next, and the last for the asker
  abbrev pub closes : ℕ → Stmt → Journal → List ℕ → Bool
  closes asker stmt journal [] = false
  closes asker stmt journal (t ∷ path) = not (t == asker) && is_in_the_way stmt journal t && is_chain (λ u. wait u journal) (t ∷ path ++ asker ∷ [])

  -- whether a path is told rather than another: the shorter one, and of two as long the first in dictionary order
  abbrev pub is_told_before : List ℕ → List ℕ → Bool
  is_told_before path other = nat_lt (length path) (length other) || ((length path == length other) && is_le (slice_cmp nat_cmp path other))

  -- Blocked, with all that are in the way: there are some, and no cycle closes
  pub record IsExactBlocked (asker : ℕ) (stmt : Stmt) (journal : Journal) (named : List ℕ) : Type 0 where
    pub holders : AreHolders asker stmt journal named
    pub some : named ≢ []
    pub open_path : (path : List ℕ) → closes asker stmt journal path ≡ false

  -- Deadlock, with the asker and the path that closes a cycle
  pub record IsExactDeadlock (asker : ℕ) (stmt : Stmt) (journal : Journal) (path : List ℕ) : Type 0 where
    pub closed : IsTrue (closes asker stmt journal path)
    pub first : (other : List ℕ) → IsTrue (closes asker stmt journal other) → IsTrue (is_told_before path other)

  abbrev pub IsExactRun : ℕ → Stmt → Journal → RunReply → Type 0
  IsExactRun asker stmt journal (run.Done answer) = AreHolders asker stmt journal []
  IsExactRun asker stmt journal (run.Blocked named) = IsExactBlocked asker stmt journal named
  IsExactRun asker stmt journal (run.Deadlock cycle) = (path : List ℕ) × (cycle ≡ asker ∷ path) × IsExactDeadlock asker stmt journal path
  IsExactRun asker stmt journal run.Lost = ⊥
  IsExactRun asker stmt journal run.NoMemory = Unit {0}

  abbrev pub IsExact : Call → Journal → Type 0
  IsExact (Ran t stmt reply) before = IsExactRun t stmt before reply
  IsExact (Committed t end.Done) before = Unit {0}
  IsExact (Committed t end.Lost) before = ⊥
  IsExact (RolledBack t end.Done) before = Unit {0}
  IsExact (RolledBack t end.Lost) before = ⊥
  IsExact (Restarted (Ok told)) before = told ≡ shown (count before)
  IsExact (Restarted (Err lost)) before = ⊥

  -- Each reply is NoMemory, to a run alone, or the one that is due: a run is answered Deadlock where a cycle closes,
  -- Blocked where something is in its way and no cycle closes, and else Done; a restart tells how many commits count.
  abbrev pub Exact : Journal → Type 0
  Exact [] = Unit {0}
  Exact (call ∷ before) = Exact before × IsExact call before
