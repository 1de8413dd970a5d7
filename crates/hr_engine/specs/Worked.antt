-- The journals of the worked runs, over `table t (id int key, v int)`.
use Rattle.std.specs.Prelude.{ℕ, Bool, true, false, Ok, Err, List, [], ◌∷◌, reverse}
use Rattle.hr_rel.specs.declared.answer.Answer.TheVariants.{Rows, Count}
use Rattle.hr_rel.specs.declared.stmt.Stmt.{Stmt}
use Rattle.hr_meaning.specs.Worked.{one, insert, select_v}
use Rattle.hr_engine.specs.declared.reply.Lost.{Lost}
use Rattle.hr_engine.specs.declared.reply.RunReply.TheVariants as run
use Rattle.hr_engine.specs.declared.reply.EndReply.TheVariants as end
use Rattle.hr_engine.specs.Journal.{Call, Ran, Committed, RolledBack, Restarted, Journal}

-- the journal of these calls, made in this order
abbrev pub in_order : List Call → Journal
in_order calls = reverse calls

-- transaction t inserts the row (id, v)
abbrev pub inserts : ℕ → ℕ → ℕ → Call
inserts t id v = Ran t (insert id v) (run.Done (Count 1))

-- transaction t finds v at the key id
abbrev pub finds : ℕ → ℕ → ℕ → Call
finds t id v = Ran t (select_v id) (run.Done (Rows (one v ∷ [])))

-- transaction t asks for the row with the key id and has to wait for one other
abbrev pub waits_for : ℕ → ℕ → ℕ → Call
waits_for t id other = Ran t (select_v id) (run.Blocked (other ∷ []))

-- one transaction writes a row, another reads another row, and both are open
abbrev pub two_open : Journal
two_open = in_order (inserts 1 5 50 ∷ finds 2 1 10 ∷ [])

-- transaction 2 reads a row of transaction 1, which is then rolled back
abbrev pub read_uncommitted : Journal
read_uncommitted = in_order (inserts 1 5 50 ∷ finds 2 5 50 ∷ RolledBack 1 end.Done ∷ [])

-- two transactions wait for each other, and each was told to wait
abbrev pub cycle_blocked : Journal
cycle_blocked = in_order (inserts 1 5 50 ∷ inserts 2 6 60 ∷ waits_for 1 6 2 ∷ waits_for 2 5 1 ∷ [])

-- transaction 2 waits for 1, which is rolled back and runs again
abbrev pub runs_again : Journal
runs_again = in_order (inserts 1 5 50 ∷ waits_for 2 5 1 ∷ RolledBack 1 end.Done ∷ inserts 1 5 50 ∷ [])

-- a commit is answered Lost
abbrev pub in_doubt : Journal
in_doubt = in_order (inserts 1 5 50 ∷ Committed 1 end.Lost ∷ [])

-- the restart after it tells this count
abbrev pub restarted : ℕ → Journal
restarted told = in_order (inserts 1 5 50 ∷ Committed 1 end.Lost ∷ Restarted (Ok told) ∷ [])

-- transaction 1 inserts a row and commits
abbrev pub committed : Journal
committed = in_order (inserts 1 5 50 ∷ Committed 1 end.Done ∷ [])

-- or is rolled back
abbrev pub rolled_back : Journal
rolled_back = in_order (inserts 1 5 50 ∷ RolledBack 1 end.Done ∷ [])

-- or is running when its backend is restarted, or lost
abbrev pub restarted_within : Journal
restarted_within = in_order (inserts 1 5 50 ∷ Restarted (Ok 0) ∷ [])

abbrev pub lost_within : Journal
lost_within = in_order (inserts 1 5 50 ∷ Ran 1 (select_v 5) run.Lost ∷ [])

-- transaction t asks for the row with the key id, and is told that it and one other would wait for each other
abbrev pub closes_cycle : ℕ → ℕ → ℕ → Call
closes_cycle t id other = Ran t (select_v id) (run.Deadlock (t ∷ other ∷ []))

-- two transactions would wait for each other, and the second is told so; what comes later is given
abbrev pub deadlocked : List Call → Journal
deadlocked later = in_order (inserts 1 5 50 ∷ inserts 2 6 60 ∷ waits_for 1 6 2 ∷ closes_cycle 2 5 1 ∷ later)

-- the second is told so where the first doesn't wait
abbrev pub deadlock_made_up : Journal
deadlock_made_up = in_order (inserts 1 5 50 ∷ inserts 2 6 60 ∷ closes_cycle 2 5 1 ∷ [])

-- transaction 2 waits for 1; what comes later is given
abbrev pub waiting : List Call → Journal
waiting later = in_order (inserts 1 5 50 ∷ waits_for 2 5 1 ∷ later)

-- a commit is in doubt, another call is answered Lost, and a restart fails
abbrev pub in_doubt_longer : Lost → Journal
in_doubt_longer why = in_order (inserts 1 5 50 ∷ Committed 1 end.Lost ∷ Ran 2 (select_v 5) run.Lost ∷ Restarted (Err why) ∷ [])

-- a commit is answered Lost after another call
abbrev pub commit_after : Call → Journal
commit_after call = in_order (inserts 1 5 50 ∷ call ∷ Committed 1 end.Lost ∷ [])

-- a restart ends a loss, and a commit is answered Lost
abbrev pub lost_again : Journal
lost_again = in_order (Ran 1 (select_v 5) run.Lost ∷ Restarted (Ok 0) ∷ inserts 1 5 50 ∷ Committed 1 end.Lost ∷ [])

-- 1 waits for 3, and 2 for 1
abbrev pub two_wait : Journal
two_wait = in_order (inserts 1 5 50 ∷ inserts 2 6 60 ∷ inserts 3 7 70 ∷ waits_for 1 7 3 ∷ waits_for 2 5 1 ∷ [])

-- transactions that all wait for each of these
abbrev pub each_waits : ℕ → List ℕ
each_waits t = 1 ∷ 2 ∷ 3 ∷ []

-- statements of which each needs the whole database for itself, or none needs anything
abbrev pub whole : Stmt → Stmt → Bool
whole s u = true

abbrev pub nothing : Stmt → Stmt → Bool
nothing s u = false
