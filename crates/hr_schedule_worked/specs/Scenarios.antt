-- The scenarios of worked histories, as far as their next calls tell of them: without tables, rows and trees.
use Rattle.std.specs.Prelude.{ℕ, pos, Bool, true, false, None, List, [], ◌∷◌, take}
use Rattle.hr_meaning.specs.Worked.{insert, select_v}
use Rattle.hr_rel.specs.declared.stmt.Stmt.{Stmt}
use Rattle.hr_faulty.specs.declared.script.Act.TheVariants as act
use Rattle.hr_forms.specs.declared.line.EngineKind.TheVariants as kind
use Rattle.hr_said.specs.declared.scenario.Scenario.{Scenario}
use Rattle.hr_said.specs.declared.scenario.Block.{Block}
use Rattle.hr_rel.specs.declared.answer.Answer.TheVariants.{Count}
use Rattle.hr_engine.specs.declared.reply.RunReply.TheVariants.{Done}
use Rattle.hr_history.specs.declared.job.Job.TheVariants.{Run}
use Rattle.hr_history.specs.declared.job.JobReply.TheVariants.{Ran}
use Rattle.hr_history.specs.declared.entry.Entry.{Entry}
use Rattle.hr_history.specs.declared.entry.Event.TheVariants as event
use Rattle.hr_history.specs.History.{History, history_of}

-- the history after so many of these entries
abbrev pub after : ℕ → List Entry → History
after n entries = history_of (take n entries)

-- a block of these statements
abbrev pub block : List Stmt → Bool → Block
block stmts commits = record { stmts = stmts; texts = []; commits = commits }

-- three replicas without faults
abbrev pub honest : ℕ → List ℕ → List (List Block) → Scenario
honest retries suspects scripts = record {
  f = 1;
  kinds = kind.ByTable ∷ kind.ByRange ∷ kind.ByTable ∷ [];
  retries = retries;
  catalog = record { tables = [] };
  rows = [];
  faults = [] ∷ [] ∷ [] ∷ [];
  suspects = suspects;
  scripts = scripts;
  schedule = None;
}

-- a session that inserts a row and reads it back; the block ends with COMMIT, or with ROLLBACK
abbrev pub inserting : Bool → Scenario
inserting commits = honest 0 [] ((block (insert 5 50 ∷ select_v 5 ∷ []) commits ∷ []) ∷ [])

-- two sessions that read a row; at replica 0 the first run is answered 7
abbrev pub lied_to : ℕ → Scenario
lied_to retries = record (honest retries [] ((block (select_v 1 ∷ []) true ∷ []) ∷ (block (select_v 1 ∷ []) true ∷ []) ∷ [])) {
  faults = (record { call = 1; act = act.Wrong (pos 7) } ∷ []) ∷ [] ∷ [] ∷ [];
}

-- a session inserts, another reads; a suspicion comes after the first commit
abbrev pub suspecting : Scenario
suspecting = honest 0 (1 ∷ []) ((block (insert 1 1 ∷ []) true ∷ []) ∷ (block (select_v 9 ∷ []) true ∷ []) ∷ [])

-- a session with two blocks: it inserts a row and reads it back, and then commits nothing; or it inserts a row and rolls back
-- first
abbrev pub two_blocks : Scenario
two_blocks = honest 0 [] ((block (insert 5 50 ∷ select_v 5 ∷ []) true ∷ block [] true ∷ []) ∷ [])

abbrev pub rolls_back_first : Scenario
rolls_back_first = honest 0 [] ((block (insert 1 1 ∷ []) false ∷ block [] true ∷ []) ∷ [])

-- one replica, which doesn't lie, and one session that inserts a row
abbrev pub alone : Scenario
alone = record (honest 0 [] ((block (insert 5 50 ∷ []) true ∷ []) ∷ [])) {
  f = 0;
  kinds = kind.ByTable ∷ [];
  faults = [] ∷ [];
}

-- the session has begun; in one round it submits its statement, and the replica runs it
abbrev pub alone_for_a_round : List Entry
alone_for_a_round =
    record { caller = 2; event = event.Begin 1 1 } ∷
    record { caller = 2; event = event.Submit 1 1 (insert 5 50) } ∷
    record { caller = 1; event = event.Take 0 (Run 1 1) } ∷
    record { caller = 1; event = event.Give 0 (Ran (Done (Count 1))) } ∷
    []
