-- What a call does to the transactions of its backend, and to what is committed there. Each word of a journal looks at a
-- call through one of these two.
use Rattle.std.specs.Prelude.{ℕ, Bool, true, false, ◌==◌, if◌then◌else◌, Ok, Err, List, [], ◌∷◌, ◌++◌}
use Rattle.hr_rel.specs.declared.answer.Answer.{Answer}
use Rattle.hr_rel.specs.declared.stmt.Stmt.{Stmt}
use Rattle.hr_engine.specs.declared.reply.RunReply.TheVariants as run
use Rattle.hr_engine.specs.declared.reply.EndReply.TheVariants as end
use Rattle.hr_engine.specs.Journal.{Call, Ran, Committed, RolledBack, Restarted}

-- What a call does to the transactions.
pub data Effect : Type 0 where
  -- one more statement of the transaction has run
  Runs : (txn : ℕ) (stmt : Stmt) (answer : Answer) → Effect
  -- it was told to wait for these
  Waits : (txn : ℕ) (named : List ℕ) → Effect
  -- it was told of this cycle of waits
  Closes : (txn : ℕ) (cycle : List ℕ) → Effect
  -- its attempt ends
  Ends : (txn : ℕ) → Effect
  -- all attempts end
  EndsAll : Effect
  -- nothing changes
  Nothing : Effect

-- Done lets a statement run; an end ends its transaction; a loss and a restart end all of them
abbrev pub effect_of : Call → Effect
effect_of (Ran t stmt (run.Done answer)) = Runs t stmt answer
effect_of (Ran t stmt (run.Blocked named)) = Waits t named
effect_of (Ran t stmt (run.Deadlock cycle)) = Closes t cycle
effect_of (Ran t stmt run.Lost) = EndsAll
effect_of (Ran t stmt run.NoMemory) = Nothing
effect_of (Committed t end.Done) = Ends t
effect_of (Committed t end.Lost) = EndsAll
effect_of (RolledBack t end.Done) = Ends t
effect_of (RolledBack t end.Lost) = EndsAll
effect_of (Restarted told) = EndsAll

-- what an effect makes of a list that has an item for each statement of transaction t's attempt; `item` makes the next one
abbrev pub next_items : {X : Type 0} → ℕ → (Stmt → Answer → X) → Effect → List X → List X
next_items t item (Runs u stmt answer) items = if t == u then items ++ item stmt answer ∷ [] else items
next_items t item (Waits u named) items = items
next_items t item (Closes u cycle) items = items
next_items t item (Ends u) items = if t == u then [] else items
next_items t item EndsAll items = []
next_items t item Nothing items = items

-- What a call does to the commits.
pub data Settling : Type 0 where
  -- a commit counts
  Counts : Settling
  -- a loss begins, at a commit or at another call, or lasts
  Loses : (at_commit : Bool) → Settling
  -- a restart ends the loss, and tells how many commits were made
  Tells : (told : ℕ) → Settling
  -- nothing changes
  Keeps : Settling

-- a commit answered Done counts, a reply Lost begins a loss, and a restart answered Ok ends it
abbrev pub settling_of : Call → Settling
settling_of (Ran t stmt (run.Done answer)) = Keeps
settling_of (Ran t stmt (run.Blocked named)) = Keeps
settling_of (Ran t stmt (run.Deadlock cycle)) = Keeps
settling_of (Ran t stmt run.Lost) = Loses false
settling_of (Ran t stmt run.NoMemory) = Keeps
settling_of (Committed t end.Done) = Counts
settling_of (Committed t end.Lost) = Loses true
settling_of (RolledBack t end.Done) = Keeps
settling_of (RolledBack t end.Lost) = Loses false
settling_of (Restarted (Ok told)) = Tells told
settling_of (Restarted (Err lost)) = Loses false
