-- How the calls of sessions stand in a history: as their scripts say, in order, and once.
use Rattle.std.specs.Prelude.{◌≡◌, ◌⊎◌, ℕ, ◌+◌, ◌≤◌, ◌<◌, true, false, ◌||◌, Some, List, ◌∷◌, ◌++◌, length}
use Rattle.std.specs.List.{flat_map}
use Rattle.hr_base.specs.Lists.{numbered}
use Rattle.hr_said.specs.declared.scenario.Scenario.{Scenario}
use Rattle.hr_said.specs.declared.scenario.Block.{Block}
use Rattle.hr_history.specs.declared.entry.Entry.{Entry}
use Rattle.hr_history.specs.declared.phase.Phase.{Phase}
use Rattle.hr_history.specs.declared.phase.Phase.TheVariants as phase
use Rattle.hr_history.specs.History.{History}
use Rattle.hr_history.specs.Transactions.{session_of, submits, phase_of, is_open, is_asked, is_logged}
use Rattle.hr_history.specs.Faithful.{session_caller}
use Rattle.hr_records.specs.AtReplica.{Begins}
use Rattle.hr_decisions.specs.Order.{WasDecided}
use Rattle.hr_schedule.specs.declared.attempt.Try.{Try}
use Rattle.hr_schedule.specs.Tries.{tries_of}
use Rattle.hr_schedule.specs.Scripts.{script, next_call_of}
use Rattle.hr_scripted.specs.Calls.{is_session_call, session_calls, txn_calls, block_calls}

-- The entry is the next call of the script of a session of the scenario, and this session has made it.
pub record IsNextOfScript (sc : Scenario) (e : Entry) (before : History) : Type 0 where
  pub session : ℕ
  pub first : 1 ≤ session
  pub last : session ≤ length sc.scripts
  pub caller : e.caller ≡ session_caller sc.f session
  pub call : next_call_of sc session before ≡ Some e.event

-- Transaction t of session s tries the block. Its calls are the first of those that the block says, in their order, and so are
-- its statements. Where its commit was asked for, or it is committed, they are all of them, and the block ends with COMMIT.
-- Where it was rolled back, they are all of them, and the block ends with ROLLBACK.
pub record FollowsBlock (s t : ℕ) (block : Block) (h : History) : Type 0 where
  pub calls : Begins (txn_calls t h) (block_calls s t block)
  pub front : Begins (submits t h) block.stmts
  pub commits : (is_asked (phase_of t h) || is_logged (phase_of t h)) ≡ true → (txn_calls t h ≡ block_calls s t block) × (submits t h ≡ block.stmts) × (block.commits ≡ true)
  pub rolls_back : phase_of t h ≡ phase.RolledBack → (txn_calls t h ≡ block_calls s t block) × (submits t h ≡ block.stmts) × (block.commits ≡ false)

-- the last try was refused, retries were left, and the next is one of the same block
abbrev pub IsAgain : ℕ → Phase → Try → Try → Type 0
IsAgain retries ended last next = (ended ≡ phase.Refused) × (last.number ≤ retries) × (next.block ≡ last.block) × (next.number ≡ last.number + 1)

-- the last try wasn't refused, or no retries were left, and the next is the first of the next block
abbrev pub IsOfNext : ℕ → Phase → Try → Try → Type 0
IsOfNext retries ended last next = (ended ≡ phase.Refused → retries < last.number) × (next.block ≡ last.block + 1) × (next.number ≡ 1)

module _ (sc : Scenario) (s : ℕ) (h : History) where
  -- this is the session's try with this number, counted from 1
  abbrev pub IsTry : ℕ → Try → Type 0
  IsTry i x = numbered (tries_of sc.retries s h) i ≡ Some x

  -- How a session's tries stand.
  pub record TriesStand : Type 0 where
    -- the session's transactions are those of its tries
    pub its : (i : ℕ) (x : Try) → IsTry i x → session_of x.txn h ≡ Some s
    pub all : (t : ℕ) → session_of t h ≡ Some s → (i : ℕ) × (x : Try) × IsTry i x × (x.txn ≡ t)
    -- its calls are those of its tries, one try after another
    pub in_turn : session_calls sc.f s h ≡ flat_map (λ (x : Try). txn_calls x.txn h) (tries_of sc.retries s h)
    -- each try is of a block of the script, and follows it
    pub blocks : (i : ℕ) (x : Try) → IsTry i x → (block : Block) × (numbered (script sc s) x.block ≡ Some block) × FollowsBlock s x.txn block h
    -- the first is the first of the first block
    pub first : (x : Try) → IsTry 1 x → (x.block ≡ 1) × (x.number ≡ 1)
    -- behind each, once it is over, comes one more of its block, or the first of the next
    pub over : (i : ℕ) (x y : Try) → IsTry i x → IsTry (i + 1) y → is_open (phase_of x.txn h) ≡ false
    pub next : (i : ℕ) (x y : Try) → IsTry i x → IsTry (i + 1) y → IsAgain sc.retries (phase_of x.txn h) x y ⊎ IsOfNext sc.retries (phase_of x.txn h) x y
    -- of a block one try at most is committed
    pub once : (i k p q : ℕ) (x y : Try) → IsTry i x → IsTry k y → WasDecided x.txn p h → WasDecided y.txn q h → x.block ≡ y.block → i ≡ k
    -- the committed ones stand in the log in the order of their blocks
    pub in_log : (i k p q : ℕ) (x y : Try) → IsTry i x → IsTry k y → WasDecided x.txn p h → WasDecided y.txn q h → x.block < y.block → p < q

-- The calls of the scenario's sessions stand in the history as their scripts say: each was, when it came, the next of its
-- session's script, and so each session's tries stand.
pub record CallsStand (sc : Scenario) (h : History) : Type 0 where
  pub calls : (newer : List Entry) (e : Entry) (before : History) → h ≡ newer ++ e ∷ before → is_session_call e.event ≡ true → IsNextOfScript sc e before
  pub tries : (s : ℕ) → TriesStand sc s h
