-- The bytes of sources and sinks.
use Rattle.std.specs.Prelude.{ℕ, ◌≤◌, ◌<◌, List, length, take, Option, Result, IfOk}
use Rattle.std.specs.Io.KnownBytes.{Appends}
use Rattle.hr_io.specs.Calls.{CallLog}

-- known bytes grow by a front of the text, which may be all of it or nothing
abbrev pub AppendsFront : Option (List ℕ) → Option (List ℕ) → List ℕ → Type 0
AppendsFront old new text = (n : ℕ) × (n ≤ length text) × Appends old new (take n text)

-- on Ok, bytes moved unless there was no room for any
abbrev pub MovesSome : {E : Type 0} → Result ℕ E → List ℕ → Type 0
MovesSome r piece = IfOk r (λ n. 0 < length piece → 0 < n)

-- a source over memory: the bytes left, the most that one call gives, and its calls
pub record MemFeed : Type 0 where
  pub left : List ℕ
  pub piece : ℕ
  pub calls : CallLog

-- a sink over memory: the bytes taken, the most that one call takes, the room for all, and its calls
pub record MemStore : Type 0 where
  pub taken : List ℕ
  pub piece : ℕ
  pub room : ℕ
  pub calls : CallLog

-- no room is left
abbrev pub IsFull : MemStore → Type 0
IsFull s = s.room ≤ length s.taken
