-- Journals.
use Rattle.std.specs.Prelude.{ℕ, List, Result}
use Rattle.hr_rel.specs.declared.stmt.Stmt.{Stmt}
use Rattle.hr_engine.specs.declared.reply.RunReply.{RunReply}
use Rattle.hr_engine.specs.declared.reply.EndReply.{EndReply}
use Rattle.hr_engine.specs.declared.reply.Lost.{Lost}

-- a call of a backend, with its reply
pub data Call : Type 0 where
  Ran : (txn : ℕ) (stmt : Stmt) (reply : RunReply) → Call
  Committed : (txn : ℕ) (reply : EndReply) → Call
  RolledBack : (txn : ℕ) (reply : EndReply) → Call
  Restarted : (told : Result ℕ Lost) → Call

-- A backend's calls with their replies, the latest first. So a word of a journal says what its latest call makes of
-- the same word of the journal before, and "at that moment" is the journal before.
abbrev pub Journal : Type 0
Journal = List Call
