-- The next call of a session's script.
use Rattle.std.specs.Prelude.{ℕ, ◌+◌, Bool, true, false, ◌&&◌, nat_lt, if◌then◌else◌, Option, Some, None, is_some, unwrap_or, List, [], length, slice_get, option_and_then}
use Rattle.hr_base.specs.Lists.{numbered, when}
use Rattle.hr_base.specs.declared.limits.TheConstants.{MAX_SUBMITS, MAX_STATEMENTS}
use Rattle.hr_rel.specs.declared.stmt.Stmt.{Stmt}
use Rattle.hr_said.specs.declared.scenario.Scenario.{Scenario}
use Rattle.hr_said.specs.declared.scenario.Block.{Block}
use Rattle.hr_history.specs.declared.entry.Event.{Event}
use Rattle.hr_history.specs.declared.entry.Event.TheVariants as event
use Rattle.hr_history.specs.declared.phase.Phase.{Phase}
use Rattle.hr_history.specs.declared.phase.Phase.TheVariants as phase
use Rattle.hr_history.specs.History.{History}
use Rattle.hr_history.specs.Transactions.{begun, submits, submitted, phase_of}
use Rattle.hr_history.specs.Replies.{reply_to, is_waiting}
use Rattle.hr_schedule.specs.declared.attempt.Try.{Try}
use Rattle.hr_schedule.specs.Tries.{try_after, last_try}

-- a shepherd takes one statement more of a transaction that has n
abbrev pub may_submit : ℕ → History → Bool
may_submit n h = nat_lt (submitted h) MAX_SUBMITS && nat_lt n MAX_STATEMENTS

-- a block's end, for its transaction t
abbrev pub end_call : Bool → ℕ → Event
end_call true t = event.AskCommit t
end_call false t = event.AskRollback t

-- the statement as the next of transaction t, which has n, or else the block's end
abbrev pub call_or_end : Option Stmt → Bool → ℕ → ℕ → History → Option Event
call_or_end (Some stmt) commits t n h = when (may_submit n h) (event.Submit t (n + 1) stmt)
call_or_end None commits t n h = Some (end_call commits t)

-- the next call within a block, of whose transaction t there are n statements
abbrev pub call_in : ℕ → ℕ → History → Block → Option Event
call_in t n h block = call_or_end (slice_get block.stmts n) block.commits t n h

module _ (sc : Scenario) (s : ℕ) where
  -- the session's script
  abbrev pub script : List Block
  script = unwrap_or (numbered sc.scripts s) []

  -- a Begin, where the script has the block of the next try
  abbrev pub begin_next : Option Try → History → Option Event
  begin_next last h = when (is_some (numbered script (try_after sc.retries last (λ t. phase_of t h) 0).block)) (event.Begin s (length (begun h) + 1))

  -- after the last try: within its block while it is active, nothing while its commit is asked for, and else a Begin
  abbrev pub go_on : Try → Phase → History → Option Event
  go_on last phase.Active h = option_and_then (call_in last.txn (length (submits last.txn h)) h) (numbered script last.block)
  go_on last (phase.Asked n) h = None
  go_on last (phase.Logged place) h = begin_next (Some last) h
  go_on last phase.RolledBack h = begin_next (Some last) h
  go_on last phase.Refused h = begin_next (Some last) h

  abbrev pub call_after : Option Try → History → Option Event
  call_after None h = begin_next None h
  call_after (Some last) h = go_on last (phase_of last.txn h) h

  -- The next call of the session's script, by the history alone: none while the session waits for a reply, and none once
  -- the script has ended.
  abbrev pub next_call_of : History → Option Event
  next_call_of h = if is_waiting (reply_to s h) then None else call_after (last_try sc.retries s h) h
