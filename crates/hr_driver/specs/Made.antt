-- What a driver's calls make of the kept history, and of what stands behind its replicas.
use Rattle.std.specs.Prelude.{◌≡◌, ◌≤◌, ℕ, ◌+◌, Bool, ◌&&◌, nat_le, if◌then◌else◌, Option, is_some, length}
use Rattle.hr_base.specs.Lists.{numbered, when}
use Rattle.hr_schedule.specs.declared.attempt.Try.{Try}
use Rattle.hr_schedule.specs.Tries.{tries_of}
use Rattle.hr_schedule.specs.Scripts.{script}
use Rattle.hr_rel.specs.Database.{Database}
use Rattle.hr_engine.specs.Backend.{Standing}
use Rattle.hr_history.specs.declared.entry.Event.{Event}
use Rattle.hr_history.specs.Replicas.{journal_of}
use Rattle.hr_history.specs.Faithful.{replica_caller}
use Rattle.hr_ledger.specs.Chronicle.{Chronicle, history_in}
use Rattle.hr_core.specs.Turns.{IsSameSize, HasTurn}
use Rattle.hr_schedule.specs.Choices.{Making, IsReply, Times, Suspects}
use Rattle.hr_said.specs.declared.scenario.Scenario.{Scenario}

-- The one history is what this makes of the other, and is of as many replicas and sessions.
pub record Made (making : Making) (before after : Chronicle) : Type 0 where
  pub size : IsSameSize before after
  pub made : making (history_in before) (history_in after)

-- what stood for the journal of replica r, from any start, now stands for its journal
abbrev pub StandsOn : Standing → Standing → ℕ → Chronicle → Chronicle → Type 0
StandsOn was stands r before after = (db : Database) → was db (journal_of r (history_in before)) → stands db (journal_of r (history_in after))

-- no replica's journal has changed
abbrev pub AreSameJournals : Chronicle → Chronicle → Type 0
AreSameJournals before after = (q : ℕ) → journal_of q (history_in after) ≡ journal_of q (history_in before)

-- no session's tries have changed
abbrev pub AreSameTries : Chronicle → Chronicle → Type 0
AreSameTries before after = (r q : ℕ) → tries_of r q (history_in after) ≡ tries_of r q (history_in before)

-- Replica r has replied in a turn, and its backend stands for the journal with this reply; no other journal has changed, and no tries.
pub record Replied (was stands : Standing) (r : ℕ) (before after : Chronicle) : Type 0 where
  pub event : Event
  pub is_reply : IsReply r event
  pub turn : HasTurn (replica_caller r) event before after
  pub own : StandsOn was stands r before after
  pub others : (q : ℕ) → (q ≡ r → ⊥) → journal_of q (history_in after) ≡ journal_of q (history_in before)
  pub tries : AreSameTries before after

-- Of the suspicions that are due some have come.
pub record HasSuspected (sc : Scenario) (before now : Chronicle) : Type 0 where
  pub size : IsSameSize before now
  pub times : (k : ℕ) × Times (Suspects sc) k (history_in before) (history_in now)
  pub journals : AreSameJournals before now
  pub tries : AreSameTries before now

-- no journal but that of replica r has changed
abbrev pub AreSameOthers : ℕ → Chronicle → Chronicle → Type 0
AreSameOthers r before after = (q : ℕ) → (q ≡ r → ⊥) → journal_of q (history_in after) ≡ journal_of q (history_in before)

-- The history is one of the scenario's size, and this is one of its sessions.
pub record IsSessionOf (sc : Scenario) (s : ℕ) (c : Chronicle) : Type 0 where
  pub f : c.f ≡ sc.f
  pub sessions : c.sessions ≡ length sc.scripts
  pub first : 1 ≤ s
  pub last : s ≤ length sc.scripts

-- the try, where the session's script has its block
abbrev pub there : Scenario → ℕ → Try → Option Try
there sc s try = when (is_some (numbered (script sc s) try.block)) try

-- the try behind a last one, which was refused or not, without its transaction
abbrev pub try_behind : ℕ → Try → Bool → Try
try_behind retries last refused =
    if refused && nat_le last.number retries
    then record { block = last.block; number = last.number + 1; txn = 0 }
    else record { block = last.block + 1; number = 1; txn = 0 }

-- no tries but those of session s have changed
abbrev pub AreSameTriesBut : ℕ → Chronicle → Chronicle → Type 0
AreSameTriesBut s before after = (r q : ℕ) → (q ≡ s → ⊥) → tries_of r q (history_in after) ≡ tries_of r q (history_in before)
