use Rattle.std.proofs.Common.{◌+◌, ◌-◌, map, take, length}
use Rattle.hr_locks.specs.Waits.{wait_seen, next_in}
use Rattle.hr_locks.specs.Searches.{AreFound}
use Rattle.hr_locks.proofs.Links.{Searched}
use Rattle.hr_locks.proofs.Unread.{unread}
use Rattle.hr_locks.proofs.Steps.{txn_of}
use Rattle.hr_locks.proofs.search.told_cycle.Given as goal

abbrev pub invariant-queue : goal.invariant-queue
invariant-queue l = record {
  searched : Searched (next_in (wait_seen l.granted l.waits) l.asker l.holders) l.asker l.queue.items l.at;
  found : AreFound l.found.items l.queue.items;
}

-- the names of waits that weren't read, and those that were found and not led on
abbrev pub decreases-queue : goal.decreases-queue
decreases-queue l = unread l.asker l.holders l.waits (map txn_of (take l.at l.queue.items)) + (length l.queue.items - l.at)
