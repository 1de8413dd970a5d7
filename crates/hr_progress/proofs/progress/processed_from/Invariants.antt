use Rattle.std.proofs.Common.{length, ◌-◌, ◌≤◌, map}
use Rattle.hr_progress.specs.Plain.{plain_txn, plain_entry}
use Rattle.hr_progress.specs.Kept.{processed_of}
use Rattle.hr_progress.proofs.progress.processed_from.Given as goal

abbrev pub invariant-log : goal.invariant-log
invariant-log l = l.count ≤ processed_of (map plain_txn l.txns) l.log l.position (map plain_entry l.attempts.entries)

abbrev pub decreases-log : goal.decreases-log
decreases-log l = length l.log - l.count
