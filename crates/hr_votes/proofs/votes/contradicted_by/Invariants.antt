use Rattle.std.proofs.Common.{◌≡◌, ◌+◌, ◌*◌, ◌-◌, find}
use Rattle.std.specs.List.{range_with_len}
use Rattle.hr_history.specs.ReplicaNumbers.{replica_numbers}
use Rattle.hr_history.specs.Votes.{contradicts}
use Rattle.hr_votes.proofs.votes.contradicted_by.Given as goal

abbrev pub invariant-replicas : goal.invariant-replicas
invariant-replicas l = find (contradicts l.view l.txn) (range_with_len l.replica (2 * l.view.f + 1 - l.replica)) ≡ find (contradicts l.view l.txn) (replica_numbers l.view.f)
