use Rattle.std.proofs.Common.{◌≡◌, ◌≤◌, ◌+◌, ◌*◌, ◌-◌, count_by}
use Rattle.std.specs.List.{range_with_len}
use Rattle.hr_history.specs.ReplicaNumbers.{replica_numbers}
use Rattle.hr_history.specs.Votes.{agrees}
use Rattle.hr_votes.proofs.votes.agreeing.Given as goal

abbrev pub invariant-replicas : goal.invariant-replicas
invariant-replicas l = record {
  counted : l.count + count_by (agrees l.view l.txn) (range_with_len l.replica (2 * l.view.f + 1 - l.replica)) ≡ count_by (agrees l.view l.txn) (replica_numbers l.view.f);
  few : l.count ≤ l.replica;
}
