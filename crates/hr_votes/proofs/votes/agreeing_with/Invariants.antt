use Rattle.std.proofs.Common.{◌≡◌, ◌≤◌, ◌+◌, ◌*◌, ◌-◌, count_by}
use Rattle.std.specs.List.{range_with_len}
use Rattle.hr_history.specs.ReplicaNumbers.{replica_numbers}
use Rattle.hr_history.specs.Votes.{agree_on}
use Rattle.hr_votes.proofs.votes.agreeing_with.Given as goal

abbrev pub invariant-replicas : goal.invariant-replicas
invariant-replicas l = record {
  counted : l.count + count_by (agree_on l.view l.txn l.replica) (range_with_len l.other (2 * l.view.f + 1 - l.other)) ≡ count_by (agree_on l.view l.txn l.replica) (replica_numbers l.view.f);
  few : l.count ≤ l.other;
}
