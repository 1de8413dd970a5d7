use Rattle.std.proofs.Common.{◌≡◌, ◌≤◌, ◌*◌}
use Rattle.std.specs.List.{range_with_len}
use Rattle.hr_ledger.proofs.Rooms.{shares}
use Rattle.hr_ledger.proofs.room.replica_room.Given as goal

abbrev pub invariant-replicas : goal.invariant-replicas
invariant-replicas l = record {
  total : l.total ≡ shares l.view (range_with_len 0 l.replica);
  few : l.total ≤ 4004 * l.replica;
}
