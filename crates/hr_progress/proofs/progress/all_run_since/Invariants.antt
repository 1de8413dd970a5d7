use Rattle.std.proofs.Common.{◌≡◌, drop, map}
use Rattle.std.specs.List.{list_all}
use Rattle.hr_progress.specs.Plain.{plain_progress, plain_replica_in}
use Rattle.hr_progress.specs.Seen.{runs_since}
use Rattle.hr_progress.proofs.progress.all_run_since.Given as goal

abbrev pub invariant-txns : goal.invariant-txns
invariant-txns l =
    list_all (runs_since (plain_replica_in (map plain_progress l.replicas) l.replica).attempts l.place) (drop l.txn-index l.txns)
    ≡ list_all (runs_since (plain_replica_in (map plain_progress l.replicas) l.replica).attempts l.place) l.txns
