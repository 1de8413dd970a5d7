use Rattle.std.proofs.Common.{◌≡◌, map}
use Rattle.hr_moves.specs.Changes.{map_from}
use Rattle.hr_progress.specs.Plain.{plain_txn, plain_progress}
use Rattle.hr_progress.specs.Kept.{recounted, AreReady}
use Rattle.hr_progress.proofs.Recounts.{up_to}
use Rattle.hr_progress.proofs.progress.recount.Given as goal

abbrev pub invariant-replicas : goal.invariant-replicas
invariant-replicas l = record {
  value : map plain_progress l.replicas.items ≡ map_from (up_to l.place (recounted (map plain_txn l.txns) l.log)) 0 (map plain_progress l.fn.replicas.items);
  room : AreReady l.fn.replicas.items → AreReady l.replicas.items;
}
