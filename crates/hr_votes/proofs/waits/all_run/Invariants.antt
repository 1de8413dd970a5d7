use Rattle.std.proofs.Common.{◌≡◌, drop}
use Rattle.std.specs.List.{list_all}
use Rattle.hr_history.specs.Processed.{runs_in}
use Rattle.hr_votes.proofs.waits.all_run.Given as goal

abbrev pub invariant-txns : goal.invariant-txns
invariant-txns l = list_all (runs_in l.view l.replica) (drop l.txn-index l.txns) ≡ list_all (runs_in l.view l.replica) l.txns
