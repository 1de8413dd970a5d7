use Rattle.std.proofs.Common.{map, ap, ◌∙◌, arith}
use Rattle.hr_progress.specs.Plain.{plain_txn, plain_progress}
use Rattle.hr_progress.specs.Kept.{recounted, restarted}
use Rattle.hr_progress.proofs.Changed.{set_changed}
use Rattle.hr_progress.proofs.Ready.{ready_set}
use Rattle.hr_progress.proofs.progress.restart_at.Goals as goal

pub returns-clause-value : goal.returns-clause-value
returns-clause-value c = set_changed plain_progress (restarted (map plain_txn c.args.txns.now) c.args.log.now c.args.count) c.args.replicas.now.items c.args.replica 0 c.args.replica c.index_mut-progress.result.now _ (omega arith) c.requires.known c.index_mut-progress.ensures.value
    (c.recount_one.ensures.value ∙ ap (recounted (map plain_txn c.args.txns.now) c.args.log.now) c.restart.ensures.value)

pub returns-clause-room : goal.returns-clause-room
returns-clause-room c = λ ready. ready_set c.args.replicas.now.items c.args.replica _ (c.recount_one.ensures.room c.restart.ensures.room) ready
