use Rattle.std.proofs.Common.{None, arith}
use Rattle.hr_progress.specs.Plain.{plain_progress, to_free}
use Rattle.hr_progress.proofs.Changed.{set_changed}
use Rattle.hr_progress.proofs.Ready.{ready_set}
use Rattle.hr_progress.proofs.progress.free_at.Goals as goal

pub returns-clause-value : goal.returns-clause-value
returns-clause-value c =
    let x = c.index_mut-progress.result.now in
    set_changed plain_progress (to_free) c.args.replicas.now.items c.args.replica 0 c.args.replica x _ (omega arith) c.requires.known c.index_mut-progress.ensures.value
    (λ i. record (plain_progress x) { out = None })

pub returns-clause-room : goal.returns-clause-room
returns-clause-room c = ready_set c.args.replicas.now.items c.args.replica _ tt c.requires.room
