use Rattle.std.proofs.Common.{arith}
use Rattle.hr_progress.specs.Plain.{plain_progress, with_preempted}
use Rattle.hr_progress.proofs.Changed.{set_changed}
use Rattle.hr_progress.proofs.Ready.{ready_at, ready_set, ready_same}
use Rattle.hr_progress.proofs.progress.preempt_at.Goals as goal

pub returns-clause-value : goal.returns-clause-value
returns-clause-value c = set_changed plain_progress (with_preempted c.args.txn) c.args.replicas.now.items c.args.replica 0 c.args.replica c.index_mut-progress.result.now _ (omega arith) c.requires c.index_mut-progress.ensures.value
    (λ i. record (plain_progress c.index_mut-progress.result.now) { attempts = c.preempt.ensures.value i })

pub returns-clause-room : goal.returns-clause-room
returns-clause-room c = λ ready.
    let x = c.index_mut-progress.result.now in
    ready_set c.args.replicas.now.items c.args.replica _ (ready_same x.out _ _ x.attempts.entries _ c.preempt.ensures.room (ready_at c.args.replicas.now.items c.args.replica x c.requires c.index_mut-progress.ensures.value ready)) ready
