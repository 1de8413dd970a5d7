use Rattle.std.proofs.Common.{None, sym, ap, ◌∙◌, arith}
use Rattle.hr_progress.specs.Plain.{PlainProgress, plain_progress, with_waiting}
use Rattle.hr_progress.specs.Kept.{is_run_of}
use Rattle.hr_progress.proofs.Changed.{set_changed}
use Rattle.hr_progress.proofs.Lookups.{replica_found}
use Rattle.hr_progress.proofs.Ready.{ready_at, ready_set, run_ready}
use Rattle.hr_progress.proofs.progress.wait_at.Goals as goal

pub mark-requires : goal.mark-requires
mark-requires c =
    let x = c.index_mut-progress.result.now in
    let found = replica_found c.args.replicas.now.items c.args.replica x c.requires.known c.index_mut-progress.ensures.value in
    (run_ready c.args.txn x.out _ _ _ (sym (ap (λ (q : PlainProgress). is_run_of c.args.txn q.out) found) ∙ c.requires.out) (ready_at c.args.replicas.now.items c.args.replica x c.requires.known c.index_mut-progress.ensures.value c.requires.room)).0

pub returns-clause-value : goal.returns-clause-value
returns-clause-value c =
    let x = c.index_mut-progress.result.now in
    set_changed plain_progress (with_waiting c.args.txn c.args.reply) c.args.replicas.now.items c.args.replica 0 c.args.replica x _ (omega arith) c.requires.known c.index_mut-progress.ensures.value
    (λ i. record (plain_progress x) { out = None; attempts = c.wait.ensures i; touched = c.mark.ensures i })

pub returns-clause-room : goal.returns-clause-room
returns-clause-room c = ready_set c.args.replicas.now.items c.args.replica _ tt c.requires.room
