use Rattle.std.proofs.Common.{◌+◌, None, map, ap, subst, ◌∙◌, arith}
use Rattle.hr_progress.specs.Plain.{PlainProgress, plain_txn, plain_progress, with_commit}
use Rattle.hr_progress.specs.Kept.{IsLeast, processed_of, recounted}
use Rattle.hr_progress.proofs.Changed.{set_changed}
use Rattle.hr_progress.proofs.Lookups.{replica_found}
use Rattle.hr_progress.proofs.Ready.{ready_set}
use Rattle.hr_progress.proofs.progress.commit_at.Goals as goal

pub recount_one-requires : goal.recount_one-requires
recount_one-requires c =
    let x = c.index_mut-progress.result.now in
    let found = replica_found c.args.replicas.now.items c.args.replica x c.requires.known c.index_mut-progress.ensures.value in
    let txns = (map plain_txn c.args.txns.now) in
    let log = c.args.log.now in
    let least = subst (λ (q : PlainProgress). IsLeast txns log (with_commit c.args.txn q)) found c.requires.least in
    omega (arith, least, ap (processed_of txns log (x.position + 1)) c.end.ensures)

pub returns-clause-value : goal.returns-clause-value
returns-clause-value c =
    let x = c.index_mut-progress.result.now in
    set_changed plain_progress (λ (q : PlainProgress). recounted (map plain_txn c.args.txns.now) c.args.log.now (with_commit c.args.txn q)) c.args.replicas.now.items c.args.replica 0 c.args.replica x _ (omega arith) c.requires.known c.index_mut-progress.ensures.value
    (c.recount_one.ensures.value ∙ (λ i. recounted (map plain_txn c.args.txns.now) c.args.log.now record (plain_progress x) { position = x.position + 1; out = None; attempts = c.end.ensures i; touched = c.close.ensures.others i }))

pub returns-clause-room : goal.returns-clause-room
returns-clause-room c = ready_set c.args.replicas.now.items c.args.replica _ (c.recount_one.ensures.room tt) c.requires.room
