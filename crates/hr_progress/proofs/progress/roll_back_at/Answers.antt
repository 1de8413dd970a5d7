use Rattle.std.proofs.Common.{◌≡◌, None, map, ap, subst, ◌∙◌, arith}
use Rattle.hr_moves.specs.Kept.{before_it}
use Rattle.hr_progress.specs.Plain.{PlainProgress, plain_txn, plain_progress, plain_txn_in, with_ended}
use Rattle.hr_progress.specs.Kept.{IsLeast, processed_of, recounted, back_to_before}
use Rattle.hr_progress.proofs.Changed.{set_changed}
use Rattle.hr_progress.proofs.Lookups.{replica_found}
use Rattle.hr_progress.proofs.Ready.{ready_set}
use Rattle.hr_progress.proofs.progress.roll_back_at.Goals as goal

pub recount_one-requires : goal.recount_one-requires
recount_one-requires c =
    let x = c.index_mut-progress.result.now in
    let found = replica_found c.args.replicas.now.items c.args.replica x c.requires.known c.index_mut-progress.ensures.value in
    let txns = (map plain_txn c.args.txns.now) in
    let log = c.args.log.now in
    let least = subst (λ (q : PlainProgress). IsLeast txns log (back_to_before txns c.args.txn (with_ended c.args.txn q))) found c.requires.least in
    let kept : c.before_it-progress.result ≡ before_it (plain_txn_in txns c.args.txn).phase x.processed = c.before_it-progress.ensures ∙ ap (λ ph. before_it ph x.processed) c.phase_of.ensures in
    omega (arith, kept, least, ap (processed_of txns log x.position) c.end.ensures)

pub returns-clause-value : goal.returns-clause-value
returns-clause-value c =
    let x = c.index_mut-progress.result.now in
    set_changed plain_progress (λ (q : PlainProgress). recounted (map plain_txn c.args.txns.now) c.args.log.now (with_ended c.args.txn q)) c.args.replicas.now.items c.args.replica 0 c.args.replica x _ (omega arith) c.requires.known c.index_mut-progress.ensures.value
    (c.recount_one.ensures.value ∙ (λ i. recounted (map plain_txn c.args.txns.now) c.args.log.now record (plain_progress x) { out = None; attempts = c.end.ensures i; touched = c.close.ensures.others i }))

pub returns-clause-room : goal.returns-clause-room
returns-clause-room c = ready_set c.args.replicas.now.items c.args.replica _ (c.recount_one.ensures.room tt) c.requires.room
