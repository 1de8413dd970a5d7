use Rattle.std.proofs.Common.{◌≡◌, None, map, sym, ap, subst, ◌∙◌, arith}
use Rattle.hr_moves.specs.Kept.{before_it}
use Rattle.hr_progress.specs.Plain.{PlainProgress, plain_txn, plain_progress, plain_txn_in, with_answered}
use Rattle.hr_progress.specs.Kept.{is_run_of, IsLeast, processed_of, recounted, back_to_before}
use Rattle.hr_progress.proofs.Changed.{set_changed}
use Rattle.hr_progress.proofs.Lookups.{replica_found}
use Rattle.hr_progress.proofs.Ready.{ready_at, ready_set, run_ready}
use Rattle.hr_progress.proofs.progress.answer_at.Goals as goal

pub answer-requires : goal.answer-requires
answer-requires c =
    let x = c.index_mut-progress.result.now in
    let found = replica_found c.args.replicas.now.items c.args.replica x c.requires.known c.index_mut-progress.ensures.value in
    (run_ready c.args.txn x.out _ _ _ (sym (ap (λ (q : PlainProgress). is_run_of c.args.txn q.out) found) ∙ c.requires.out) (ready_at c.args.replicas.now.items c.args.replica x c.requires.known c.index_mut-progress.ensures.value c.requires.room)).1

pub mark-requires : goal.mark-requires
mark-requires c =
    let x = c.index_mut-progress.result.now in
    let found = replica_found c.args.replicas.now.items c.args.replica x c.requires.known c.index_mut-progress.ensures.value in
    (run_ready c.args.txn x.out _ _ _ (sym (ap (λ (q : PlainProgress). is_run_of c.args.txn q.out) found) ∙ c.requires.out) (ready_at c.args.replicas.now.items c.args.replica x c.requires.known c.index_mut-progress.ensures.value c.requires.room)).0

pub recount_one-requires : goal.recount_one-requires
recount_one-requires c =
    let x = c.index_mut-progress.result.now in
    let found = replica_found c.args.replicas.now.items c.args.replica x c.requires.known c.index_mut-progress.ensures.value in
    let txns = (map plain_txn c.args.txns.now) in
    let log = c.args.log.now in
    let least = subst (λ (q : PlainProgress). IsLeast txns log (back_to_before txns c.args.txn (with_answered c.args.txn c.args.told c.args.newest q))) found c.requires.least in
    let kept : c.before_it-progress.result ≡ before_it (plain_txn_in txns c.args.txn).phase x.processed = c.before_it-progress.ensures ∙ ap (λ ph. before_it ph x.processed) c.phase_of.ensures in
    omega (arith, kept, least, ap (processed_of txns log x.position) c.answer.ensures)

pub returns-clause-value : goal.returns-clause-value
returns-clause-value c =
    let x = c.index_mut-progress.result.now in
    set_changed plain_progress (λ (q : PlainProgress). recounted (map plain_txn c.args.txns.now) c.args.log.now (with_answered c.args.txn c.args.told c.args.newest q)) c.args.replicas.now.items c.args.replica 0 c.args.replica x _ (omega arith) c.requires.known c.index_mut-progress.ensures.value
    (c.recount_one.ensures.value ∙ (λ i. recounted (map plain_txn c.args.txns.now) c.args.log.now record (plain_progress x) { out = None; attempts = c.answer.ensures i; touched = c.mark.ensures i }))

pub returns-clause-room : goal.returns-clause-room
returns-clause-room c = ready_set c.args.replicas.now.items c.args.replica _ (c.recount_one.ensures.room tt) c.requires.room
