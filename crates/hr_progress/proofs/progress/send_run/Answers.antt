use Rattle.std.proofs.Common.{◌≤◌, Some, length, ap, sym, ◌∙◌, subst, arith}
use Rattle.std.proofs.lemmas.List.{length-map}
use Rattle.hr_base.specs.declared.limits.TheConstants.{MAX_SUBMITS}
use Rattle.hr_history.specs.declared.job.Job.TheVariants as job
use Rattle.hr_progress.specs.Plain.{PlainProgress, plain_entry, plain_progress, and_entry, with_run}
use Rattle.hr_progress.proofs.Changed.{set_changed}
use Rattle.hr_progress.proofs.Lookups.{on_err, set_same, replica_found}
use Rattle.hr_progress.proofs.Ready.{ready_set, ready_free}
use Rattle.hr_progress.proofs.progress.send_run.Goals as goal

pub returns-in_err-reserve-clause-err : goal.returns-in_err-reserve-clause-err
returns-in_err-reserve-clause-err c =
    let x = c.index_mut-progress.result.now in
    on_err c.from_residual.result (set_same plain_progress c.args.replicas.now.items c.args.replica x _ c.requires.known c.index_mut-progress.ensures.value (λ i. record (plain_progress x) { touched = c.reserve.ensures.items i }))

pub returns-in_err-reserve-clause-room : goal.returns-in_err-reserve-clause-room
returns-in_err-reserve-clause-room c =
    let x = c.index_mut-progress.result.now in
    let found = replica_found c.args.replicas.now.items c.args.replica x c.requires.known c.index_mut-progress.ensures.value in
    ready_set c.args.replicas.now.items c.args.replica _ (ready_free x.out _ _ _ (sym (ap (λ (q : PlainProgress). q.out) found) ∙ c.requires.free)) c.requires.room

pub prepare-requires : goal.prepare-requires
prepare-requires c =
    let x = c.index_mut-progress.result.now in
    let found = replica_found c.args.replicas.now.items c.args.replica x c.requires.known c.index_mut-progress.ensures.value in
    omega (arith, c.requires.few, ap (λ (q : PlainProgress). length q.attempts) found, length-map x.attempts.entries plain_entry)

pub returns-in_err-prepare-clause-err : goal.returns-in_err-prepare-clause-err
returns-in_err-prepare-clause-err c =
    let x = c.index_mut-progress.result.now in
    on_err c.from_residual-in_err-prepare.result (set_same plain_progress c.args.replicas.now.items c.args.replica x _ c.requires.known c.index_mut-progress.ensures.value (λ i. record (plain_progress x) { touched = c.reserve.ensures.items i; attempts = c.in_err-prepare.ensures.err i }))

pub returns-in_err-prepare-clause-room : goal.returns-in_err-prepare-clause-room
returns-in_err-prepare-clause-room c =
    let x = c.index_mut-progress.result.now in
    let found = replica_found c.args.replicas.now.items c.args.replica x c.requires.known c.index_mut-progress.ensures.value in
    ready_set c.args.replicas.now.items c.args.replica _ (ready_free x.out _ _ _ (sym (ap (λ (q : PlainProgress). q.out) found) ∙ c.requires.free)) c.requires.room

pub returns-clause-ok : goal.returns-clause-ok
returns-clause-ok c =
    let x = c.index_mut-progress.result.now in
    set_changed plain_progress (with_run c.args.txn c.args.index) c.args.replicas.now.items c.args.replica 0 c.args.replica x _ (omega arith) c.requires.known c.index_mut-progress.ensures.value
    (λ i. record (plain_progress x) { touched = c.reserve.ensures.items i; attempts = c.in_ok-prepare.ensures.ok i; out = Some (job.Run c.args.txn c.args.index) })

pub returns-clause-few : goal.returns-clause-few
returns-clause-few c =
    let x = c.index_mut-progress.result.now in
    let found = replica_found c.args.replicas.now.items c.args.replica x c.requires.known c.index_mut-progress.ensures.value in
    subst (λ (q : PlainProgress). length (and_entry c.args.txn q.attempts) ≤ MAX_SUBMITS) (sym found)
    (omega (arith, c.in_ok-prepare.ensures.few, ap length c.in_ok-prepare.ensures.ok, length-map c.prepare.new.attempts.entries plain_entry))

pub returns-clause-room : goal.returns-clause-room
returns-clause-room c = ready_set c.args.replicas.now.items c.args.replica _ (omega (arith, c.in_ok-reserve.ensures.ok), c.in_ok-prepare.ensures.room) c.requires.room
