use Rattle.std.proofs.Common.{◌≡◌, ◌==◌, if◌then◌else◌, Some, [], ◌∷◌, ◌++◌, sym, ap, ◌∙◌}
use Rattle.hr_locks.specs.Waits.{wait_in, wait_seen, pairs, seen_waits, waits_of_others}
use Rattle.hr_locks.specs.Grants.{wait_given}
use Rattle.hr_locks.specs.Seen.{waiter_of}
use Rattle.hr_locks.proofs.WaitLemmas.{kept_wait, put_wait_in, dropped_wait}
use Rattle.hr_locks.proofs.answer.carry_out.Goals as goal

pub returns-in_ok-put_locks-in-Granted-clause-waits :
    goal.returns-in_ok-put_locks-in-Granted-clause-waits
returns-in_ok-put_locks-in-Granted-clause-waits g c = λ t.
    let ws = c.args.waits.now.items in
    let txn = c.args.txn in
    ap (λ v. wait_seen (Some txn) v t) (c.drop_kept_back.ensures ∙ ap (λ k. seen_waits k ws) c.waiter_of-kept_back.ensures)
    ∙ kept_wait (waiter_of c.args.last) txn ws t
    ∙ ap (λ v. if t == txn then wait_given v else wait_seen (waiter_of c.args.last) ws t) (sym c.in-Granted.is)

pub returns-in_ok-put_wait-in-Blocked-clause-waits :
    goal.returns-in_ok-put_wait-in-Blocked-clause-waits
returns-in_ok-put_wait-in-Blocked-clause-waits g c = λ t.
    let ws = c.args.waits.now.items in
    let txn = c.args.txn in
    let put : pairs c.put_wait.new.waits.items ≡ pairs (waits_of_others (waiter_of c.args.last) txn ws) ++ (txn, c.in-Blocked.named.items) ∷ [] =
    c.in_ok-put_wait-in-Blocked.ensures.put
    ∙ ap (λ k. pairs (waits_of_others k txn ws) ++ (txn, c.deref.result.now) ∷ []) c.waiter_of-kept_back.ensures
    ∙ ap (λ v. pairs (waits_of_others (waiter_of c.args.last) txn ws) ++ (txn, v) ∷ []) c.deref.ensures.value in
    put_wait_in (waiter_of c.args.last) txn c.in-Blocked.named.items ws c.put_wait.new.waits.items t put
    ∙ ap (λ v. if t == txn then wait_given v else wait_seen (waiter_of c.args.last) ws t) (sym c.in-Blocked.is)

pub returns-in-Deadlock-clause-waits : goal.returns-in-Deadlock-clause-waits
returns-in-Deadlock-clause-waits g c = λ t.
    let ws = c.args.waits.now.items in
    let txn = c.args.txn in
    ap (λ v. wait_in v t) (c.drop_wait.ensures.others ∙ ap (λ k. waits_of_others k txn ws) c.waiter_of-kept_back.ensures)
    ∙ dropped_wait (waiter_of c.args.last) txn ws t
    ∙ ap (λ v. if t == txn then wait_given v else wait_seen (waiter_of c.args.last) ws t) (sym c.in-Deadlock.is)
