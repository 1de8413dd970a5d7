use Rattle.std.proofs.Common.{◌≡◌, ◌<◌, ◌+◌, suc, length, slice_set, sym, subst, arith}
use Rattle.hr_locks.specs.Waits.{pairs}
use Rattle.hr_locks.proofs.WaitLemmas.{so_far, forget_one}
use Rattle.hr_locks.proofs.changes.forget.Goals as goal

pub waits-preserved : goal.waits-preserved
waits-preserved c =
    let i = c.waits.wait-index in
    let ws = c.waits.waits in
    let all = pairs c.args.waits.now in
    let new = c.drop_name.new.wait in
    let w = c.wait-item.result in
    let within : i < length ws = omega (arith, c.waits.auto.waits, c.waits-test.true) in
    let next : i + 1 ≡ suc i = omega arith in
    subst (λ n. pairs (slice_set ws i new) ≡ so_far c.args.txn n all) (sym next)
    (forget_one c.args.txn i ws all new w within
    c.drop_name.ensures.waiter c.drop_name.ensures.names
    c.waits.invariant)
