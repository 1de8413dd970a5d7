use Rattle.std.proofs.Common.{◌≡◌, ◌<◌, ◌+◌, suc, length, slice_set, sym, subst, arith}
use Rattle.hr_table_engine.proofs.Loops.{so_far, clear_next}
use Rattle.hr_table_engine.proofs.before.drop_kept.Goals as goal

pub slots-preserved : goal.slots-preserved
slots-preserved c =
    let i = c.slots.slot-index in
    let slots = c.slots.slots in
    let all = c.args.slots.now in
    let new = c.drop_slot.new.slot in
    let within : i < length slots = omega (arith, c.slots.auto.slots, c.slots-test.true) in
    let next : i + 1 ≡ suc i = omega arith in
    subst (λ n. slice_set slots i new ≡ so_far c.args.txn n all) (sym next) (clear_next c.args.txn i slots all new c.slot-item.result within c.drop_slot.ensures c.slots.invariant)
