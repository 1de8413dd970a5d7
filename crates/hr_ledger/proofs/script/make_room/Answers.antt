use Rattle.std.proofs.Common.{◌-◌, ◌<◌, length, ap, arith}
use Rattle.hr_progress.proofs.Lookups.{set_same}
use Rattle.hr_ledger.specs.Kept.{plain_script}
use Rattle.hr_ledger.proofs.Scripts.{room_set}
use Rattle.hr_ledger.proofs.script.make_room.Goals as goal

pub returns-in_err-reserve-clause-same : goal.returns-in_err-reserve-clause-same
returns-in_err-reserve-clause-same c =
    let script = c.index_mut-script.result.now in
    set_same plain_script c.args.scripts.now.items (c.args.txn - 1) script _ (omega (arith, c.requires.first, c.requires.last)) c.index_mut-script.ensures.value
    (ap (λ ps. record (plain_script script) { places = ps }) c.reserve.ensures.items)

pub returns-clause-same : goal.returns-clause-same
returns-clause-same c =
    let script = c.index_mut-script.result.now in
    set_same plain_script c.args.scripts.now.items (c.args.txn - 1) script _ (omega (arith, c.requires.first, c.requires.last)) c.index_mut-script.ensures.value
    (ap (λ ps. record (plain_script script) { places = ps }) c.reserve.ensures.items)

pub returns-clause-room : goal.returns-clause-room
returns-clause-room c = room_set c.args.scripts.now.items (c.args.txn - 1) _ (omega (arith, c.requires.first, c.requires.last)) (omega (arith, c.in_ok-reserve.ensures.ok))
