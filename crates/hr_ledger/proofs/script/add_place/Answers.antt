use Rattle.std.proofs.Common.{◌-◌, length, ap, arith}
use Rattle.hr_progress.proofs.Changed.{set_changed}
use Rattle.hr_ledger.specs.Kept.{plain_script, and_place}
use Rattle.hr_ledger.proofs.script.add_place.Goals as goal

pub returns : goal.returns
returns c =
    let script = c.index_mut-script.result.now in
    set_changed plain_script (and_place c.args.at) c.args.scripts.now.items (c.args.txn - 1) 1 c.args.txn script _ (omega (arith, c.requires.first)) (omega (arith, c.requires.first, c.requires.last)) c.index_mut-script.ensures.value
    (ap (λ ps. record (plain_script script) { places = ps }) c.push_reserved.ensures.items)
