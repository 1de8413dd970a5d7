use Rattle.std.proofs.Common.{◌-◌, ◌<◌, length, refl, arith}
use Rattle.hr_progress.specs.Plain.{plain_txn, to_phase}
use Rattle.hr_progress.proofs.Changed.{set_changed}
use Rattle.hr_progress.proofs.Lookups.{room_at, room_set}
use Rattle.hr_progress.proofs.txn.set_phase.Goals as goal

pub returns : goal.returns
returns c =
    let state = c.index_mut-state.result.now in
    let within : c.args.txn - 1 < length c.args.txns.now.items = omega (arith, c.requires.first, c.requires.last) in
    record {
      phase = set_changed plain_txn (to_phase c.args.phase) c.args.txns.now.items (c.args.txn - 1) 1 c.args.txn state _ (omega (arith, c.requires.first)) within c.index_mut-state.ensures.value refl;
      room = λ room. room_set c.args.txns.now.items (c.args.txn - 1) _ (room_at c.args.txns.now.items (c.args.txn - 1) state within c.index_mut-state.ensures.value room) room;
    }
