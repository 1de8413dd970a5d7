use Rattle.std.proofs.Common.{◌-◌, if◌then◌else◌, length, map, ap, sym, ◌∙◌, arith}
use Rattle.hr_moves.specs.Changes.{map_from, change_at}
use Rattle.hr_progress.specs.Plain.{PlainTxn, plain_txn, to_given}
use Rattle.hr_progress.proofs.Changed.{set_changed}
use Rattle.hr_progress.proofs.Lookups.{room_at, room_set, txn_found}
use Rattle.hr_progress.proofs.txn.give_if.Goals as goal

pub push_reserved-requires : goal.push_reserved-requires
push_reserved-requires c =
    let txns = c.args.txns.now.items in
    let x = c.index_mut-state.result.now in
    let found = txn_found txns c.args.txn x c.requires.first c.requires.last c.index_mut-state.ensures.value in
    let room = room_at txns (c.args.txn - 1) x (omega (arith, c.requires.first, c.requires.last)) c.index_mut-state.ensures.value c.requires.room in
    omega (arith, c.requires.fits c.if-not-is_given.false, ap (λ (s : PlainTxn). length s.given) found, ap (λ (s : PlainTxn). s.statements) found, x.given.ok.0, room.0)

pub returns-clause-value : goal.returns-clause-value
returns-clause-value c =
    let x = c.index_mut-state.result.now in
    set_changed plain_txn (to_given c.args.given) c.args.txns.now.items (c.args.txn - 1) 1 c.args.txn x _ (omega (arith, c.requires.first)) (omega (arith, c.requires.first, c.requires.last)) c.index_mut-state.ensures.value (λ i. record (plain_txn x) { given = c.push_reserved.ensures.items i })
    ∙ sym (ap (λ b. if b then map_from (change_at c.args.txn (to_given c.args.given)) 1 (map plain_txn c.args.txns.now.items) else map plain_txn c.args.txns.now.items) c.if-not-is_given.false)

pub returns-clause-room : goal.returns-clause-room
returns-clause-room c =
    let txns = c.args.txns.now.items in
    let x = c.index_mut-state.result.now in
    let room = room_at txns (c.args.txn - 1) x (omega (arith, c.requires.first, c.requires.last)) c.index_mut-state.ensures.value c.requires.room in
    room_set txns (c.args.txn - 1) _ (omega (arith, c.push_reserved.ensures.capacity, room.0), room.1) c.requires.room
