use Rattle.std.proofs.Common.{◌≡◌, ◌≤◌, ◌<◌, ℕ, ◌-◌, ◌+◌, Option, List, map, length, unwrap_or, slice_index_or, refl, ap, ◌∙◌, arith}
use Rattle.hr_base.specs.declared.limits.TheConstants.{MAX_STATEMENTS}
use Rattle.std.specs.Option.{option_map}
use Rattle.std.proofs.lemmas.Option.{slice_get_read}
use Rattle.hr_progress.specs.declared.txn.TxnState.{TxnState}
use Rattle.hr_progress.specs.Plain.{PlainTxn, plain_txn, plain_txn_in, with_statement, no_txn}
use Rattle.hr_progress.proofs.Changed.{set_changed}
use Rattle.hr_progress.proofs.Lookups.{on_err, txn_at, set_same, room_at, room_set}
use Rattle.hr_progress.proofs.txn.add_statement.Goals as goal

few_here : (xs : List TxnState) (t : ℕ) (x : TxnState) → 1 ≤ t → t ≤ length xs → x ≡ slice_index_or xs (t - 1) x → (plain_txn_in (map plain_txn xs) t).statements < MAX_STATEMENTS → x.statements < MAX_STATEMENTS
few_here xs t x first last at few =
    let here = ap (λ (s : PlainTxn). s.statements) (txn_at xs t (λ e. omega (arith, e, first)))
    ∙ ap (λ (o : Option TxnState). (unwrap_or (option_map plain_txn o) no_txn).statements) (slice_get_read xs (length xs) (t - 1) x refl (omega (arith, first, last)) at) in
    omega (arith, here, few)

pub overflow_add-statements : goal.overflow_add-statements
overflow_add-statements c = omega (arith, few_here c.args.txns.now.items c.args.txn c.index_mut-state.result.now c.requires.first c.requires.last c.index_mut-state.ensures.value c.requires.few)

pub returns-in_err-reserve-clause-err : goal.returns-in_err-reserve-clause-err
returns-in_err-reserve-clause-err c =
    let state = c.index_mut-state.result.now in
    on_err c.from_residual.result (set_same plain_txn c.args.txns.now.items (c.args.txn - 1) state _ (omega (arith, c.requires.first, c.requires.last)) c.index_mut-state.ensures.value
    (ap (λ gs. record (plain_txn state) { given = gs }) c.reserve.ensures.items))

pub returns-in_err-reserve-clause-room : goal.returns-in_err-reserve-clause-room
returns-in_err-reserve-clause-room c = λ room.
    let txns = c.args.txns.now.items in
    let state = c.index_mut-state.result.now in
    let here = room_at txns (c.args.txn - 1) state (omega (arith, c.requires.first, c.requires.last)) c.index_mut-state.ensures.value room in
    room_set txns (c.args.txn - 1) _ (omega (arith, c.reserve.ensures.capacity, here.0), here.1) room

pub returns-clause-ok : goal.returns-clause-ok
returns-clause-ok c =
    let state = c.index_mut-state.result.now in
    set_changed plain_txn with_statement c.args.txns.now.items (c.args.txn - 1) 1 c.args.txn state _ (omega (arith, c.requires.first)) (omega (arith, c.requires.first, c.requires.last)) c.index_mut-state.ensures.value
    (ap (λ gs. record (plain_txn state) { statements = state.statements + 1; given = gs }) c.reserve.ensures.items)

pub returns-clause-room : goal.returns-clause-room
returns-clause-room c = λ room.
    let few = few_here c.args.txns.now.items c.args.txn c.index_mut-state.result.now c.requires.first c.requires.last c.index_mut-state.ensures.value c.requires.few in
    room_set c.args.txns.now.items (c.args.txn - 1) _ (omega (arith, c.in_ok-reserve.ensures.ok), omega (arith, few)) room
