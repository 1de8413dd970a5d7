use Rattle.std.proofs.Common.{◌-◌, Option, length, unwrap_or, refl, ap, sym, ◌∙◌}
use Rattle.std.specs.Option.{option_map}
use Rattle.std.proofs.lemmas.Option.{slice_get_read, slice_get_past}
use Rattle.hr_progress.specs.declared.txn.TxnState.{TxnState}
use Rattle.hr_progress.specs.Plain.{PlainTxn, plain_txn, no_txn}
use Rattle.hr_progress.proofs.Lookups.{txn_at}
use Rattle.hr_progress.proofs.txn.given_of.Goals as goal

pub returns-in-Some : goal.returns-in-Some
returns-in-Some c =
    let txns = c.args.txns.now in
    c.deref.ensures.value ∙ sym (ap (λ (t : PlainTxn). t.given) (txn_at txns c.args.txn c.if-txn-eq0.false)
    ∙ ap (λ (o : Option TxnState). (unwrap_or (option_map plain_txn o) no_txn).given) (slice_get_read txns (length txns) (c.args.txn - 1) c.in-Some.state.now refl c.in-Some.ensures.lookup.3.0 c.in-Some.ensures.lookup.1))

pub returns-in-None : goal.returns-in-None
returns-in-None c =
    let txns = c.args.txns.now in
    sym (ap (λ (t : PlainTxn). t.given) (txn_at txns c.args.txn c.if-txn-eq0.false)
    ∙ ap (λ (o : Option TxnState). (unwrap_or (option_map plain_txn o) no_txn).given) (slice_get_past txns (c.args.txn - 1) c.in-None.ensures.lookup.3))
