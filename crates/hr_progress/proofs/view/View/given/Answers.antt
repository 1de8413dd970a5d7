use Rattle.std.proofs.Common.{◌≡◌, List, map, length, sym, ap, ◌∙◌, arith}
use Rattle.hr_history.specs.View.{View}
use Rattle.hr_history.specs.Processed.{txn_in}
use Rattle.hr_progress.specs.declared.txn.TxnState as code
use Rattle.hr_progress.specs.Plain.{plain, plain_txn, plain_txn_in}
use Rattle.hr_progress.proofs.Lookups.{few_statements}
use Rattle.hr_progress.proofs.Compared.{given_count, given_few}
use Rattle.hr_progress.proofs.view.View.given.Goals as goal

counted : (c : goal.After-given_of) → length c.given_of.result.now ≡ length (plain_txn_in (plain c.self.inside).txns c.args.txn).given
counted c = ap length (c.given_of.ensures ∙ ap (λ (xs : List code.TxnState). (plain_txn_in (map plain_txn xs) c.args.txn).given) c.deref.ensures.value)

pub overflow_cast-result : goal.overflow_cast-result
overflow_cast-result c = omega (arith, counted c, given_few (plain c.self.inside) c.args.txn c.self.invariant.sane (few_statements c.self.inside.txns.items c.args.txn c.self.invariant.room.given))

pub returns : goal.returns
returns c = counted c ∙ sym (given_count (plain c.self.inside) c.args.txn) ∙ ap (λ (v : View). length (txn_in v c.args.txn).given) c.self.view_is
