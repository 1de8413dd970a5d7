use Rattle.std.proofs.Common.{List, map, sym, ap, ◌∙◌, arith}
use Rattle.hr_history.specs.View.{TxnState}
use Rattle.hr_history.specs.Processed.{txn_in}
use Rattle.hr_progress.specs.declared.txn.TxnState as code
use Rattle.hr_progress.specs.Plain.{plain, plain_txn, plain_txn_in}
use Rattle.hr_progress.proofs.Lookups.{few_statements}
use Rattle.hr_progress.proofs.Parts.{txn_seen}
use Rattle.hr_progress.proofs.view.View.statements.Goals as goal

pub returns-clause-value : goal.returns-clause-value
returns-clause-value c =
    let t = c.args.txn in
    c.statements_of.ensures ∙ ap (λ (xs : List code.TxnState). (plain_txn_in (map plain_txn xs) t).statements) c.deref.ensures.value
    ∙ sym (ap (λ (x : TxnState). x.statements) (txn_seen (plain c.self.inside) t)) ∙ ap (λ v. (txn_in v t).statements) c.self.view_is

pub returns-clause-few : goal.returns-clause-few
returns-clause-few c =
    let t = c.args.txn in
    omega (arith, few_statements c.self.inside.txns.items t c.self.invariant.room.given, c.statements_of.ensures ∙ ap (λ (xs : List code.TxnState). (plain_txn_in (map plain_txn xs) t).statements) c.deref.ensures.value)
