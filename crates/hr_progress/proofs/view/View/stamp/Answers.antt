use Rattle.std.proofs.Common.{List, map, sym, ap, ◌∙◌}
use Rattle.std.specs.Option.{option_map}
use Rattle.hr_base.specs.Lists.{numbered}
use Rattle.hr_history.specs.Given as history
use Rattle.hr_history.specs.View.{TxnState}
use Rattle.hr_history.specs.Processed.{txn_in}
use Rattle.hr_progress.specs.declared.txn.Given.{Given}
use Rattle.hr_progress.specs.declared.txn.TxnState as code
use Rattle.hr_progress.specs.Plain.{plain, plain_txn, plain_txn_in}
use Rattle.hr_progress.proofs.Parts.{txn_seen}
use Rattle.hr_progress.proofs.Stamps.{stamp_seen}
use Rattle.hr_progress.proofs.view.View.stamp.Goals as goal

pub returns : goal.returns
returns c =
    let p = plain c.self.inside in
    let t = c.args.txn in
    let shown = λ (gs : List Given). option_map (λ (g : Given). g.stamp) (numbered gs c.args.index) in
    let seen = λ (gs : List history.Given). option_map (λ (g : history.Given). g.stamp) (numbered gs c.args.index) in
    c.stamp_at.ensures ∙ ap shown (c.given_of.ensures ∙ ap (λ (xs : List code.TxnState). (plain_txn_in (map plain_txn xs) t).given) c.deref.ensures.value)
    ∙ sym (ap (λ (x : TxnState). seen x.given) (txn_seen p t) ∙ stamp_seen p.replies (plain_txn_in p.txns t).given c.args.index)
    ∙ ap (λ v. seen (txn_in v t).given) c.self.view_is
