use Rattle.std.proofs.Common.{Option, Some, ap, sym, ◌∙◌, subst}
use Rattle.hr_history.specs.declared.job.Job.{Job}
use Rattle.hr_history.specs.Transactions.{submits}
use Rattle.hr_history.specs.View.{View}
use Rattle.hr_history.specs.Processed.{replica_in}
use Rattle.hr_base.specs.Lists.{numbered}
use Rattle.hr_ledger.specs.Chronicle.{Chronicle, history_in, view_in, HasBegun}
use Rattle.hr_shepherd.specs.Taken.{statement_of}
use Rattle.hr_shepherd.proofs.Lent.{out_here, stmt_found}
use Rattle.hr_shepherd.proofs.shepherd.Shepherd.statement_out.Goals as goal

pub returns-in-Some-Run : goal.returns-in-Some-Run
returns-in-Some-Run c =
    let l = c.args.self.now in
    let r = c.args.replica in
    let t = c.in-Some-Run.txn in
    let i = c.in-Some-Run.index in
    let has = subst HasBegun (c.ledger.ensures ∙ c.deref.ensures ∙ c.self.view_is) c.begun.ensures in
    let here = c.ledger-2.ensures ∙ c.deref-2.ensures ∙ c.self.view_is in
    let out = sym (out_here l r c.requires) ∙ sym (ap (λ (v : View). (replica_in v r).out) (c.view.ensures ∙ ap view_in here)) ∙ sym c.out.ensures ∙ c.in-Some-Run.is ∙ ap Some c.in-Some-Run.field-0-is in
    c.statement.ensures ∙ ap (λ (s : Chronicle). numbered (submits t (history_in s)) i) (c.ledger-in-Some-Run.ensures ∙ c.deref-in-Some-Run.ensures ∙ c.self.view_is)
    ∙ stmt_found l r t i has c.requires out ∙ sym (ap (λ (o : Option Job). statement_of o (history_in l)) out)

pub returns-in-Some-Commit : goal.returns-in-Some-Commit
returns-in-Some-Commit c =
    let l = c.args.self.now in
    let r = c.args.replica in
    let here = c.ledger-2.ensures ∙ c.deref-2.ensures ∙ c.self.view_is in
    let out = sym (out_here l r c.requires) ∙ sym (ap (λ (v : View). (replica_in v r).out) (c.view.ensures ∙ ap view_in here)) ∙ sym c.out.ensures ∙ c.in-Some-Commit.is ∙ ap Some c.in-Some-Commit.field-0-is in
    sym (ap (λ (o : Option Job). statement_of o (history_in l)) out)

pub returns-in-Some-Rollback : goal.returns-in-Some-Rollback
returns-in-Some-Rollback c =
    let l = c.args.self.now in
    let r = c.args.replica in
    let here = c.ledger-2.ensures ∙ c.deref-2.ensures ∙ c.self.view_is in
    let out = sym (out_here l r c.requires) ∙ sym (ap (λ (v : View). (replica_in v r).out) (c.view.ensures ∙ ap view_in here)) ∙ sym c.out.ensures ∙ c.in-Some-Rollback.is ∙ ap Some c.in-Some-Rollback.field-0-is in
    sym (ap (λ (o : Option Job). statement_of o (history_in l)) out)

pub returns-in-Some-Restart : goal.returns-in-Some-Restart
returns-in-Some-Restart c =
    let l = c.args.self.now in
    let r = c.args.replica in
    let here = c.ledger-2.ensures ∙ c.deref-2.ensures ∙ c.self.view_is in
    let out = sym (out_here l r c.requires) ∙ sym (ap (λ (v : View). (replica_in v r).out) (c.view.ensures ∙ ap view_in here)) ∙ sym c.out.ensures ∙ c.in-Some-Restart.is ∙ ap Some c.in-Some-Restart.field-0-is in
    sym (ap (λ (o : Option Job). statement_of o (history_in l)) out)

pub returns-in-None : goal.returns-in-None
returns-in-None c =
    let l = c.args.self.now in
    let r = c.args.replica in
    let here = c.ledger-2.ensures ∙ c.deref-2.ensures ∙ c.self.view_is in
    let out = sym (out_here l r c.requires) ∙ sym (ap (λ (v : View). (replica_in v r).out) (c.view.ensures ∙ ap view_in here)) ∙ sym c.out.ensures ∙ c.in-None.is in
    sym (ap (λ (o : Option Job). statement_of o (history_in l)) out)
