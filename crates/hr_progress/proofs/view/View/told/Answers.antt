use Rattle.std.proofs.Common.{List, sym, ap, ◌∙◌}
use Rattle.hr_base.specs.Lists.{has}
use Rattle.hr_engine.specs.declared.reply.RunReply.{RunReply}
use Rattle.hr_history.specs.View.{View}
use Rattle.hr_history.specs.Processed.{wait_in, named_in}
use Rattle.hr_progress.specs.Plain.{plain}
use Rattle.hr_progress.specs.Seen.{waits_at}
use Rattle.hr_progress.proofs.Rests.{first_of}
use Rattle.hr_progress.proofs.Waiting.{its_last, wait_some, wait_none}
use Rattle.hr_progress.proofs.view.View.told.Goals as goal

pub returns-in-Some : goal.returns-in-Some
returns-in-Some c = λ u waits.
    let p = plain c.self.inside in
    let r = c.args.replica in
    let t = c.args.txn in
    let now = ap (λ (v : View). has (wait_in v r t) u) c.self.view_is ∙ waits in
    ap (λ ts. has ts u) (c.named_at.ensures ∙ ap (λ (rs : List RunReply). named_in (waits_at rs c.in-Some.place)) c.deref-in-Some.ensures.value)
    ∙ first_of _ _ (sym (wait_some p c.self.invariant.places r t c.in-Some.place (its_last c.deref.result.now c.self.inside.replicas.items r t c.last_at.result c.last_at.ensures c.deref.ensures.value ∙ c.in-Some.is) u) ∙ now)

pub returns-in-None : goal.returns-in-None
returns-in-None c = λ u waits.
    let p = plain c.self.inside in
    let r = c.args.replica in
    let t = c.args.txn in
    sym (ap (λ ts. has ts u) (wait_none p c.self.invariant.places r t (its_last c.deref.result.now c.self.inside.replicas.items r t c.last_at.result c.last_at.ensures c.deref.ensures.value ∙ c.in-None.is))) ∙ ap (λ (v : View). has (wait_in v r t) u) c.self.view_is ∙ waits
