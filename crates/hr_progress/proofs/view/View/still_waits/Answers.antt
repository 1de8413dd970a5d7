use Rattle.std.proofs.Common.{◌&&◌, ◌||◌, ◌==◌, ◌+◌, ◌<◌, List, map, length, sym, ap, subst, ◌∙◌}
use Rattle.hr_base.specs.Lists.{has}
use Rattle.hr_engine.specs.declared.reply.RunReply.{RunReply}
use Rattle.hr_history.specs.View.{View, is_fresh}
use Rattle.hr_history.specs.Processed.{wait_in, named_in}
use Rattle.hr_progress.specs.declared.progress.Progress as code
use Rattle.hr_progress.specs.Plain.{plain, plain_progress, plain_replica_in}
use Rattle.hr_progress.specs.Seen.{waits_at, runs_since}
use Rattle.hr_progress.proofs.Waiting.{its_last, wait_some, wait_none, place_within}
use Rattle.hr_progress.proofs.view.View.still_waits.Goals as goal

pub is_newest-requires : goal.is_newest-requires
is_newest-requires c =
    let r = c.args.replica in
    let t = c.args.txn in
    subst (λ (rs : List RunReply). c.in-Some.place < length rs) (sym c.deref-then-is_among.ensures.value) (place_within (plain c.self.inside) c.self.invariant.places r t c.in-Some.place (its_last c.deref.result.now c.self.inside.replicas.items r t c.last_at.result c.last_at.ensures c.deref.ensures.value ∙ c.in-Some.is))

pub returns-then-is_newest : goal.returns-then-is_newest
returns-then-is_newest c =
    let p = plain c.self.inside in
    let r = c.args.replica in
    let t = c.args.txn in
    let named = c.is_among.ensures ∙ ap (λ ts. has ts c.args.other) (c.named_at.ensures ∙ ap (λ (rs : List RunReply). named_in (waits_at rs c.in-Some.place)) c.deref-in-Some.ensures.value) in
    let newest = c.is_newest.ensures ∙ ap (λ (rs : List RunReply). is_fresh c.self.inside.fresh r t && (c.in-Some.place + 1 == length rs)) c.deref-then-is_among.ensures.value in
    c.if-is_newest.true ∙ sym (wait_some p c.self.invariant.places r t c.in-Some.place (its_last c.deref.result.now c.self.inside.replicas.items r t c.last_at.result c.last_at.ensures c.deref.ensures.value ∙ c.in-Some.is) c.args.other
    ∙ (λ i. (sym named ∙ c.if-is_among.true) i && ((sym newest ∙ c.if-is_newest.true) i || runs_since (plain_replica_in p.replicas r).attempts c.in-Some.place c.args.other)))
    ∙ ap (λ (v : View). has (wait_in v r t) c.args.other) c.self.view_is

pub returns-else-is_newest : goal.returns-else-is_newest
returns-else-is_newest c =
    let p = plain c.self.inside in
    let r = c.args.replica in
    let t = c.args.txn in
    let named = c.is_among.ensures ∙ ap (λ ts. has ts c.args.other) (c.named_at.ensures ∙ ap (λ (rs : List RunReply). named_in (waits_at rs c.in-Some.place)) c.deref-in-Some.ensures.value) in
    let newest = c.is_newest.ensures ∙ ap (λ (rs : List RunReply). is_fresh c.self.inside.fresh r t && (c.in-Some.place + 1 == length rs)) c.deref-then-is_among.ensures.value in
    c.runs_since.ensures ∙ ap (λ (qs : List code.Progress). runs_since (plain_replica_in (map plain_progress qs) r).attempts c.in-Some.place c.args.other) c.deref-else-is_newest.ensures.value
    ∙ sym (wait_some p c.self.invariant.places r t c.in-Some.place (its_last c.deref.result.now c.self.inside.replicas.items r t c.last_at.result c.last_at.ensures c.deref.ensures.value ∙ c.in-Some.is) c.args.other
    ∙ (λ i. (sym named ∙ c.if-is_among.true) i && ((sym newest ∙ c.if-is_newest.false) i || runs_since (plain_replica_in p.replicas r).attempts c.in-Some.place c.args.other)))
    ∙ ap (λ (v : View). has (wait_in v r t) c.args.other) c.self.view_is

pub returns-else-is_among : goal.returns-else-is_among
returns-else-is_among c =
    let p = plain c.self.inside in
    let r = c.args.replica in
    let t = c.args.txn in
    let named = c.is_among.ensures ∙ ap (λ ts. has ts c.args.other) (c.named_at.ensures ∙ ap (λ (rs : List RunReply). named_in (waits_at rs c.in-Some.place)) c.deref-in-Some.ensures.value) in
    c.if-is_among.false ∙ sym (wait_some p c.self.invariant.places r t c.in-Some.place (its_last c.deref.result.now c.self.inside.replicas.items r t c.last_at.result c.last_at.ensures c.deref.ensures.value ∙ c.in-Some.is) c.args.other
    ∙ (λ i. (sym named ∙ c.if-is_among.false) i && (is_fresh p.fresh r t && (c.in-Some.place + 1 == length p.replies) || runs_since (plain_replica_in p.replicas r).attempts c.in-Some.place c.args.other)))
    ∙ ap (λ (v : View). has (wait_in v r t) c.args.other) c.self.view_is

pub returns-in-None : goal.returns-in-None
returns-in-None c =
    let p = plain c.self.inside in
    let r = c.args.replica in
    let t = c.args.txn in
    sym (ap (λ ts. has ts c.args.other) (wait_none p c.self.invariant.places r t (its_last c.deref.result.now c.self.inside.replicas.items r t c.last_at.result c.last_at.ensures c.deref.ensures.value ∙ c.in-None.is))) ∙ ap (λ (v : View). has (wait_in v r t) c.args.other) c.self.view_is
