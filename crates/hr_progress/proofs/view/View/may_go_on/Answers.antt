use Rattle.std.proofs.Common.{◌&&◌, not, List, is_none, map, option_and_then, sym, ap, ◌∙◌}
use Rattle.std.specs.List.{list_any}
use Rattle.hr_engine.specs.Waits.{if_all}
use Rattle.hr_engine.specs.declared.reply.RunReply.{RunReply}
use Rattle.hr_history.specs.View.{View}
use Rattle.hr_history.specs.Processed.{named_in, cycle_in}
use Rattle.hr_history.specs.Jobs.{may_go_on}
use Rattle.hr_progress.specs.Plain.{plain, plain_progress, plain_replica_in}
use Rattle.hr_progress.specs.Seen.{waits_at, runs_since}
use Rattle.hr_progress.proofs.Waiting.{none_seen, its_last, go_on_some, go_on_none}
use Rattle.hr_progress.proofs.view.View.may_go_on.Goals as goal

pub returns-then-not-any_runs_since : goal.returns-then-not-any_runs_since
returns-then-not-any_runs_since c =
    let p = plain c.self.inside in
    let r = c.args.replica in
    let t = c.args.txn in
    let any = c.any_runs_since.ensures ∙ (λ i. list_any (runs_since (plain_replica_in (map plain_progress (c.deref-in-Some.ensures.value i)) r).attempts c.in-Some.place) (c.named_at.ensures i))
    ∙ ap (λ (rs : List RunReply). list_any (runs_since (plain_replica_in p.replicas r).attempts c.in-Some.place) (named_in (waits_at rs c.in-Some.place))) c.deref-in-Some-2.ensures.value in
    let cycle = option_and_then (if_all (runs_since (plain_replica_in p.replicas r).attempts c.in-Some.place)) (cycle_in (waits_at p.replies c.in-Some.place)) in
    let seen = c.cycle_since.ensures
    ∙ (λ i. option_and_then (if_all (runs_since (plain_replica_in (map plain_progress (c.deref-then-not-any_runs_since-2.ensures.value i)) r).attempts c.in-Some.place)) (cycle_in (waits_at (c.deref-then-not-any_runs_since.ensures.value i) c.in-Some.place))) in
    none_seen _ c.cycle_since.result cycle c.is_none.result c.is_none.ensures seen
    ∙ sym (go_on_some p c.self.invariant.places r t c.in-Some.place (its_last c.deref.result.now c.self.inside.replicas.items r t c.last_at.result c.last_at.ensures c.deref.ensures.value ∙ c.in-Some.is) ∙ ap (λ b. not b && is_none cycle) (sym any ∙ c.if-not-any_runs_since.true))
    ∙ ap (λ (v : View). may_go_on v r t) c.self.view_is

pub returns-else-not-any_runs_since : goal.returns-else-not-any_runs_since
returns-else-not-any_runs_since c =
    let p = plain c.self.inside in
    let r = c.args.replica in
    let t = c.args.txn in
    let any = c.any_runs_since.ensures ∙ (λ i. list_any (runs_since (plain_replica_in (map plain_progress (c.deref-in-Some.ensures.value i)) r).attempts c.in-Some.place) (c.named_at.ensures i))
    ∙ ap (λ (rs : List RunReply). list_any (runs_since (plain_replica_in p.replicas r).attempts c.in-Some.place) (named_in (waits_at rs c.in-Some.place))) c.deref-in-Some-2.ensures.value in
    let cycle = option_and_then (if_all (runs_since (plain_replica_in p.replicas r).attempts c.in-Some.place)) (cycle_in (waits_at p.replies c.in-Some.place)) in
    ap not c.if-not-any_runs_since.false ∙ sym (go_on_some p c.self.invariant.places r t c.in-Some.place (its_last c.deref.result.now c.self.inside.replicas.items r t c.last_at.result c.last_at.ensures c.deref.ensures.value ∙ c.in-Some.is) ∙ ap (λ b. not b && is_none cycle) (sym any ∙ c.if-not-any_runs_since.false))
    ∙ ap (λ (v : View). may_go_on v r t) c.self.view_is

pub returns-in-None : goal.returns-in-None
returns-in-None c =
    let p = plain c.self.inside in
    let r = c.args.replica in
    let t = c.args.txn in
    sym (go_on_none p c.self.invariant.places r t (its_last c.deref.result.now c.self.inside.replicas.items r t c.last_at.result c.last_at.ensures c.deref.ensures.value ∙ c.in-None.is)) ∙ ap (λ (v : View). may_go_on v r t) c.self.view_is
