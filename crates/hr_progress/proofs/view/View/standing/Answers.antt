use Rattle.std.proofs.Common.{map, option_and_then, sym, ap, ◌∙◌}
use Rattle.hr_engine.specs.Waits.{if_all}
use Rattle.hr_history.specs.View.{View}
use Rattle.hr_history.specs.Processed.{standing_in, cycle_in}
use Rattle.hr_progress.specs.Plain.{plain, plain_progress, plain_replica_in}
use Rattle.hr_progress.specs.Seen.{waits_at, runs_since}
use Rattle.hr_progress.proofs.Waiting.{its_last, standing_some, standing_none}
use Rattle.hr_progress.proofs.view.View.standing.Goals as goal

pub returns-in-Some : goal.returns-in-Some
returns-in-Some c =
    let p = plain c.self.inside in
    let r = c.args.replica in
    let t = c.args.txn in
    c.cycle_since.ensures
    ∙ (λ i. option_and_then (if_all (runs_since (plain_replica_in (map plain_progress (c.deref-in-Some-2.ensures.value i)) r).attempts c.in-Some.place)) (cycle_in (waits_at (c.deref-in-Some.ensures.value i) c.in-Some.place)))
    ∙ sym (standing_some p c.self.invariant.places r t c.in-Some.place (its_last c.deref.result.now c.self.inside.replicas.items r t c.last_at.result c.last_at.ensures c.deref.ensures.value ∙ c.in-Some.is)) ∙ ap (λ (v : View). standing_in v r t) c.self.view_is

pub returns-in-None : goal.returns-in-None
returns-in-None c =
    let p = plain c.self.inside in
    let r = c.args.replica in
    let t = c.args.txn in
    sym (standing_none p c.self.invariant.places r t (its_last c.deref.result.now c.self.inside.replicas.items r t c.last_at.result c.last_at.ensures c.deref.ensures.value ∙ c.in-None.is)) ∙ ap (λ (v : View). standing_in v r t) c.self.view_is
