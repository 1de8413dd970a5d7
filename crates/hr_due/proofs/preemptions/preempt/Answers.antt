use Rattle.std.proofs.Common.{◌≡◌, ◌+◌, ◌*◌, ◌<◌, ◌≤◌, sym, ◌∙◌, arith}
use Rattle.hr_history.specs.Rules.{preemption_at}
use Rattle.hr_history.specs.Turn.{Turn}
use Rattle.hr_due.specs.FollowUps.{event_of}
use Rattle.hr_due.proofs.Orders.{first_here, first_on, first_end}
use Rattle.hr_due.proofs.preemptions.preempt.Goals as goal

pub returns-in-Some : goal.returns-in-Some
returns-in-Some c = λ (turn : Turn).
    let v = c.args.view.now in
    let within : c.replicas.replica < 2 * v.f + 1 = omega (arith, c.replicas-test.true, c.f.ensures.value) in
    sym (first_here (preemption_at v turn) c.replicas.replica (2 * v.f + 1) (event_of c.in-Some.next) within (sym (c.in-Some.ensures turn))) ∙ c.replicas.invariant turn

pub replicas-preserved : goal.replicas-preserved
replicas-preserved c = λ (turn : Turn).
    let v = c.args.view.now in
    let within : c.replicas.replica < 2 * v.f + 1 = omega (arith, c.replicas-test.true, c.f.ensures.value) in
    sym (first_on (preemption_at v turn) c.replicas.replica (2 * v.f + 1) within (sym (c.in-None.ensures turn))) ∙ c.replicas.invariant turn

pub returns : goal.returns
returns c = λ (turn : Turn).
    let v = c.args.view.now in
    let past : 2 * v.f + 1 ≤ c.replicas.replica = omega (arith, c.replicas-test.false, c.f.ensures.value) in
    sym (first_end (preemption_at v turn) c.replicas.replica (2 * v.f + 1) past) ∙ c.replicas.invariant turn
