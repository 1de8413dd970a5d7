use Rattle.std.proofs.Common.{◌≡◌, ◌+◌, ◌*◌, ◌<◌, sym, ◌∙◌, arith}
use Rattle.hr_history.specs.Rules.{conviction_of}
use Rattle.hr_due.specs.FollowUps.{event_of}
use Rattle.hr_due.specs.Turns.{turn_in}
use Rattle.hr_due.proofs.Orders.{first_here, first_on}
use Rattle.hr_due.proofs.convictions.convict.Goals as goal

pub returns-in-Some : goal.returns-in-Some
returns-in-Some c =
    let v = c.args.view.now in
    let within : c.replicas.replica < 2 * v.f + 1 = omega (arith, c.replicas-test.true, c.f.ensures.value) in
    sym (first_here (conviction_of v (turn_in c.args.turn.now)) c.replicas.replica (2 * v.f + 1) (event_of c.in-Some.next) within (sym c.in-Some.ensures)) ∙ c.replicas.invariant

pub replicas-preserved : goal.replicas-preserved
replicas-preserved c =
    let v = c.args.view.now in
    let within : c.replicas.replica < 2 * v.f + 1 = omega (arith, c.replicas-test.true, c.f.ensures.value) in
    sym (first_on (conviction_of v (turn_in c.args.turn.now)) c.replicas.replica (2 * v.f + 1) within (sym c.in-None.ensures)) ∙ c.replicas.invariant
