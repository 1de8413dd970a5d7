use Rattle.std.proofs.Common.{◌+◌, ◌*◌, ◌<◌, sym, ◌∙◌, arith}
use Rattle.hr_history.specs.Votes.{contradicts}
use Rattle.hr_progress.proofs.Rounds.{find_on}
use Rattle.hr_votes.proofs.Counts.{find_here}
use Rattle.hr_votes.proofs.votes.contradicted_by.Goals as goal

pub returns-then-contradicts : goal.returns-then-contradicts
returns-then-contradicts c =
    let v = c.args.view.now in
    let within : c.replicas.replica < 2 * v.f + 1 = omega (arith, c.replicas-test.true, c.f.ensures.value) in
    sym (find_here (contradicts v c.args.txn) c.replicas.replica (2 * v.f + 1) within (sym c.contradicts.ensures ∙ c.if-contradicts.true)) ∙ c.replicas.invariant

pub replicas-preserved : goal.replicas-preserved
replicas-preserved c =
    let v = c.args.view.now in
    let within : c.replicas.replica < 2 * v.f + 1 = omega (arith, c.replicas-test.true, c.f.ensures.value) in
    sym (find_on (contradicts v c.args.txn) c.replicas.replica (2 * v.f + 1) within (sym c.contradicts.ensures ∙ c.if-contradicts.false)) ∙ c.replicas.invariant
