use Rattle.std.proofs.Common.{◌≡◌, ℕ, suc, ◌+◌, drop, subst, arith}
use Rattle.hr_problem.specs.Problems.{least}
use Rattle.hr_problem.specs.Sooner.{sooner}
use Rattle.hr_check.specs.Statements.{values_problems}
use Rattle.hr_check.proofs.Parts.{values_step}
use Rattle.hr_check.proofs.insert.values_problem.Goals as goal

-- one value more
pub loop-place-preserved : goal.loop-place-preserved
loop-place-preserved c =
    let columns = c.args.columns.now in
    let names = c.args.names.now in
    let values = c.args.values.now in
    let n = c.loop-place.place in
    let more : suc n ≡ n + 1 = omega arith in
    subst (λ (m : ℕ). sooner c.sooner-found.result (least (values_problems columns names m (drop m values))) ≡ least (values_problems columns names 0 values)) more
    (values_step columns names values n c.index-values-place.result c.loop-place.found c.value_problem.result c.sooner-found.result (least (values_problems columns names 0 values))
    c.loop-place-test.true c.index-values-place.is c.sooner-found.ensures c.value_problem.ensures c.loop-place.invariant)
