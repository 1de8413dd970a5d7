use Rattle.std.proofs.Common.{◌++◌}
use Rattle.hr_problem.specs.Problems.{none_at_all}
use Rattle.hr_names.specs.Operands.{operand_problems}
use Rattle.hr_check.specs.Conditions.{against_each}
use Rattle.hr_names.specs.Seen.{seen}
use Rattle.hr_problem.proofs.Listed.{both}
use Rattle.hr_check.proofs.cond.among_problem.Goals as goal

pub returns : goal.returns
returns c =
    let scope = seen c.args.scope in
    let left = c.args.left.now in
    both c.sooner-front.result c.against_each.result c.sooner.result (none_at_all c.args.list.now ++ operand_problems scope left) (against_each scope left c.args.list.now) c.sooner.ensures
    (both c.none_at_all-empty.result c.operand_problem.result c.sooner-front.result (none_at_all c.args.list.now) (operand_problems scope left) c.sooner-front.ensures c.none_at_all-empty.ensures c.operand_problem.ensures)
    c.against_each.ensures
