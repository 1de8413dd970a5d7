use Rattle.hr_names.specs.Operands.{column_problems}
use Rattle.hr_names.specs.Seen.{seen}
use Rattle.hr_problem.proofs.Listed.{listed}
use Rattle.hr_check.proofs.select.+groups_problem.Goals as goal

pub returns-in-len1-up : goal.returns-in-len1-up
returns-in-len1-up n c = listed (column_problems (seen c.args.scope)) c.args.groups.now c.group-item.result c.column_problem.result c.groups_problem.result c.sooner.result
    c.in-len1-up.len_at_least c.group-item.is c.sooner.ensures c.column_problem.ensures c.groups_problem.ensures
