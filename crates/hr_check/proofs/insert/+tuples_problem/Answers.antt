use Rattle.hr_check.specs.Statements.{tuple_problems}
use Rattle.hr_problem.proofs.Listed.{listed}
use Rattle.hr_check.proofs.insert.+tuples_problem.Goals as goal

pub returns-in-len1-up : goal.returns-in-len1-up
returns-in-len1-up n c = listed (tuple_problems c.args.columns.now c.args.names.now) c.args.tuples.now c.tuple-item.result c.tuple_problem.result c.tuples_problem.result c.sooner.result
    c.in-len1-up.len_at_least c.tuple-item.is c.sooner.ensures c.tuple_problem.ensures c.tuples_problem.ensures
