use Rattle.hr_names.specs.Seen.{seen}
use Rattle.hr_check.proofs.Parts.{sets_listed}
use Rattle.hr_check.proofs.update.+sets_problem.Goals as goal

pub returns-in-len1-up : goal.returns-in-len1-up
returns-in-len1-up n c = sets_listed (seen c.args.scope) c.args.columns.now c.args.sets.now c.set-item.result c.set_problem.result c.assigned_twice.result c.sets_problem.result c.sooner-front.result c.sooner.result
    c.in-len1-up.len_at_least c.set-item.is c.sooner-front.ensures c.sooner.ensures c.set_problem.ensures c.assigned_twice.ensures c.sets_problem.ensures
