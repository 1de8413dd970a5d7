use Rattle.hr_check.specs.Statements.{item_problems}
use Rattle.hr_names.specs.Seen.{seen}
use Rattle.hr_problem.proofs.Listed.{listed}
use Rattle.hr_check.proofs.select.+each_item_problem.Goals as goal

pub returns-in-len1-up : goal.returns-in-len1-up
returns-in-len1-up n c = listed (item_problems (seen c.args.scope) c.args.select.now) c.args.items.now c.item-item.result c.item_problem.result c.each_item_problem.result c.sooner.result
    c.in-len1-up.len_at_least c.item-item.is c.sooner.ensures c.item_problem.ensures c.each_item_problem.ensures
