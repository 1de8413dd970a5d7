use Rattle.hr_names.proofs.NamesListed.{names_listed}
use Rattle.hr_names.proofs.names.+names_problem.Goals as goal

pub returns-in-len1-up : goal.returns-in-len1-up
returns-in-len1-up n c = names_listed c.args.columns.now c.args.names.now c.name-item.result c.unknown_name.result c.any_named_twice.result c.names_problem.result c.sooner-front.result c.sooner.result
    c.in-len1-up.len_at_least c.name-item.is c.sooner-front.ensures c.sooner.ensures c.unknown_name.ensures c.any_named_twice.ensures c.names_problem.ensures
