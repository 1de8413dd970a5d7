use Rattle.hr_parts.proofs.ExactKeys.{keys_to_has, common_has, spanning_is_least}
use Rattle.hr_parts.proofs.laws.intervals_are_exact.Goals as goal

pub returns-clause-compared : goal.returns-clause-compared
returns-clause-compared c = keys_to_has

pub returns-clause-both : goal.returns-clause-both
returns-clause-both c = common_has

pub returns-clause-least : goal.returns-clause-least
returns-clause-least c = spanning_is_least
