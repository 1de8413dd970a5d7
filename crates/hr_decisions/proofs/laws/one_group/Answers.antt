use Rattle.hr_decisions.proofs.DecisionLemmas.{excludes, one_answer}
use Rattle.hr_decisions.proofs.laws.one_group.Goals as goal

pub returns-clause-excludes : goal.returns-clause-excludes
returns-clause-excludes c v t r is group = excludes v t r is group

pub returns-clause-one : goal.returns-clause-one
returns-clause-one c v t r s first second = one_answer v t r s first second
