use Rattle.hr_precedence.proofs.ComesFirst.{decided_before, elected_before, none_went}
use Rattle.hr_precedence.proofs.laws.kinds_in_order.Goals as goal

pub returns-clause-goings : goal.returns-clause-goings
returns-clause-goings c f sessions caller t before begun = none_went f sessions caller t before begun

pub returns-clause-decisions : goal.returns-clause-decisions
returns-clause-decisions c f sessions caller t index by at u before begun may = decided_before f sessions caller t index by at u before begun may

pub returns-clause-primaries : goal.returns-clause-primaries
returns-clause-primaries c f sessions caller r t q before begun vacant candidate caught_up = elected_before f sessions caller r t q before begun vacant candidate caught_up
