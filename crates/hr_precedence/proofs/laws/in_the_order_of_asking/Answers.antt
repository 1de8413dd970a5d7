use Rattle.hr_precedence.proofs.ComesFirst.{contradicted_first, decided_first}
use Rattle.hr_precedence.proofs.laws.in_the_order_of_asking.Goals as goal

pub returns-clause-decided : goal.returns-clause-decided
returns-clause-decided c f sessions caller t u n m before begun may its other = decided_first f sessions caller t u n m before begun may its other

pub returns-clause-refused : goal.returns-clause-refused
returns-clause-refused c f sessions caller t index by at u n m before begun is its other = contradicted_first f sessions caller t index by at u n m before begun is its other
