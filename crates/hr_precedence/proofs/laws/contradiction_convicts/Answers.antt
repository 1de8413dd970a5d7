use Rattle.hr_precedence.proofs.Owed.{comes_next, not_last}
use Rattle.hr_precedence.proofs.laws.contradiction_convicts.Goals as goal

pub returns-clause-next : goal.returns-clause-next
returns-clause-next c f sessions caller t index by at p e before begun lead = comes_next f caller t index by at p before lead sessions e begun

pub returns-clause-owed : goal.returns-clause-owed
returns-clause-owed c f sessions caller t index by at p before faithful lead = not_last f caller t index by at p before lead sessions faithful
