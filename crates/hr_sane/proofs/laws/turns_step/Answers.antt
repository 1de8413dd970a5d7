use Rattle.hr_sane.proofs.TurnLemmas.{turn_same}
use Rattle.hr_sane.proofs.laws.turns_step.Goals as goal

pub returns : goal.returns
returns c f sessions e before begun = turn_same f sessions e before begun
