use Rattle.hr_sane.proofs.Growth.{turn_faithful}
use Rattle.hr_sane.proofs.OneTurn.{one_turn}
use Rattle.hr_sane.proofs.laws.turns_keep_faith.Goals as goal

pub returns-clause-faithful : goal.returns-clause-faithful
returns-clause-faithful c f sessions caller call before after faithful allowed turn = turn_faithful f sessions caller call before after faithful allowed turn

pub returns-clause-one : goal.returns-clause-one
returns-clause-one c f caller call before after other turn another = one_turn f caller call before after other turn another
