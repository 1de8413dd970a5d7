use Rattle.hr_causes.proofs.TurnWords.{answer_refuses_nothing}
use Rattle.hr_causes.proofs.laws.answers_refuse_nothing.Goals as goal

pub returns : goal.returns
returns c f sessions caller giver r t answer x more before begun are = answer_refuses_nothing f sessions caller giver r t answer x more before begun are
