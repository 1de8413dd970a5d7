use Rattle.hr_sane.proofs.Growth.{turn_grows, grows_none, grows_twice}
use Rattle.hr_sane.proofs.laws.turns_grow.Goals as goal

pub returns-clause-turn : goal.returns-clause-turn
returns-clause-turn c f caller call old new turn = turn_grows caller f call old new turn

pub returns-clause-none : goal.returns-clause-none
returns-clause-none c caller entries = grows_none caller entries

pub returns-clause-twice : goal.returns-clause-twice
returns-clause-twice c caller first then last a b = grows_twice caller first then last a b
