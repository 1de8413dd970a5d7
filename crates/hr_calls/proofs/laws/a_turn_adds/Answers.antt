use Rattle.hr_calls.proofs.TurnLemmas.{of_one_caller, calls_of_turn, part_of_turn}
use Rattle.hr_calls.proofs.laws.a_turn_adds.Goals as goal

pub returns-clause-callers : goal.returns-clause-callers
returns-clause-callers c f sessions more call before begun are = of_one_caller f sessions more call before begun are

pub returns-clause-calls : goal.returns-clause-calls
returns-clause-calls c f sessions more call before begun are = calls_of_turn f sessions more call before begun are

pub returns-clause-parts : goal.returns-clause-parts
returns-clause-parts c f sessions r more call before begun are = part_of_turn r more call before are
