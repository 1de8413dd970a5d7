use Rattle.hr_history.specs.Turn.{turn_of}
use Rattle.hr_history.specs.View.{view_of}
use Rattle.hr_decisions.proofs.DecisionLemmas.{nothing_after, none_decidable, none_contradicted}
use Rattle.hr_decisions.proofs.laws.none_left_after_a_turn.Goals as goal

pub returns-clause-decidable : goal.returns-clause-decidable
returns-clause-decidable c f sessions t h faithful is = none_decidable (view_of f h) (turn_of h) (nothing_after f sessions h faithful) t is

pub returns-clause-contradicted : goal.returns-clause-contradicted
returns-clause-contradicted c f sessions t h faithful is = none_contradicted (view_of f h) (turn_of h) (nothing_after f sessions h faithful) t is
