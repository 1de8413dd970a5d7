use Rattle.hr_history.proofs.TurnLemmas.{faithful_by_turns}
use Rattle.hr_history.proofs.laws.turns.Goals as goal

pub returns : goal.returns
returns c = faithful_by_turns
