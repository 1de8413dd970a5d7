use Rattle.hr_decisions.proofs.OrderLemmas.{in_order}
use Rattle.hr_decisions.proofs.laws.in_order_of_a_session.Goals as goal

pub returns : goal.returns
returns c f sessions session t u place h begun are lt decided = in_order f sessions session t u place h begun are lt decided
