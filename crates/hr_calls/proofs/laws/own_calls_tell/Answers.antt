use Rattle.hr_calls.proofs.TurnLemmas.{own_calls}
use Rattle.hr_calls.proofs.laws.own_calls_tell.Goals as goal

pub returns : goal.returns
returns c f sessions r more before begun same = own_calls f sessions r more before begun same
