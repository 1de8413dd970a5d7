use Rattle.hr_calls.proofs.PartLemmas.{follow_ups}
use Rattle.hr_calls.proofs.laws.follow_ups_leave.Goals as goal

pub returns : goal.returns
returns c f sessions r more before begun are = follow_ups r more before are
