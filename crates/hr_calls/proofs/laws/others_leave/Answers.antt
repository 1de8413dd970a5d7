use Rattle.hr_calls.proofs.PartLemmas.{others}
use Rattle.hr_calls.proofs.laws.others_leave.Goals as goal

pub returns : goal.returns
returns c f sessions r more before begun are = others f sessions r more before begun are
