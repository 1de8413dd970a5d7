use Rattle.hr_convictions.proofs.ReplyLemmas.{deadlock_never}
use Rattle.hr_convictions.proofs.laws.deadlock.Goals as goal

pub returns : goal.returns
returns c f sessions caller r t db before begun correct = deadlock_never f sessions caller r t db before begun correct
