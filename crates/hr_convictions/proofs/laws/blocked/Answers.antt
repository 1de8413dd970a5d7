use Rattle.hr_convictions.proofs.ReplyLemmas.{blocked_never}
use Rattle.hr_convictions.proofs.laws.blocked.Goals as goal

pub returns : goal.returns
returns c f sessions caller r t db before begun correct = blocked_never f sessions caller r t db before begun correct
