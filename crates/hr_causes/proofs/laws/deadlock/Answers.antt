use Rattle.hr_causes.proofs.ReplyLemmas.{deadlock_shown}
use Rattle.hr_causes.proofs.laws.deadlock.Goals as goal

pub returns : goal.returns
returns c f sessions caller t at before begun = deadlock_shown f sessions caller t at before begun
