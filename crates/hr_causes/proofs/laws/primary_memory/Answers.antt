use Rattle.hr_causes.proofs.ReplyLemmas.{memory_shown}
use Rattle.hr_causes.proofs.laws.primary_memory.Goals as goal

pub returns : goal.returns
returns c f sessions caller t at before begun = memory_shown f sessions caller t at before begun
