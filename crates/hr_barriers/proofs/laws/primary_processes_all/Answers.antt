use Rattle.hr_barriers.proofs.ProcessedLemmas.{primary_processed}
use Rattle.hr_barriers.proofs.laws.primary_processes_all.Goals as goal

pub returns : goal.returns
returns c f sessions r h begun is = primary_processed f sessions r h begun is
