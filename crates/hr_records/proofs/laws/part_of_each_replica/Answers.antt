use Rattle.hr_records.proofs.KeptLemmas.{kept}
use Rattle.hr_records.proofs.laws.part_of_each_replica.Goals as goal

pub returns : goal.returns
returns c f sessions h r begun = (kept f sessions h begun).replicas r
