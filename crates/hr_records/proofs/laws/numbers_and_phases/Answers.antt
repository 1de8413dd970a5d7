use Rattle.hr_records.proofs.KeptLemmas.{kept}
use Rattle.hr_records.proofs.laws.numbers_and_phases.Goals as goal

pub returns : goal.returns
returns c f sessions h begun = (kept f sessions h begun).numbers
