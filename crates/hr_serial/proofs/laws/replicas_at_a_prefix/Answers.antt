use Rattle.hr_records.proofs.KeptLemmas.{kept}
use Rattle.hr_serial.proofs.PrefixLemmas.{at_prefix}
use Rattle.hr_serial.proofs.laws.replicas_at_a_prefix.Goals as goal

pub returns : goal.returns
returns c f sessions h r begun = at_prefix h (kept f sessions h begun) r
