use Rattle.hr_records.proofs.KeptLemmas.{kept}
use Rattle.hr_barriers.proofs.PlayedLemmas.{played}
use Rattle.hr_barriers.proofs.laws.answers_as_played.Goals as goal

pub returns : goal.returns
returns c f sessions r place t db h begun lt correct to none = played f r place t db h (kept f sessions h begun) lt correct to none
