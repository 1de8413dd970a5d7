use Rattle.hr_scripted.proofs.OnceLemmas.{calls_stand}
use Rattle.hr_scripted.proofs.laws.scripted.Goals as goal

pub returns : goal.returns
returns c sc h faithful chosen = calls_stand sc h faithful chosen
