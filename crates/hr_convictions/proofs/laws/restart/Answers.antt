use Rattle.hr_convictions.proofs.CountLemmas.{restart_never}
use Rattle.hr_convictions.proofs.laws.restart.Goals as goal

pub returns : goal.returns
returns c f sessions caller r told db before begun correct = restart_never f sessions caller r told db before begun correct
