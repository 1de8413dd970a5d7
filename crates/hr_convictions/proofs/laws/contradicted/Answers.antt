use Rattle.hr_convictions.proofs.OwedLemmas.{contradicted_never}
use Rattle.hr_convictions.proofs.laws.contradicted.Goals as goal

pub returns : goal.returns
returns c f sessions caller r t i db before begun correct few = contradicted_never f sessions caller r t i db before begun correct few
