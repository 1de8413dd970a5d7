use Rattle.hr_convictions.proofs.DifferLemmas.{differs_never}
use Rattle.hr_convictions.proofs.laws.differs.Goals as goal

pub returns : goal.returns
returns c f sessions caller r t i db before begun correct few = differs_never f sessions caller r t i db before begun correct few
