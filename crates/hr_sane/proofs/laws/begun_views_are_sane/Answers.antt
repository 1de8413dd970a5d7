use Rattle.hr_sane.proofs.Begun.{begun_sane, begun_fits}
use Rattle.hr_sane.proofs.laws.begun_views_are_sane.Goals as goal

pub returns-clause-sane : goal.returns-clause-sane
returns-clause-sane c f sessions h begun = begun_sane f sessions h begun

pub returns-clause-fits : goal.returns-clause-fits
returns-clause-fits c f sessions e before begun = begun_fits f sessions e before begun
