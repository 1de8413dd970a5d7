use Rattle.hr_statement_laws.proofs.Shape.{keeps_catalog}
use Rattle.hr_statement_laws.proofs.laws.keeps_catalog.Goals as goal

pub returns : goal.returns
returns c = keeps_catalog
