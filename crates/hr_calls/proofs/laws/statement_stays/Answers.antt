use Rattle.hr_calls.proofs.StatementLemmas.{statement_kept}
use Rattle.hr_calls.proofs.laws.statement_stays.Goals as goal

pub returns : goal.returns
returns c f sessions t i more before begun was = statement_kept f sessions t i more before begun was
