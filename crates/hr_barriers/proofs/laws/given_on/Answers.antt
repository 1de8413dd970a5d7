use Rattle.hr_barriers.proofs.ServedLemmas as served
use Rattle.hr_barriers.proofs.laws.given_on.Goals as goal

pub returns : goal.returns
returns c f sessions t i place db given h begun is at low high = served.given_on f sessions t db h begun is i place given at low high
