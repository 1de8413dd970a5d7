use Rattle.hr_barriers.proofs.EarlierLemmas.{given_then}
use Rattle.hr_barriers.proofs.laws.given_by_then.Goals as goal

pub returns : goal.returns
returns c f sessions caller r t i told given more before begun out at = given_then f sessions caller r t i told given more before begun out at
