use Rattle.hr_barriers.proofs.DoneLemmas.{done}
use Rattle.hr_barriers.proofs.laws.done_as_played.Goals as goal

pub returns : goal.returns
returns c f sessions caller r t i place told db before begun out correct to none = done f sessions caller r t i place told db before begun out correct to none
