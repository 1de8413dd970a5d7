use Rattle.hr_barriers.proofs.GivenLemmas.{given_by_primary}
use Rattle.hr_barriers.proofs.laws.given_by_the_primary.Goals as goal

pub returns : goal.returns
returns c f sessions t r h begun is o = given_by_primary f sessions t r h begun is o
