use Rattle.hr_precedence.proofs.Search.{goes_on}
use Rattle.hr_precedence.proofs.laws.search_goes_on_from_the_primary.Goals as goal

pub returns : goal.returns
returns c f p h is = goes_on f p h is
