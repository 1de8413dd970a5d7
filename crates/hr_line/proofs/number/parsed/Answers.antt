use Rattle.hr_line.proofs.NumberLemmas.{unread}
use Rattle.hr_line.proofs.number.parsed.Goals as goal

pub returns-clause-none : goal.returns-clause-none
returns-clause-none c = unread _ _ _ _ c.requires c.in-Ok.ensures.cases.0 c.parse.ensures.value.0 c.ok.ensures.value
