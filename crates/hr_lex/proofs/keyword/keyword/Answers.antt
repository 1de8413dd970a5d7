use Rattle.hr_lex.specs.Keywords.{keyword}
use Rattle.hr_lex.proofs.keyword.keyword.Goals as goal

-- the table of the code is the one of the definition
pub returns : goal.returns
unfolding keyword
returns c = c.lookup.ensures
