use Rattle.hr_parse.proofs.Texts.{one_statement}
use Rattle.hr_parse.proofs.parsing.one_tree.Goals as goal

pub returns : goal.returns
returns c = one_statement
