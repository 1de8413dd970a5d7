use Rattle.hr_parse.proofs.Texts.{parsed_tree, parsed_refused, parsed_memory}
use Rattle.hr_parse.proofs.parsing.parsed_by_the_grammar.Goals as goal

pub returns-clause-tree : goal.returns-clause-tree
returns-clause-tree c = parsed_tree

pub returns-clause-refused : goal.returns-clause-refused
returns-clause-refused c = parsed_refused

pub returns-clause-memory : goal.returns-clause-memory
returns-clause-memory c = parsed_memory
