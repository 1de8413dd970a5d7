use Rattle.hr_parse.proofs.Texts.{tuple_tree, tuple_refused, tuple_memory}
use Rattle.hr_parse.proofs.parsing.parsed_tuple_by_the_grammar.Goals as goal

pub returns-clause-tree : goal.returns-clause-tree
returns-clause-tree c = tuple_tree

pub returns-clause-refused : goal.returns-clause-refused
returns-clause-refused c = tuple_refused

pub returns-clause-memory : goal.returns-clause-memory
returns-clause-memory c = tuple_memory
