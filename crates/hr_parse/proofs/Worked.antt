-- Worked statements and tuples.
use Rattle.std.proofs.Common.{[], ◌∷◌, codes, None, refl}
use Rattle.hr_lex.specs.Keywords.{keyword}
use Rattle.hr_lex.specs.Tokens.{token_at}
use Rattle.hr_lex.specs.declared.token.LexError.TheVariants as l
use Rattle.hr_parse.specs.declared.ast.Ast.{Ast}
use Rattle.hr_parse.specs.declared.ast.Ast.TheVariants as ast
use Rattle.hr_parse.specs.declared.ast.LitAst.TheVariants as lit
use Rattle.hr_parse.specs.declared.parsing.ParseError.TheVariants as e
use Rattle.hr_parse.specs.Words.{same_mark}
use Rattle.hr_parse.specs.Readers.{read_name, constant, listed_behind}
use Rattle.hr_parse.specs.Grammar.{literal, tuple, filter, delete, command, statement}
use Rattle.hr_parse.specs.Parse.{IsTextOf, TextRefused, IsTupleFrom, TupleRefused, parsed, parsed_tuple}
use Rattle.hr_parse.proofs.Texts.{parsed_tree, parsed_refused, tuple_tree, tuple_refused}

abbrev pub delete_all : Ast
delete_all = ast.Delete (record { table = record { name = codes "t"; at = 12 }; filter = None })

-- the text `delete from T;` is a statement, and has this tree
pub a_delete : IsTextOf (codes "delete from T;") delete_all
unfolding token_at keyword same_mark read_name delete filter command statement parsed
a_delete = (parsed_tree (codes "delete from T;") delete_all).0 refl

-- the words go on to a statement, and are none
pub unended : TextRefused (codes "DELETE FROM") (e.Unexpected 11)
unfolding token_at keyword same_mark read_name delete filter command statement parsed
unended = parsed_refused (codes "DELETE FROM") (e.Unexpected 11) refl

-- a number is no table's name
pub unexpected : TextRefused (codes "DELETE FROM 1") (e.Unexpected 12)
unfolding token_at keyword same_mark read_name delete filter command statement parsed
unexpected = parsed_refused (codes "DELETE FROM 1") (e.Unexpected 12) refl

-- an error of the tokens, where the words before it can go on
pub no_token : TextRefused (codes "DELETE FROM #") (e.Lex (l.BadChar 12))
unfolding token_at keyword same_mark read_name delete filter command statement parsed
no_token = parsed_refused (codes "DELETE FROM #") (e.Lex (l.BadChar 12)) refl

-- ---- tuples

-- the text `row t (NULL)` is a tuple from its parenthesis on
pub a_tuple : IsTupleFrom 6 (codes "row t (NULL)") (record { values = record { value = lit.Null; at = 7 } ∷ []; at = 6 })
unfolding token_at keyword same_mark literal constant listed_behind tuple parsed_tuple
a_tuple = (tuple_tree 6 (codes "row t (NULL)") (record { values = record { value = lit.Null; at = 7 } ∷ []; at = 6 })).0 refl

-- whatever stands behind it is unexpected
pub two_tuples : TupleRefused 6 (codes "row t (NULL);") (e.Unexpected 12)
unfolding token_at keyword same_mark literal constant listed_behind tuple parsed_tuple
two_tuples = tuple_refused 6 (codes "row t (NULL);") (e.Unexpected 12) refl
