-- What is told of a text, of statements and of tuples.
use Rattle.std.proofs.Common.{◌≡◌, ◌↔◌, ◌∙◌, ℕ, List, [], length, Ok, Err, sym, arith}
use Rattle.hr_parse.specs.declared.ast.Ast.{Ast}
use Rattle.hr_parse.specs.declared.ast.TupleAst.{TupleAst}
use Rattle.hr_parse.specs.declared.parsing.ParseError.{ParseError}
use Rattle.hr_parse.specs.declared.parsing.ParseError.TheVariants as e
use Rattle.hr_parse.specs.declared.word.Lexeme.{Lexeme}
use Rattle.hr_parse.specs.Readers.{Reader}
use Rattle.hr_parse.specs.Grammar.{IsStatement, IsTuple, statement, tuple}
use Rattle.hr_parse.specs.Parse.{IsTextOf, TextRefused, IsTupleFrom, TupleRefused, words, error, words_from, error_from, depth_for, parsed, parsed_tuple}
use Rattle.hr_parse.proofs.Rules.{ok_parts}
use Rattle.hr_parse.proofs.Statements.{statements, rule_statement, tuples, rule_tuple}
use Rattle.hr_parse.proofs.Whole.{is_read}
use Rattle.hr_parse.proofs.Told.{settled_tree, tree_settled, settled_refused, settled_memory}

abbrev read_statement : ℕ → Reader Ast
read_statement n = (statement n).reads

abbrev read_tuple : ℕ → Reader TupleAst
read_tuple n = (tuple n).reads

pub parsed_tree : (text : List ℕ) (a : Ast) → (parsed text ≡ Ok a) ↔ IsTextOf text a
unfolding parsed
parsed_tree text a =
    (settled_tree read_statement IsStatement statements rule_statement (words text) (error text) (length text) a, tree_settled read_statement IsStatement statements rule_statement (words text) (error text) (length text) a)

pub parsed_refused : (text : List ℕ) (x : ParseError) → parsed text ≡ Err x → TextRefused text x
unfolding parsed
parsed_refused text = settled_refused read_statement IsStatement statements rule_statement (words text) (error text) (length text)

pub parsed_memory : (text : List ℕ) → parsed text ≡ Err e.Memory → ⊥
unfolding parsed
parsed_memory text = settled_memory read_statement IsStatement statements rule_statement (words text) (error text) (length text)

pub tuple_tree : (from : ℕ) (text : List ℕ) (a : TupleAst) → (parsed_tuple from text ≡ Ok a) ↔ IsTupleFrom from text a
unfolding parsed_tuple
tuple_tree from text a =
    (settled_tree read_tuple IsTuple tuples rule_tuple (words_from from text) (error_from from text) (length text) a, tree_settled read_tuple IsTuple tuples rule_tuple (words_from from text) (error_from from text) (length text) a)

pub tuple_refused : (from : ℕ) (text : List ℕ) (x : ParseError) → parsed_tuple from text ≡ Err x → TupleRefused from text x
unfolding parsed_tuple
tuple_refused from text = settled_refused read_tuple IsTuple tuples rule_tuple (words_from from text) (error_from from text) (length text)

pub tuple_memory : (from : ℕ) (text : List ℕ) → parsed_tuple from text ≡ Err e.Memory → ⊥
unfolding parsed_tuple
tuple_memory from text = settled_memory read_tuple IsTuple tuples rule_tuple (words_from from text) (error_from from text) (length text)

-- no words are two statements
pub one_statement : (s : List Lexeme) (a b : Ast) → IsStatement s a → IsStatement s b → a ≡ b
one_statement s a b k l =
    let n : ℕ = depth_for s in
    let read = λ (x : Ast) (h : IsStatement s x). is_read 6 n (read_statement n) IsStatement statements (rule_statement n) s x h (omega arith) in
    (ok_parts a b [] [] (sym (read a k) ∙ read b l)).0
