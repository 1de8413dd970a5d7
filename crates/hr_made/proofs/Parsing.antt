-- The trees of the statements that are drawn, by the grammar.
use Rattle.std.proofs.Common.{◌≡◌, ℕ, zero, suc, ◌^◌, ◌<◌, pos, false, List, [], ◌∷◌, Some, None, codes, refl, ap}
use Rattle.hr_rel.specs.declared.expr.Op.TheVariants as op
use Rattle.hr_lex.specs.declared.token.Keyword.TheVariants as kw
use Rattle.hr_parse.specs.declared.ast.Ast.{Ast}
use Rattle.hr_parse.specs.declared.ast.Ast.TheVariants as ast
use Rattle.hr_parse.specs.declared.ast.ExprAst.{ExprAst}
use Rattle.hr_parse.specs.declared.ast.ColumnAst.{ColumnAst}
use Rattle.hr_parse.specs.declared.ast.LiteralAst.{LiteralAst}
use Rattle.hr_parse.specs.declared.ast.LitAst.TheVariants as lit
use Rattle.hr_parse.specs.declared.ast.OperandAst.{OperandAst}
use Rattle.hr_parse.specs.declared.ast.OperandAst.TheVariants as operand_of
use Rattle.hr_parse.specs.declared.ast.CondAst.TheVariants as cond
use Rattle.hr_parse.specs.declared.ast.ItemAst.TheVariants as item_of
use Rattle.hr_parse.specs.declared.ast.Items.TheVariants as items_of
use Rattle.hr_parse.specs.declared.word.Mark.{Mark}
use Rattle.hr_parse.specs.declared.word.Mark.TheVariants as m
use Rattle.hr_parse.specs.declared.word.Word.{Word}
use Rattle.hr_parse.specs.declared.word.Word.TheVariants as w
use Rattle.hr_parse.specs.declared.word.Lexeme.{Lexeme}
use Rattle.hr_parse.specs.Words.{named, number}
use Rattle.hr_parse.specs.Grammar.{IsMark, IsName, IsEqual, IsCompare, IsConstant, Gives, Seq, Map, Either, Listed, OneOf, Tied, IsExpr, IsCond, IsStatement, expressions, literal, column, operand, between, check, predicate, range_or_list, filter, assignment, update, item, items, alias, entry, join, groups, select, command, statement}
use Rattle.hr_parse.specs.Trees.{simple}
use Rattle.hr_print.specs.Canonical.{says}

-- ---- words at places

abbrev pub placed : List Word → (ℕ → ℕ) → List Lexeme
placed [] at = []
placed (word ∷ words) at = record { word = word; at = at 0 } ∷ placed words (λ i. at (suc i))

-- each list of lexemes is its words at some places
pub at_places : (us : List Lexeme) → (at : ℕ → ℕ) × (us ≡ placed (says us) at)
at_places [] = (λ i. 0, refl)
at_places (x ∷ us) =
    let r = at_places us in
    (λ i. elim i [ zero ↦ x.at | suc j ↦ r.0 j ], ap (λ z. x ∷ z) r.1)

-- ---- operands

abbrev pub plain_column : List ℕ → ℕ → ColumnAst
plain_column name at = record { first = record { name = name; at = at }; second = None }

abbrev pub number_at : ℕ → ℕ → LiteralAst
number_at n at = record { value = lit.Int (pos n); at = at }

abbrev pub of_column : List ℕ → ℕ → OperandAst
of_column name at = operand_of.Column (plain_column name at)

abbrev pub of_number : ℕ → ℕ → OperandAst
of_number n at = operand_of.Literal (number_at n at)

column_given : (n : List ℕ) (p : ℕ) → operand.gives (named n p ∷ []) (of_column n p)
unfolding operand column
column_given n p = Either.in_left (Map.map (Seq.seq (IsName.the_name n p) (Map.map (Either.in_right Gives.nothing))))

number_given : (n p : ℕ) → n < 2 ^ 63 → operand.gives (number n p ∷ []) (of_number n p)
unfolding operand literal
number_given n p h = Either.in_right (Map.map (Either.in_right (Either.in_right (IsConstant.unsigned n p h))))

-- a column and a number, tied by the sign + or -
abbrev Ties : Mark → (ExprAst → ExprAst → ExprAst) → Type 0
Ties sign tie = OneOf expressions.loose sign tie

tied_given : (sign : Mark) (tie : ExprAst → ExprAst → ExprAst) (name : List ℕ) (n p q r : ℕ) → n < 2 ^ 63 → Ties sign tie
    → IsExpr (named name p ∷ record { word = w.Fixed sign; at = q } ∷ number n r ∷ []) (tie (simple (of_column name p)) (simple (of_number n r)))
tied_given sign tie name n p q r h ties =
    Tied.more q (Tied.one (Tied.one (Tied.plain (Map.map (column_given name p))))) ties (Tied.one (Tied.plain (Map.map (number_given n r h))))

-- ---- the words and the tree of an UPDATE

abbrev pub change_words : Mark → ℕ → ℕ → List Word
change_words sign amount account =
    w.Fixed (m.Keyword kw.Update) ∷ w.Name (codes "acct") ∷ w.Fixed (m.Keyword kw.Set) ∷ w.Name (codes "bal") ∷ w.Compare op.Eq ∷ w.Name (codes "bal")
    ∷ w.Fixed sign ∷ w.Number amount ∷ w.Fixed (m.Keyword kw.Where) ∷ w.Name (codes "id") ∷ w.Compare op.Eq ∷ w.Number account ∷ []

abbrev pub change_tree : (ExprAst → ExprAst → ExprAst) → ℕ → ℕ → (ℕ → ℕ) → Ast
change_tree tie amount account at = ast.Update (record {
  table = record { name = codes "acct"; at = at 1 };
  sets = record {
    column = record { name = codes "bal"; at = at 3 };
    value = tie (simple (of_column (codes "bal") (at 5))) (simple (of_number amount (at 7)));
  } ∷ [];
  filter = Some (cond.Compare op.Eq (of_column (codes "id") (at 9)) (of_number account (at 11)));
})

compared : (account p q r : ℕ) → account < 2 ^ 63
    → IsCond (named (codes "id") p ∷ record { word = w.Compare op.Eq; at = q } ∷ number account r ∷ []) (cond.Compare op.Eq (of_column (codes "id") p) (of_number account r))
unfolding predicate check
compared account p q r h =
    Tied.one (Tied.one (Tied.plain (Seq.seq (column_given (codes "id") p) (Either.in_left (Seq.seq (IsCompare.the op.Eq q) (Map.map (number_given account r h)))))))

pub change_given : (sign : Mark) (tie : ExprAst → ExprAst → ExprAst) (amount account : ℕ) (at : ℕ → ℕ) → amount < 2 ^ 63 → account < 2 ^ 63 → OneOf expressions.loose sign tie
    → IsStatement (placed (change_words sign amount account) at) (change_tree tie amount account at)
unfolding statement command update assignment filter
change_given sign tie amount account at small few ties =
    Seq.seq (Either.in_right (Either.in_right (Either.in_left (Seq.seq (IsMark.the (at 0)) (Map.map
    (Seq.seq (IsName.the_name (codes "acct") (at 1)) (Seq.seq (IsMark.the (at 2))
    (Seq.seq (Listed.one (Seq.seq (IsName.the_name (codes "bal") (at 3)) (Seq.seq (IsEqual.the (at 4)) (Map.map (tied_given sign tie (codes "bal") amount (at 5) (at 6) (at 7) small ties)))))
    (Map.map (Either.in_left (Seq.seq (IsMark.the (at 8)) (Map.map (compared account (at 9) (at 10) (at 11) few)))))))))))))
    (Either.in_right Gives.nothing)

-- ---- the words and the tree of a SELECT

abbrev pub look_words : ℕ → ℕ → List Word
look_words first last =
    w.Fixed (m.Keyword kw.Select) ∷ w.Name (codes "bal") ∷ w.Fixed (m.Keyword kw.From) ∷ w.Name (codes "acct") ∷ w.Fixed (m.Keyword kw.Where)
    ∷ w.Name (codes "id") ∷ w.Fixed (m.Keyword kw.Between) ∷ w.Number first ∷ w.Fixed (m.Keyword kw.And) ∷ w.Number last ∷ []

abbrev pub look_tree : ℕ → ℕ → (ℕ → ℕ) → Ast
look_tree first last at = ast.Select (record {
  items = items_of.Listed (item_of.Plain (simple (of_column (codes "bal") (at 1))) ∷ []);
  first = record { table = record { name = codes "acct"; at = at 3 }; alias = None };
  join = None;
  filter = Some (cond.Between (of_column (codes "id") (at 5)) (of_number first (at 7)) (of_number last (at 9)) false);
  groups = [];
})

bounded : (first last p q r s t : ℕ) → first < 2 ^ 63 → last < 2 ^ 63
    → IsCond (named (codes "id") p ∷ record { word = w.Fixed (m.Keyword kw.Between); at = q } ∷ number first r ∷ record { word = w.Fixed (m.Keyword kw.And); at = s } ∷ number last t ∷ [])
    (cond.Between (of_column (codes "id") p) (of_number first r) (of_number last t) false)
unfolding predicate check range_or_list between
bounded first last p q r s t low high =
    Tied.one (Tied.one (Tied.plain (Seq.seq (column_given (codes "id") p) (Either.in_right (Either.in_right (Either.in_right (Either.in_left
    (Seq.seq (IsMark.the q) (Seq.seq (number_given first r low) (Seq.seq (IsMark.the s) (Map.map (number_given last t high))))))))))))

balance_listed : (p : ℕ) → (items 0).gives (named (codes "bal") p ∷ []) (items_of.Listed (item_of.Plain (simple (of_column (codes "bal") p)) ∷ []))
unfolding items item
balance_listed p =
    let whole : IsExpr (named (codes "bal") p ∷ []) (simple (of_column (codes "bal") p)) = Tied.one (Tied.one (Tied.plain (Map.map (column_given (codes "bal") p)))) in
    Either.in_right (Map.map (Listed.one (Either.in_right (Either.in_right (Either.in_right (Either.in_right (Map.map whole)))))))

pub look_given : (first last : ℕ) (at : ℕ → ℕ) → first < 2 ^ 63 → last < 2 ^ 63 → IsStatement (placed (look_words first last) at) (look_tree first last at)
unfolding statement command select entry alias join filter groups
look_given first last at low high =
    let condition = bounded first last (at 5) (at 6) (at 7) (at 8) (at 9) low high in
    Seq.seq (Either.in_left (Seq.seq (IsMark.the (at 0)) (Map.map
    (Seq.seq (balance_listed (at 1)) (Seq.seq (IsMark.the (at 2))
    (Seq.seq (Seq.seq (IsName.the_name (codes "acct") (at 3)) (Map.map (Either.in_right (Either.in_right Gives.nothing))))
    (Seq.seq (Either.in_right (Either.in_right Gives.nothing))
    (Seq.seq (Either.in_left (Seq.seq (IsMark.the (at 4)) (Map.map condition)))
    (Map.map (Either.in_right Gives.nothing))))))))))
    (Either.in_right Gives.nothing)
