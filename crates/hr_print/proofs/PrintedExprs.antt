-- Expressions, as they are printed.
use Rattle.std.proofs.Common.{◌≡◌, ℕ, suc, List, codes, refl, sym, ◌∙◌, ap, arith}
use Rattle.hr_parse.specs.declared.ast.ExprAst.{ExprAst}
use Rattle.hr_parse.specs.declared.ast.ExprKind.TheVariants as kind
use Rattle.hr_parse.specs.declared.ast.OperandAst.{OperandAst}
use Rattle.hr_parse.specs.declared.ast.OperandAst.TheVariants as operand_of
use Rattle.hr_parse.specs.declared.word.Mark.{Mark}
use Rattle.hr_parse.specs.declared.word.Mark.TheVariants as m
use Rattle.hr_parse.specs.declared.word.Sign.TheVariants as sg
use Rattle.hr_parse.specs.declared.word.Word.TheVariants as w
use Rattle.hr_parse.specs.declared.word.Lexeme.{Lexeme}
use Rattle.hr_parse.specs.Words.{same_mark}
use Rattle.hr_parse.specs.Trees.{expr, place_of, simple}
use Rattle.hr_parse.specs.Grammar.{Map, operand, OneOf, Tied, expressions, IsExpr}
use Rattle.hr_print.specs.Print.{operand_text, expr_text}
use Rattle.hr_print.specs.Places.{bare_literal, bare_column, bare_operand, bare_expr}
use Rattle.hr_print.proofs.Spelled.{says_before}
use Rattle.hr_print.proofs.SaidSigns.{said_plus, said_minus, said_star}
use Rattle.hr_print.proofs.Folds.{literal_shown, column_shown, add_shown, sub_shown, mul_shown, placed_shown, literal_bare, column_bare, add_bare, sub_bare, mul_bare, placed_bare}
use Rattle.hr_print.proofs.Printed.{Like, Valid, change, retext, ap_two, count}
use Rattle.hr_print.proofs.PrintedParts.{between_blanks, printed_operand}
use Rattle.hr_print.proofs.PrintedTied.{Invariable, Infix, Places, tied_printed}

simple_bare : (a b : OperandAst) → Like bare_operand a b → bare_expr (simple b) ≡ bare_expr (simple a)
simple_bare (operand_of.Column a) (operand_of.Column b) e =
    let same : bare_column b ≡ bare_column a = cc in column_bare b b.first.at ∙ ap (λ c. expr (kind.Column c) 0) same ∙ sym (column_bare a a.first.at)
simple_bare (operand_of.Literal a) (operand_of.Literal b) e =
    let same : bare_literal b ≡ bare_literal a = cc in literal_bare b b.at ∙ ap (λ l. expr (kind.Literal l) 0) same ∙ sym (literal_bare a a.at)
simple_bare (operand_of.Column a) (operand_of.Literal b) e = absurd (cc)
simple_bare (operand_of.Literal a) (operand_of.Column b) e = absurd (cc)

simple_shown : (a : OperandAst) (least : ℕ) → expr_text (simple a) least ≡ operand_text a
simple_shown (operand_of.Column a) least = column_shown a a.first.at least
simple_shown (operand_of.Literal a) least = literal_shown a a.at least

plain : (u : List Lexeme) (a : ExprAst) → Map simple operand.gives u a → Valid u → Invariable expressions expr_text bare_expr a (count u)
plain s e (Map.map {u} {a} l) h = record {
  same = λ place. simple_shown a place ∙ sym (simple_shown a 2);
  printed = retext (operand_text a) (expr_text (simple a) 2) (sym (simple_shown a 2)) (change (printed_operand u a l h) (λ us b k e. (simple b, Tied.plain (Map.map {a = b} k), simple_bare a b e)) (omega arith));
}

tight : (k : Mark) (h : ExprAst → ExprAst → ExprAst) → OneOf expressions.tight k h → Infix expr_text bare_expr 1 k h
unfolding same_mark
tight k h OneOf.here = record {
  word = codes " * ";
  said = between_blanks (codes "*") (w.Fixed (m.Sign sg.Star)) (says_before (codes "*") _ said_star);
  few = refl;
  apart = λ t r. refl;
  shown = λ a b. mul_shown a b (place_of a);
  alike = λ a b c d e f. mul_bare c d _ ∙ ap_two (λ x y. expr (kind.Mul x y) 0) e f ∙ sym (mul_bare a b _);
}
tight k h (OneOf.there one) = elim one [ ]

loose : (k : Mark) (h : ExprAst → ExprAst → ExprAst) → OneOf expressions.loose k h → Infix expr_text bare_expr 0 k h
unfolding same_mark
loose k h OneOf.here = record {
  word = codes " + ";
  said = between_blanks (codes "+") (w.Fixed (m.Sign sg.Plus)) (says_before (codes "+") _ said_plus);
  few = refl;
  apart = λ t r. refl;
  shown = λ a b. add_shown a b (place_of a);
  alike = λ a b c d e f. add_bare c d _ ∙ ap_two (λ x y. expr (kind.Add x y) 0) e f ∙ sym (add_bare a b _);
}
loose k h (OneOf.there OneOf.here) = record {
  word = codes " - ";
  said = between_blanks (codes "-") (w.Fixed (m.Sign sg.Minus)) (says_before (codes "-") _ said_minus);
  few = refl;
  apart = λ t r. refl;
  shown = λ a b. sub_shown a b (place_of a);
  alike = λ a b c d e f. sub_bare c d _ ∙ ap_two (λ x y. expr (kind.Sub x y) 0) e f ∙ sym (sub_bare a b _);
}
loose k h (OneOf.there (OneOf.there one)) = elim one [ ]

pub expr_printed : (u : List Lexeme) (a : ExprAst) → IsExpr u a → Valid u → Places expressions expr_text bare_expr a (count u) (suc (count u)) (suc (count u))
expr_printed u a l h = tied_printed expressions expr_text bare_expr
    (record { plain = plain; placed_shown = placed_shown; placed_bare = placed_bare; before = λ k h one. elim one [ ]; tight = tight; loose = loose }) 2 u a l h
