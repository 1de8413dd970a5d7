-- Conditions, as they are printed.
use Rattle.std.proofs.Common.{suc, List, codes, refl, sym, ◌∙◌, ap}
use Rattle.hr_parse.specs.declared.ast.CondAst.{CondAst}
use Rattle.hr_parse.specs.declared.ast.CondAst.TheVariants as cond_of
use Rattle.hr_parse.specs.declared.word.Mark.{Mark}
use Rattle.hr_parse.specs.declared.word.Mark.TheVariants as m
use Rattle.hr_lex.specs.declared.token.Keyword.TheVariants as kw
use Rattle.hr_parse.specs.declared.word.Word.TheVariants as w
use Rattle.hr_parse.specs.declared.word.Lexeme.{Lexeme}
use Rattle.hr_parse.specs.Words.{same_mark}
use Rattle.hr_parse.specs.Grammar.{Seq, predicate, OneOf, conditions, IsCond}
use Rattle.hr_print.specs.Print.{cond_text}
use Rattle.hr_print.specs.Places.{bare_cond}
use Rattle.hr_print.proofs.SaidWords.{said_and, said_or, said_not}
use Rattle.hr_print.proofs.Folds.{and_shown, or_shown, not_shown, and_bare, or_bare, not_bare}
use Rattle.hr_print.proofs.Printed.{Valid, ap_two, count}
use Rattle.hr_print.proofs.PrintedParts.{before_blank, between_blanks}
use Rattle.hr_print.proofs.PrintedChecks.{printed_test}
use Rattle.hr_print.proofs.PrintedTied.{Invariable, Prefix, Infix, Places, tied_printed}

plain : (u : List Lexeme) (a : CondAst) → (predicate 0).gives u a → Valid u → Invariable conditions cond_text bare_cond a (count u)
unfolding predicate
plain s a (Seq.seq {u} {v} {a = left} l k) h = printed_test u v left a l k h

before : (k : Mark) (h : CondAst → CondAst) → OneOf conditions.before k h → Prefix cond_text bare_cond k h
unfolding same_mark
before k h OneOf.here = record {
  word = codes "NOT ";
  said = before_blank (codes "NOT") (w.Fixed (m.Keyword kw.Not)) said_not;
  few = refl;
  shown = not_shown;
  alike = λ a b e. not_bare b ∙ ap cond_of.Not e ∙ sym (not_bare a);
}
before k h (OneOf.there one) = elim one [ ]

tight : (k : Mark) (h : CondAst → CondAst → CondAst) → OneOf conditions.tight k h → Infix cond_text bare_cond 1 k h
unfolding same_mark
tight k h OneOf.here = record {
  word = codes " AND ";
  said = between_blanks (codes "AND") (w.Fixed (m.Keyword kw.And)) said_and;
  few = refl;
  apart = λ t r. refl;
  shown = and_shown;
  alike = λ a b c d e f. and_bare c d ∙ ap_two cond_of.And e f ∙ sym (and_bare a b);
}
tight k h (OneOf.there one) = elim one [ ]

loose : (k : Mark) (h : CondAst → CondAst → CondAst) → OneOf conditions.loose k h → Infix cond_text bare_cond 0 k h
unfolding same_mark
loose k h OneOf.here = record {
  word = codes " OR ";
  said = between_blanks (codes "OR") (w.Fixed (m.Keyword kw.Or)) said_or;
  few = refl;
  apart = λ t r. refl;
  shown = or_shown;
  alike = λ a b c d e f. or_bare c d ∙ ap_two cond_of.Or e f ∙ sym (or_bare a b);
}
loose k h (OneOf.there one) = elim one [ ]

pub cond_printed : (u : List Lexeme) (a : CondAst) → IsCond u a → Valid u → Places conditions cond_text bare_cond a (count u) (suc (count u)) (suc (count u))
cond_printed u a l h =
    tied_printed conditions cond_text bare_cond (record { plain = plain; placed_shown = λ a p place. refl; placed_bare = λ a p. refl; before = before; tight = tight; loose = loose }) 2 u a l h
