-- The words of a statement.
use Rattle.std.specs.Prelude.{ℕ, Bool, false, List}
use denote.Enum.Bare.{sameb}
use Rattle.hr_lex.specs.contracts.token.Keyword as keywords
use Rattle.hr_lex.specs.declared.token.Keyword.{Keyword}
use Rattle.hr_rel.specs.declared.expr.Op.{Op}
use Rattle.hr_parse.specs.contracts.word.Sign as signs
use Rattle.hr_parse.specs.declared.word.Sign.{Sign}
use Rattle.hr_parse.specs.declared.word.Mark.{Mark}
use Rattle.hr_parse.specs.declared.word.Mark.TheVariants as m
use Rattle.hr_parse.specs.declared.word.Word.{Word}
use Rattle.hr_parse.specs.declared.word.Word.TheVariants as w
use Rattle.hr_parse.specs.declared.word.Lexeme.{Lexeme}

unfoldable pub same_mark : Mark → Mark → Bool
same_mark (m.Keyword a) (m.Keyword b) = sameb keywords.the_type a b
same_mark (m.Sign a) (m.Sign b) = sameb signs.the_type a b
same_mark _ _ = false

-- whether a word is this mark
abbrev pub is_mark : Mark → Word → Bool
is_mark given (w.Fixed other) = same_mark given other
is_mark given _ = false

-- a mark, a name, a number, a text and a comparison at a place
abbrev pub mark : Mark → ℕ → Lexeme
mark fixed at = record { word = w.Fixed fixed; at = at }

abbrev pub keyword : Keyword → ℕ → Lexeme
keyword k at = mark (m.Keyword k) at

abbrev pub sign : Sign → ℕ → Lexeme
sign s at = mark (m.Sign s) at

abbrev pub named : List ℕ → ℕ → Lexeme
named n at = record { word = w.Name n; at = at }

abbrev pub number : ℕ → ℕ → Lexeme
number n at = record { word = w.Number n; at = at }

abbrev pub text : List ℕ → ℕ → Lexeme
text t at = record { word = w.Text t; at = at }

abbrev pub compare : Op → ℕ → Lexeme
compare o at = record { word = w.Compare o; at = at }
