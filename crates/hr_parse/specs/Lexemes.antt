-- What tokens say, as words.
use Rattle.std.specs.Prelude.{ℕ, ◌-◌, Bool, true, false, ◌==◌, List, [], ◌∷◌, map, length, take, drop}
use Rattle.std.specs.Str.{str_to_ascii_lowercase}
use Rattle.hr_lex.specs.declared.token.Token.{Token}
use Rattle.hr_lex.specs.declared.token.TokenKind.{TokenKind}
use Rattle.hr_lex.specs.declared.token.TokenKind.TheVariants as t
use Rattle.hr_lex.specs.Tokens.{written}
use Rattle.hr_rel.specs.declared.expr.Op.TheVariants as op
use Rattle.hr_parse.specs.declared.word.Mark.TheVariants as m
use Rattle.hr_parse.specs.declared.word.Sign.TheVariants as sign_of
use Rattle.hr_parse.specs.declared.word.Word.{Word}
use Rattle.hr_parse.specs.declared.word.Word.TheVariants as w
use Rattle.hr_parse.specs.declared.word.Lexeme.{Lexeme}

-- Each doubled quote once. The test says that the byte before is the first quote of a pair.
abbrev pub undoubled : Bool → List ℕ → List ℕ
undoubled after [] = []
undoubled true (b ∷ bytes) = undoubled false bytes
undoubled false (b ∷ bytes) = b ∷ undoubled (b == 39) bytes

-- without the first byte and the last
abbrev pub between_quotes : List ℕ → List ℕ
between_quotes bytes = take (length bytes - 2) (drop 1 bytes)

-- what a token of a kind says, on these bytes: a name in small letters, a text without its quotes, `!=` as `<>`
abbrev pub word_of : List ℕ → TokenKind → Word
word_of bytes (t.Keyword k) = w.Fixed (m.Keyword k)
word_of bytes t.Name = w.Name (str_to_ascii_lowercase bytes)
word_of bytes (t.Number n) = w.Number n
word_of bytes t.Text = w.Text (undoubled false (between_quotes bytes))
word_of bytes t.LeftParen = w.Fixed (m.Sign sign_of.LeftParen)
word_of bytes t.RightParen = w.Fixed (m.Sign sign_of.RightParen)
word_of bytes t.Comma = w.Fixed (m.Sign sign_of.Comma)
word_of bytes t.Dot = w.Fixed (m.Sign sign_of.Dot)
word_of bytes t.Semicolon = w.Fixed (m.Sign sign_of.Semicolon)
word_of bytes t.Star = w.Fixed (m.Sign sign_of.Star)
word_of bytes t.Plus = w.Fixed (m.Sign sign_of.Plus)
word_of bytes t.Minus = w.Fixed (m.Sign sign_of.Minus)
word_of bytes t.Equal = w.Compare op.Eq
word_of bytes t.NotEqual = w.Compare op.Ne
word_of bytes t.BangEqual = w.Compare op.Ne
word_of bytes t.Less = w.Compare op.Lt
word_of bytes t.LessEqual = w.Compare op.Le
word_of bytes t.Greater = w.Compare op.Gt
word_of bytes t.GreaterEqual = w.Compare op.Ge

abbrev pub lexeme_of : List ℕ → Token → Lexeme
lexeme_of text token = record { word = word_of (written text token) token.kind; at = token.from }

abbrev pub lexemes : List ℕ → List Token → List Lexeme
lexemes text tokens = map (lexeme_of text) tokens
