-- What blanks and signs say.
use Rattle.std.proofs.Common.{◌≡◌, ℕ, false, ◌==◌, List, [], ◌∷◌, length, Some, None, codes, refl, ◌∙◌, ap}
use Rattle.std.proofs.lemmas.Bool.{cond-false}
use Rattle.hr_lex.specs.Bytes.{is_blank, is_letter, is_digit}
use Rattle.hr_lex.specs.Signs.{long_sign, short_sign}
use Rattle.hr_lex.specs.Tokens.{token_at, sign_of, sign_at}
use Rattle.hr_lex.specs.declared.token.TokenKind.{TokenKind}
use Rattle.hr_lex.specs.declared.token.TokenKind.TheVariants as t
use Rattle.hr_rel.specs.declared.expr.Op.TheVariants as op
use Rattle.hr_parse.specs.declared.word.Mark.TheVariants as m
use Rattle.hr_parse.specs.declared.word.Sign.TheVariants as sg
use Rattle.hr_parse.specs.declared.word.Word.TheVariants as w
use Rattle.hr_parse.specs.Lexemes.{word_of}
use Rattle.hr_print.proofs.Spelled.{Read, Says, Any, Ends}
use Rattle.hr_print.proofs.SaidTokens.{read_token, apart}

-- a blank is passed over
pub said_blank : Says Any (codes " ") []
said_blank front rest h = record { tokens = []; reads = refl; says = refl }

-- ---- signs of one byte

-- a byte at which neither a word, a number nor a text begins, and no blank
abbrev BeginsSign : ℕ → Type 0
BeginsSign b = (is_blank b ≡ false) × (is_letter b ≡ false) × (is_digit b ≡ false) × (b == 39 ≡ false)

begins_sign : (at b : ℕ) (rest : List ℕ) → BeginsSign b → token_at at (b ∷ rest) ≡ sign_at at (b ∷ rest)
unfolding token_at
begins_sign at b rest h = cond-false (is_letter b) _ _ h.1 ∙ (cond-false (is_digit b) _ _ h.2 ∙ cond-false (b == 39) _ _ h.3)

-- no longer sign begins with this byte before this rest
abbrev IsAlone : ℕ → List ℕ → Type 0
IsAlone b [] = Unit {0}
IsAlone b (c ∷ rest) = long_sign b c ≡ None

one_byte : (at b : ℕ) (rest : List ℕ) → IsAlone b rest → sign_at at (b ∷ rest) ≡ sign_of at None (short_sign b)
one_byte at b [] h = refl
one_byte at b (c ∷ rest) h = ap (λ z. sign_of at z (short_sign b)) h

-- such a byte, alone, says its sign
read_sign : (k : TokenKind) (b : ℕ) (front rest : List ℕ) → BeginsSign b → short_sign b ≡ Some k → IsAlone b rest → Read front (b ∷ []) rest (word_of (b ∷ []) k ∷ [])
read_sign k b front rest begins is alone =
    read_token k front b [] rest begins.0 (begins_sign (length front) b rest begins ∙ (one_byte (length front) b rest alone ∙ ap (sign_of (length front) None) is))

-- where no sign begins with the byte and another
always_alone : (b : ℕ) → ((c : ℕ) → long_sign b c ≡ None) → (rest : List ℕ) → IsAlone b rest
always_alone b none [] = tt
always_alone b none (c ∷ rest) = none c

pub said_left : Says Any (codes "(") (w.Fixed (m.Sign sg.LeftParen) ∷ [])
said_left front rest h = read_sign t.LeftParen 40 front rest (refl, refl, refl, refl) refl (always_alone 40 (λ c. refl) rest)

pub said_right : Says Any (codes ")") (w.Fixed (m.Sign sg.RightParen) ∷ [])
said_right front rest h = read_sign t.RightParen 41 front rest (refl, refl, refl, refl) refl (always_alone 41 (λ c. refl) rest)

pub said_comma : Says Any (codes ",") (w.Fixed (m.Sign sg.Comma) ∷ [])
said_comma front rest h = read_sign t.Comma 44 front rest (refl, refl, refl, refl) refl (always_alone 44 (λ c. refl) rest)

pub said_dot : Says Any (codes ".") (w.Fixed (m.Sign sg.Dot) ∷ [])
said_dot front rest h = read_sign t.Dot 46 front rest (refl, refl, refl, refl) refl (always_alone 46 (λ c. refl) rest)

pub said_star : Says Any (codes "*") (w.Fixed (m.Sign sg.Star) ∷ [])
said_star front rest h = read_sign t.Star 42 front rest (refl, refl, refl, refl) refl (always_alone 42 (λ c. refl) rest)

pub said_plus : Says Any (codes "+") (w.Fixed (m.Sign sg.Plus) ∷ [])
said_plus front rest h = read_sign t.Plus 43 front rest (refl, refl, refl, refl) refl (always_alone 43 (λ c. refl) rest)

pub said_minus : Says Any (codes "-") (w.Fixed (m.Sign sg.Minus) ∷ [])
said_minus front rest h = read_sign t.Minus 45 front rest (refl, refl, refl, refl) refl (always_alone 45 (λ c. refl) rest)

-- ---- comparisons

pub said_equal : Says Any (codes "=") (w.Compare op.Eq ∷ [])
said_equal front rest h = read_sign t.Equal 61 front rest (refl, refl, refl, refl) refl (always_alone 61 (λ c. refl) rest)

pub said_not_equal : Says Any (codes "<>") (w.Compare op.Ne ∷ [])
unfolding token_at
said_not_equal front rest h = read_token t.NotEqual front 60 (62 ∷ []) rest refl refl

pub said_less_equal : Says Any (codes "<=") (w.Compare op.Le ∷ [])
unfolding token_at
said_less_equal front rest h = read_token t.LessEqual front 60 (61 ∷ []) rest refl refl

pub said_greater_equal : Says Any (codes ">=") (w.Compare op.Ge ∷ [])
unfolding token_at
said_greater_equal front rest h = read_token t.GreaterEqual front 62 (61 ∷ []) rest refl refl

-- before an end, `<` and `>` begin no longer sign
less_alone : (rest : List ℕ) → Ends rest → IsAlone 60 rest
less_alone [] h = tt
less_alone (c ∷ rest) h = let a = apart c h in cond-false (c == 62) _ _ a.3 ∙ cond-false (c == 61) _ _ a.2

greater_alone : (rest : List ℕ) → Ends rest → IsAlone 62 rest
greater_alone [] h = tt
greater_alone (c ∷ rest) h = cond-false (c == 61) _ _ (apart c h).2

pub said_less : Says Ends (codes "<") (w.Compare op.Lt ∷ [])
said_less front rest h = read_sign t.Less 60 front rest (refl, refl, refl, refl) refl (less_alone rest h)

pub said_greater : Says Ends (codes ">") (w.Compare op.Gt ∷ [])
said_greater front rest h = read_sign t.Greater 62 front rest (refl, refl, refl, refl) refl (greater_alone rest h)
