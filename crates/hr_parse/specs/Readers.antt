-- Not to be believed: reading word by word, as the code does. That a rule's reader reads what the rule gives is proved apart.
use Rattle.std.specs.Prelude.{◌≡◌, ℕ, Bool, true, false, List, [], ◌∷◌, ◌++◌, drop, ℤ, pos, zero, suc, ◌^◌, nat_le, nat_lt, Option, Some, None, Result, Ok, Err, if◌then◌else◌}
use Rattle.std.specs.Option.{option_map}
use Rattle.hr_rel.specs.declared.expr.Op.{Op}
use Rattle.hr_rel.specs.declared.expr.Op.TheVariants as op
use Rattle.hr_parse.specs.declared.ast.LitAst.{LitAst}
use Rattle.hr_parse.specs.declared.ast.LitAst.TheVariants as lit
use Rattle.hr_parse.specs.declared.ast.LiteralAst.{LiteralAst}
use Rattle.hr_parse.specs.declared.ast.NameAt.{NameAt}
use Rattle.hr_parse.specs.declared.word.Mark.{Mark}
use Rattle.hr_parse.specs.declared.word.Mark.TheVariants as m
use Rattle.hr_parse.specs.declared.word.Sign.TheVariants as sign_of
use Rattle.hr_parse.specs.declared.word.Word.{Word}
use Rattle.hr_parse.specs.declared.word.Word.TheVariants as w
use Rattle.hr_parse.specs.declared.word.Lexeme.{Lexeme}
use Rattle.hr_parse.specs.declared.parser.Stop.{Stop}
use Rattle.hr_parse.specs.declared.parser.Stop.TheVariants.{Unexpected, Memory}
use Rattle.hr_parse.specs.Words.{is_mark}
use Rattle.hr_parse.specs.Trees.{minus}

-- what was read and the words behind it, or the words from the unexpected one on
abbrev pub Outcome : Type 0 → Type 0
Outcome A = Result (A × List Lexeme) (List Lexeme)

abbrev pub Reader : Type 0 → Type 0
Reader A = List Lexeme → Outcome A

-- what a function of the parser ensures: the reader's outcome, unless memory ran out
abbrev pub Reads : {A : Type 0} → Outcome A → Result A Stop → List Lexeme → Type 0
Reads outcome (Ok a) new = outcome ≡ Ok (a, new)
Reads outcome (Err Unexpected) new = outcome ≡ Err new
Reads outcome (Err Memory) new = Unit {0}

-- ---- what rules are made of

abbrev pub and_then : {A B : Type 0} → Outcome A → (A → Reader B) → Outcome B
and_then (Ok p) f = f p.0 p.1
and_then (Err words) f = Err words

infixl 10 ◌>>=◌
abbrev pub ◌>>=◌ : {A B : Type 0} → Reader A → (A → Reader B) → Reader B
p >>= f = λ words. and_then (p words) f

infixl 10 ◌>>◌
abbrev pub ◌>>◌ : {A B : Type 0} → Reader A → Reader B → Reader B
p >> q = p >>= (λ _. q)

abbrev pub pure : {A : Type 0} → A → Reader A
pure a = λ words. Ok (a, words)

abbrev pub refuse : {A : Type 0} → Reader A
refuse = λ words. Err words

-- one word, of which a test gives this
abbrev pub by_test : {A : Type 0} → (Lexeme → Option A) → Reader A
by_test test [] = Err []
by_test test (first ∷ rest) = elim (test first) [ Some a ↦ Ok (a, rest) | None ↦ Err (first ∷ rest) ]

abbrev pub place : List Lexeme → ℕ
place [] = 0
place (first ∷ rest) = first.at

abbrev pub sees : Mark → List Lexeme → Bool
sees m [] = false
sees m (first ∷ rest) = is_mark m first.word

abbrev pub after : Mark → List Lexeme → List Lexeme
after m words = if sees m words then drop 1 words else words

abbrev pub expect : Mark → Reader ℕ
expect m = λ words. if sees m words then Ok (place words, drop 1 words) else Err words

-- what the taking of a mark ensures, where it needn't come next
abbrev pub Eats : Mark → List Lexeme → Option ℕ → List Lexeme → Type 0
Eats m old (Some at) new = (sees m old ≡ true) × (at ≡ place old) × (new ≡ drop 1 old)
Eats m old None new = (sees m old ≡ false) × (new ≡ old)

-- Reads on with the first where this mark comes next, and with the second where it doesn't. The first is told its place.
abbrev pub ahead_at : {A : Type 0} → Mark → (ℕ → Reader A) → Reader A → Reader A
ahead_at m f g = λ words. if sees m words then f (place words) (drop 1 words) else g words

abbrev pub ahead : {A : Type 0} → Mark → Reader A → Reader A → Reader A
ahead m f g = ahead_at m (λ _. f) g

-- by the first word: one of these marks and what it leads to, or something else
abbrev pub chosen : {A B : Type 0} → List (Mark × B) → (B → Reader A) → Reader A → Reader A
chosen [] f g = g
chosen (x ∷ rest) f g = ahead x.0 (f x.1) (chosen rest f g)

abbrev pub is_name : Word → Bool
is_name (w.Name n) = true
is_name _ = false

abbrev pub sees_name : List Lexeme → Bool
sees_name [] = false
sees_name (first ∷ rest) = is_name first.word

abbrev pub comparison : Word → Option Op
comparison (w.Compare o) = Some o
comparison _ = None

abbrev pub sees_compare : List Lexeme → Option Op
sees_compare [] = None
sees_compare (first ∷ rest) = comparison first.word

abbrev pub after_compare : List Lexeme → List Lexeme
after_compare words = elim (sees_compare words) [ Some o ↦ drop 1 words | None ↦ words ]

abbrev pub compares : List Lexeme → Bool
compares words = elim (sees_compare words) [ Some o ↦ true | None ↦ false ]

abbrev pub read_compare : Reader Op
read_compare words = elim (sees_compare words) [ Some o ↦ Ok (o, drop 1 words) | None ↦ Err words ]

abbrev pub is_equal : Option Op → Bool
is_equal (Some op.Eq) = true
is_equal _ = false

abbrev pub equal_of : Lexeme → Option (Unit {0})
equal_of first = if is_equal (comparison first.word) then Some tt else None

unfoldable pub expect_equal : Reader (Unit {0})
expect_equal = by_test equal_of

abbrev pub expect_end : Reader (Unit {0})
expect_end [] = Ok (tt, [])
expect_end (first ∷ rest) = Err (first ∷ rest)

-- ---- names

abbrev pub name_of : Lexeme → Option NameAt
name_of first = elim first.word [ w.Name n ↦ Some (record { name = n; at = first.at }) | _ ↦ None ]

unfoldable pub read_name : Reader NameAt
read_name = by_test name_of

-- ---- literals

-- the signed number of a literal behind a sign, and of one without
abbrev pub negated : ℕ → Option ℤ
negated n = if nat_le n (2 ^ 63) then Some (minus n) else None

abbrev pub plain : ℕ → Option ℤ
plain n = if nat_lt n (2 ^ 63) then Some (pos n) else None

-- the literal that a word is behind a sign, and without one
abbrev pub negative_word : Word → Option LitAst
negative_word (w.Number n) = option_map lit.Int (negated n)
negative_word _ = None

abbrev pub constant_word : Word → Option LitAst
constant_word (w.Number n) = option_map lit.Int (plain n)
constant_word (w.Text t) = Some (lit.Text t)
constant_word _ = None

-- a literal with this value, and a place
abbrev pub valued : ℕ → Option LitAst → Option LiteralAst
valued at value = option_map (λ v. record { value = v; at = at }) value

unfoldable pub negative : ℕ → Reader LiteralAst
negative at = by_test (λ first. valued at (negative_word first.word))

unfoldable pub constant : Reader LiteralAst
constant = by_test (λ first. valued first.at (constant_word first.word))

-- ---- lists of one or more, with commas between; the number bounds how many

unfoldable pub listed_behind : {A : Type 0} → Reader A → ℕ → List A → Reader (List A)
listed_behind f zero front = refuse
listed_behind f (suc n) front = do
  a ← f
  ahead (m.Sign sign_of.Comma) (listed_behind f n (front ++ a ∷ [])) (pure (front ++ a ∷ []))

abbrev pub listed : {A : Type 0} → Reader A → ℕ → Reader (List A)
listed f n = listed_behind f n []

-- what the reader reads, and then the end
abbrev pub alone : {A : Type 0} → Reader A → Reader A
alone f = do
  a ← f
  expect_end
  pure a
