-- What bytes say wherever they stand, and how such bytes are put together.
use Rattle.std.proofs.Common.{◌≡◌, ℕ, zero, ◌+◌, Bool, true, ◌||◌, ◌==◌, not, List, [], ◌∷◌, ◌++◌, length, map, sym, ◌∙◌, ap, arith, append_assoc}
use Rattle.std.proofs.lemmas.List.{length-append, map-append}
use Rattle.hr_lex.specs.Bytes.{is_name_byte}
use Rattle.hr_lex.specs.Tokens.{Tokens, reading, with_front}
use Rattle.hr_lex.specs.declared.token.Token.{Token}
use Rattle.hr_parse.specs.declared.word.Word.{Word}
use Rattle.hr_parse.specs.declared.word.Lexeme.{Lexeme}
use Rattle.hr_parse.specs.Lexemes.{lexeme_of, lexemes}
use Rattle.hr_print.specs.Canonical.{says}

-- a byte that goes on with no word: it is in no name or number, is no quote, and ends no sign of two bytes
abbrev pub is_apart : ℕ → Bool
is_apart b = not (is_name_byte b || b == 39 || b == 61 || b == 62)

-- what a word that could go on must stand before: the end, or a byte apart
abbrev pub Ends : List ℕ → Type 0
Ends [] = Unit {0}
Ends (b ∷ rest) = is_apart b ≡ true

-- anything
abbrev pub Any : List ℕ → Type 0
Any rest = Unit {0}

-- Between front and rest, the bytes are read as tokens that say these words, and the reading goes on behind them.
pub record Read (front bytes rest : List ℕ) (words : List Word) : Type 0 where
  pub tokens : List Token
  pub reads : reading zero (length front) (bytes ++ rest) ≡ with_front tokens (reading zero (length front + length bytes) rest)
  pub says : says (lexemes (front ++ (bytes ++ rest)) tokens) ≡ words

-- the bytes say these words wherever they stand before such a rest
abbrev pub Says : (List ℕ → Type 0) → List ℕ → List Word → Type 0
Says F bytes words = (front rest : List ℕ) → F rest → Read front bytes rest words

said_both : (text : List ℕ) (s t : List Token) → says (lexemes text (s ++ t)) ≡ says (lexemes text s) ++ says (lexemes text t)
said_both text s t =
    let f : Lexeme → Word = λ x. x.word in
    ap (map f) (map-append (lexeme_of text) s t) ∙ map-append f (map (lexeme_of text) s) (map (lexeme_of text) t)

read_both : (front a b rest : List ℕ) (u v : List Word) → Read front a (b ++ rest) u → Read (front ++ a) b rest v → Read front (a ++ b) rest (u ++ v)
read_both front a b rest u v r s =
    let whole : (front ++ a) ++ (b ++ rest) ≡ front ++ ((a ++ b) ++ rest) = append_assoc front a (b ++ rest) ∙ ap (λ z. front ++ z) (sym (append_assoc a b rest)) in
    let place : length (front ++ a) ≡ length front + length a = length-append front a in
    let far : length (front ++ a) + length b ≡ length front + length (a ++ b) = let k : length (a ++ b) ≡ length a + length b = length-append a b in omega (arith, place, k) in
    let later : Tokens = reading zero (length front + length (a ++ b)) rest in
    let second : reading zero (length front + length a) (b ++ rest) ≡ with_front s.tokens later =
    ap (λ n. reading zero n (b ++ rest)) (sym place) ∙ s.reads ∙ ap (λ n. with_front s.tokens (reading zero n rest)) far in
    record {
      tokens = r.tokens ++ s.tokens;
      reads = ap (reading zero (length front)) (append_assoc a b rest) ∙ r.reads ∙ ap (with_front r.tokens) second
          ∙ ap (λ z. record { tokens = z; error = later.error }) (sym (append_assoc r.tokens s.tokens later.tokens));
      says = said_both (front ++ ((a ++ b) ++ rest)) r.tokens s.tokens
          ∙ ap (λ z. says (lexemes (front ++ z) r.tokens) ++ says (lexemes (front ++ ((a ++ b) ++ rest)) s.tokens)) (append_assoc a b rest)
          ∙ ap (λ z. z ++ says (lexemes (front ++ ((a ++ b) ++ rest)) s.tokens)) r.says
          ∙ ap (λ z. u ++ says (lexemes z s.tokens)) (sym whole)
          ∙ ap (λ z. u ++ z) s.says;
    }

-- bytes behind bytes that may stand before them
pub says_both : {F G : List ℕ → Type 0} (a b : List ℕ) (u v : List Word) → Says F a u → Says G b v → ((rest : List ℕ) → G rest → F (b ++ rest)) → Says G (a ++ b) (u ++ v)
says_both a b u v f g link front rest h = read_both front a b rest u v (f front (b ++ rest) (link rest h)) (g (front ++ a) rest h)

-- bytes that stand anywhere stand before an end
pub says_before : (a : List ℕ) (u : List Word) → Says Any a u → Says Ends a u
says_before a u f front rest h = f front rest tt
