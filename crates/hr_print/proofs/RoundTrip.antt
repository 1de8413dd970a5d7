-- A printed text is read again as its tree apart from places, and no text of that tree has fewer parentheses.
use Rattle.std.proofs.Common.{◌≡◌, ◌≤◌, ℕ, zero, Bool, true, false, nat_lt, List, [], ◌∷◌, length, None, refl, sym, ◌∙◌, ap, subst, arith}
use Rattle.std.proofs.lemmas.List.{append-nil}
use Rattle.std.proofs.lemmas.Bool.Decides.{nat_tests}
use Rattle.std.specs.List.{AllByRecursion}
use Rattle.hr_lex.specs.Tokens.{read_of, reading}
use Rattle.hr_parse.specs.declared.ast.Ast.{Ast}
use Rattle.hr_parse.specs.declared.word.Word.{Word}
use Rattle.hr_parse.specs.declared.word.Lexeme.{Lexeme}
use Rattle.hr_parse.specs.Grammar.{IsStatement}
use Rattle.hr_parse.specs.Lexemes.{lexemes}
use Rattle.hr_parse.specs.Parse.{IsTextOf, words, error}
use Rattle.hr_print.specs.Print.{text}
use Rattle.hr_print.specs.Places.{bare}
use Rattle.hr_print.specs.Canonical.{Alike, IsRead, says, opened, parentheses}
use Rattle.hr_print.proofs.Spelled.{Read, Ends}
use Rattle.hr_print.proofs.ValidWords.{IsValid, valid_words}
use Rattle.hr_print.proofs.Printed.{Printed, Like, Valid}
use Rattle.hr_print.proofs.PrintedStatements.{printed_statement}
use Rattle.hr_print.proofs.OneText.{one_text}

valid_lexemes : (u : List Lexeme) → AllByRecursion IsValid (says u) → Valid u
valid_lexemes [] h = tt
valid_lexemes (x ∷ u) h = (h.0, valid_lexemes u h.1)

-- what a text of a tree says, when the tree is printed
printed : (t : List ℕ) (a : Ast) → IsTextOf t a → Printed Ends (text a) IsStatement (Like bare a) (parentheses t)
printed t a h = printed_statement (words t) a h.1 (valid_lexemes (words t) (valid_words t))

-- a whole text that is short enough is read so
record Whole (bytes : List ℕ) (ws : List Word) : Type 0 where
  none : error bytes ≡ None
  said : says (words bytes) ≡ ws

read_whole : (bytes : List ℕ) (ws : List Word) → length bytes ≤ 1024 → Read [] bytes [] ws → Whole bytes ws
read_whole bytes ws short r =
    let fits : nat_lt 1024 (length bytes) ≡ false = grind (arith, nat_tests, short) in
    let all : reading zero 0 bytes ≡ record { tokens = r.tokens; error = None } =
    ap (reading zero 0) (sym (append-nil bytes)) ∙ r.reads ∙ ap (λ z. record { tokens = z; error = None }) (append-nil r.tokens) in
    let whole : read_of bytes ≡ record { tokens = r.tokens; error = None } = rw fits all in
    record {
      none = ap (λ z. z.error) whole;
      said = ap (λ z. says (lexemes bytes z.tokens)) whole ∙ ap (λ z. says (lexemes z r.tokens)) (sym (append-nil bytes)) ∙ r.says;
    }

reread_text : (t : List ℕ) (a : Ast) → IsTextOf t a → length (text a) ≤ 1024 → (b : Ast) × IsTextOf (text a) b × Alike b a
reread_text t a h short =
    let p = printed t a h in
    let whole = read_whole (text a) p.words short (p.spelled [] [] tt) in
    let found = p.gives (words (text a)) whole.said in
    (found.0, (whole.none, found.1), found.2)

reread : (a : Ast) → IsRead a → length (text a) ≤ 1024 → (b : Ast) × IsTextOf (text a) b × Alike b a
reread a h short = reread_text h.0 a h.1 short

-- a text that is too long says nothing
few_words : (bytes : List ℕ) (ws : List Word) (n : ℕ) (v : Bool) → nat_lt 1024 (length bytes) ≡ v → Read [] bytes [] ws → opened ws ≤ n → parentheses bytes ≤ n
few_words bytes ws n true e r few = rw e (omega arith)
few_words bytes ws n false e r few =
    let short : length bytes ≤ 1024 = grind (arith, nat_tests, e) in
    let whole = read_whole bytes ws short r in
    rw (whole.said) few

fewest : (a b : Ast) (t : List ℕ) → IsTextOf t b → Alike b a → parentheses (text a) ≤ parentheses t
fewest a b t h e =
    let p = printed t b h in
    subst (λ z. parentheses z ≤ parentheses t) (one_text b a e) (few_words (text b) p.words (parentheses t) (nat_lt 1024 (length (text b))) refl (p.spelled [] [] tt) p.few)

-- ---- bytes that are the text of a tree

pub reread_bytes : (a : Ast) (bytes : List ℕ) → bytes ≡ text a → IsRead a → length bytes ≤ 1024 → (b : Ast) × IsTextOf bytes b × Alike b a
reread_bytes a bytes e = subst (λ z. IsRead a → length z ≤ 1024 → (b : Ast) × IsTextOf z b × Alike b a) (sym e) (reread a)

pub fewest_bytes : (a : Ast) (bytes : List ℕ) → bytes ≡ text a → (t : List ℕ) (b : Ast) → IsTextOf t b → Alike b a → parentheses bytes ≤ parentheses t
fewest_bytes a bytes e t b h k = subst (λ z. parentheses z ≤ parentheses t) (sym e) (fewest a b t h k)
