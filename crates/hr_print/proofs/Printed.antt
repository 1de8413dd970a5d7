-- Parts of a tree whose text says words that the grammar reads again as that part, apart from places.
use Rattle.std.proofs.Common.{◌≡◌, ◌≤◌, ℕ, suc, ◌+◌, Bool, true, false, if◌then◌else◌, List, [], ◌∷◌, ◌++◌, codes, refl, sym, ◌∙◌, ap, subst, arith}
use Rattle.std.proofs.lemmas.List.{map-append}
use Rattle.std.specs.List.{AllByRecursion}
use Rattle.hr_lex.specs.Tokens.{reading}
use Rattle.hr_parse.specs.declared.word.Mark.TheVariants as m
use Rattle.hr_parse.specs.declared.word.Sign.TheVariants as sg
use Rattle.hr_parse.specs.declared.word.Word.{Word}
use Rattle.hr_parse.specs.declared.word.Lexeme.{Lexeme}
use Rattle.hr_parse.specs.Words.{is_mark}
use Rattle.hr_print.specs.Canonical.{says, opened}
use Rattle.hr_print.proofs.Spelled.{Says, Any, says_both}
use Rattle.hr_print.proofs.SaidSigns.{said_blank}
use Rattle.hr_print.proofs.ValidWords.{IsValid}

-- ---- words of two parts

-- lexemes that say the words of two parts are those of the one and then those of the other
pub record Split (us : List Lexeme) (a b : List Word) : Type 0 where
  pub left : List Lexeme
  pub right : List Lexeme
  pub whole : us ≡ left ++ right
  pub first : says left ≡ a
  pub second : says right ≡ b

pub split : (a b : List Word) (us : List Lexeme) → says us ≡ a ++ b → Split us a b
split [] b us e = record { left = []; right = us; whole = refl; first = refl; second = e }
split (x ∷ a) b [] e = absurd (cc)
split (x ∷ a) b (y ∷ us) e =
    let head : y.word ≡ x = cc in
    let tail : says us ≡ a ++ b = cc in
    let s = split a b us tail in
    record { left = y ∷ s.left; right = s.right; whole = ap (λ z. y ∷ z) s.whole; first = cc (head, s.first); second = s.second }

opened_first : (b : Bool) (n k i : ℕ) → n ≡ k + i → (if b then suc n else n) ≡ (if b then suc k else k) + i
opened_first true n k i e = omega (arith, e)
opened_first false n k i e = e

pub opened_both : (u v : List Word) → opened (u ++ v) ≡ opened u + opened v
opened_both [] v = omega arith
opened_both (x ∷ u) v = opened_first (is_mark (m.Sign sg.LeftParen) x) (opened (u ++ v)) (opened u) (opened v) (opened_both u v)

-- ---- what is printed

-- The text says words before such a rest; lexemes that say these words are in the language, with a tree for which E;
-- and at most so many of them open a parenthesis.
pub record Printed {A : Type 0} (F : List ℕ → Type 0) (text : List ℕ) (L : List Lexeme → A → Type 0) (E : A → Type 0) (most : ℕ) : Type 0 where
  pub words : List Word
  pub spelled : Says F text words
  pub gives : (us : List Lexeme) → says us ≡ words → (b : A) × L us b × E b
  pub few : opened words ≤ most

-- a tree that is such a tree apart from places
abbrev pub Like : {A : Type 0} → (A → A) → A → A → Type 0
Like f a b = f b ≡ f a

pub ap_two : {A B C : Type 0} (f : A → B → C) {a c : A} {b d : B} → a ≡ c → b ≡ d → f a b ≡ f c d
ap_two f {a} {c} {b} {d} e h = ap (λ x. f x b) e ∙ ap (f c) h

-- ---- how parts are put together

-- a word at a place
pub data The (x : Word) : List Lexeme → ℕ → Type 0 where
  the : (p : ℕ) → The x (record { word = x; at = p } ∷ []) p

-- one part and then another
pub data Both {A B : Type 0} (L : List Lexeme → A → Type 0) (M : List Lexeme → B → Type 0) : List Lexeme → A × B → Type 0 where
  both : {u v : List Lexeme} {a : A} {b : B} → L u a → M v b → Both L M (u ++ v) (a, b)

the_word : (x : Word) (us : List Lexeme) → says us ≡ x ∷ [] → (p : ℕ) × The x us p × Unit {0}
the_word x [] e = absurd (cc)
the_word x (y ∷ []) e =
    let same : x ≡ y.word = cc in
    (y.at, subst (λ z. The x (record { word = z; at = y.at } ∷ []) y.at) same (The.the y.at), tt)
the_word x (y ∷ z ∷ us) e = absurd (cc)

pub fixed : {F : List ℕ → Type 0} {text : List ℕ} (x : Word) → Says F text (x ∷ []) → Printed F text (The x) (λ _. Unit {0}) (opened (x ∷ []))
fixed x h = record { words = x ∷ []; spelled = h; gives = the_word x; few = omega arith }

joined_parts : {A B : Type 0} {L : List Lexeme → A → Type 0} {M : List Lexeme → B → Type 0} {E : A → Type 0} {D : B → Type 0} (us : List Lexeme) (u v : List Lexeme)
    → us ≡ u ++ v → ((b : A) × L u b × E b) → ((b : B) × M v b × D b) → (p : A × B) × Both L M us p × (E p.0 × D p.1)
joined_parts {L} {M} us u v e one two = ((one.0, two.0), subst (λ z. Both L M z (one.0, two.0)) (sym e) (Both.both one.1 two.1), (one.2, two.2))

pub pair : {A B : Type 0} {F G : List ℕ → Type 0} {s t : List ℕ} {L : List Lexeme → A → Type 0} {M : List Lexeme → B → Type 0} {E : A → Type 0} {D : B → Type 0} {n k : ℕ}
    → Printed F s L E n → Printed G t M D k → ((rest : List ℕ) → G rest → F (t ++ rest)) → Printed G (s ++ t) (Both L M) (λ p. E p.0 × D p.1) (n + k)
pair {s} {t} p q link =
    let all : opened (p.words ++ q.words) ≡ opened p.words + opened q.words = opened_both p.words q.words in
    record {
      words = p.words ++ q.words;
      spelled = says_both s t p.words q.words p.spelled q.spelled link;
      gives = λ us e. let x = split p.words q.words us e in joined_parts us x.left x.right x.whole (p.gives x.left x.first) (q.gives x.right x.second);
      few = omega (arith, all, p.few, q.few);
    }

pub change : {A C : Type 0} {F : List ℕ → Type 0} {t : List ℕ} {L : List Lexeme → A → Type 0} {M : List Lexeme → C → Type 0} {E : A → Type 0} {D : C → Type 0} {n k : ℕ}
    → Printed F t L E n → ((us : List Lexeme) (b : A) → L us b → E b → (c : C) × M us c × D c) → n ≤ k → Printed F t M D k
change p f h = record {
  words = p.words;
  spelled = p.spelled;
  gives = λ us e. let one = p.gives us e in f us one.0 one.1 one.2;
  few = omega (arith, p.few, h);
}

-- what may stand anywhere may stand before such a rest
pub anywhere : {A : Type 0} {F : List ℕ → Type 0} {t : List ℕ} {L : List Lexeme → A → Type 0} {E : A → Type 0} {n : ℕ} → Printed Any t L E n → Printed F t L E n
anywhere p = record { words = p.words; spelled = λ front rest h. p.spelled front rest tt; gives = p.gives; few = p.few }

-- a blank before it says nothing
pub spaced : {A : Type 0} {F : List ℕ → Type 0} {t : List ℕ} {L : List Lexeme → A → Type 0} {E : A → Type 0} {n : ℕ} → Printed F t L E n → Printed F (codes " " ++ t) L E n
spaced {t} p = record { words = p.words; spelled = says_both (codes " ") t [] p.words said_blank p.spelled (λ rest h. tt); gives = p.gives; few = p.few }

-- the same text, written otherwise
pub retext : {A : Type 0} {F : List ℕ → Type 0} {L : List Lexeme → A → Type 0} {E : A → Type 0} {n : ℕ} (s t : List ℕ) → s ≡ t → Printed F s L E n → Printed F t L E n
retext {F} {L} {E} {n} s t e p = subst (λ z. Printed F z L E n) e p

no_words : {A : Type 0} (L : List Lexeme → A → Type 0) (E : A → Type 0) (b : A) → L [] b → E b → (us : List Lexeme) → says us ≡ [] → (c : A) × L us c × E c
no_words L E b l h [] e = (b, l, h)
no_words L E b l h (x ∷ us) e = absurd (cc)

pub nothing : {A : Type 0} {F : List ℕ → Type 0} {L : List Lexeme → A → Type 0} {E : A → Type 0} (n : ℕ) (b : A) → L [] b → E b → Printed F [] L E n
nothing {L} {E} n b l h = record {
  words = [];
  spelled = λ front rest f. record { tokens = []; reads = ap (λ n. reading 0 n rest) (omega arith); says = refl };
  gives = no_words L E b l h;
  few = omega arith;
}

-- ---- words that may be printed

abbrev pub Valid : List Lexeme → Type 0
Valid u = AllByRecursion (λ x. IsValid x.word) u

pub valid_left : (u v : List Lexeme) → Valid (u ++ v) → Valid u
valid_left [] v h = tt
valid_left (x ∷ u) v h = (h.0, valid_left u v h.1)

pub valid_right : (u v : List Lexeme) → Valid (u ++ v) → Valid v
valid_right [] v h = h
valid_right (x ∷ u) v h = valid_right u v h.1

-- how many parentheses open in lexemes
abbrev pub count : List Lexeme → ℕ
count u = opened (says u)

pub count_both : (u v : List Lexeme) → count (u ++ v) ≡ count u + count v
count_both u v = ap opened (map-append (λ x. x.word) u v) ∙ opened_both (says u) (says v)
