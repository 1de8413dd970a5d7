-- How what a rule gives may begin, whether it may be no words, and which words would go on with it.
use Rattle.std.proofs.Common.{◌≡◌, ℕ, ◌+◌, ◌==◌, Bool, true, false, if◌then◌else◌, List, [], ◌∷◌, ◌++◌, refl, sym, ◌∙◌, subst, arith}
use Rattle.std.proofs.lemmas.Bool.Decides.{nat_tests}
use denote.Enum.Declared.{tag_of}
use Rattle.hr_lex.specs.contracts.token.Keyword as keywords
use Rattle.hr_parse.specs.contracts.word.Sign as signs
use Rattle.hr_parse.specs.declared.word.Mark.{Mark}
use Rattle.hr_parse.specs.declared.word.Mark.TheVariants as m
use Rattle.hr_parse.specs.declared.word.Word.{Word}
use Rattle.hr_parse.specs.declared.word.Word.TheVariants as w
use Rattle.hr_parse.specs.declared.word.Lexeme.{Lexeme}

-- ---- kinds of words, each with a number

abbrev pub kind : Word → ℕ
kind (w.Name n) = 0
kind (w.Number n) = 1
kind (w.Text t) = 1
kind (w.Compare o) = 2
kind (w.Fixed (m.Sign s)) = 3 + tag_of signs.the_type s
kind (w.Fixed (m.Keyword k)) = 20 + tag_of keywords.the_type k

abbrev pub among : List ℕ → ℕ → Bool
among [] k = false
among (j ∷ js) k = if j == k then true else among js k

-- no kind is in both
abbrev pub apart : List ℕ → List ℕ → Bool
apart js [] = true
apart js (k ∷ ks) = if among js k then false else apart js ks

abbrev pub only : Mark → List ℕ
only k = kind (w.Fixed k) ∷ []

either_false : (a b : Bool) → (if a then true else b) ≡ false → (a ≡ false) × (b ≡ false)
either_false true b e = absurd (cc)
either_false false b e = (refl, e)

among_neither : (js ks : List ℕ) (k : ℕ) → among (js ++ ks) k ≡ false → (among js k ≡ false) × (among ks k ≡ false)
among_neither [] ks k e = (refl, e)
among_neither (j ∷ js) ks k e =
    let h = either_false (j == k) (among (js ++ ks) k) e in
    let t = among_neither js ks k h.1 in
    (rw (h.0) (t.0), t.1)

among_both : (js ks : List ℕ) (k : ℕ) → among js k ≡ false → among ks k ≡ false → among (js ++ ks) k ≡ false
among_both [] ks k e h = h
among_both (j ∷ js) ks k e h = let q = either_false (j == k) (among js k) e in rw (q.0) (among_both js ks k q.1 h)

-- each kind of the one is in the other
abbrev pub inside : List ℕ → List ℕ → Bool
inside [] ks = true
inside (j ∷ js) ks = if among ks j then inside js ks else false

pub and_true : (a b : Bool) → (if a then b else false) ≡ true → (a ≡ true) × (b ≡ true)
and_true true b e = (refl, e)
and_true false b e = absurd (cc)

inside_head : (js ks : List ℕ) (j k : ℕ) (b : Bool) → (j == k) ≡ b → among ks j ≡ true → among ks k ≡ false → among js k ≡ false → (if b then true else among js k) ≡ false
inside_head js ks j k false s e h r = r
inside_head js ks j k true s e h r =
    let same : j ≡ k = grind (arith, nat_tests, s) in
    let z = subst (λ y. among ks y ≡ true) same e in
    absurd (cc)

among_inside : (js ks : List ℕ) (k : ℕ) → inside js ks ≡ true → among ks k ≡ false → among js k ≡ false
among_inside [] ks k e h = refl
among_inside (j ∷ js) ks k e h = let q = and_true (among ks j) (inside js ks) e in inside_head js ks j k (j == k) refl q.0 h (among_inside js ks k q.1 h)

grows : (a b c : Bool) → (b ≡ true → c ≡ true) → (if a then true else b) ≡ true → (if a then true else c) ≡ true
grows true b c h e = refl
grows false b c h e = h e

pub among_first : (js ks : List ℕ) (k : ℕ) → among js k ≡ true → among (js ++ ks) k ≡ true
among_first [] ks k e = absurd (cc)
among_first (j ∷ js) ks k e = grows (j == k) (among js k) (among (js ++ ks) k) (among_first js ks k) e

pub or_second : (a b : Bool) → b ≡ true → (if a then true else b) ≡ true
or_second true b e = refl
or_second false b e = e

pub among_second : (js ks : List ℕ) (k : ℕ) → among ks k ≡ true → among (js ++ ks) k ≡ true
among_second [] ks k e = e
among_second (j ∷ js) ks k e = or_second (j == k) (among (js ++ ks) k) (among_second js ks k e)

apart_head : (js ks : List ℕ) (j k : ℕ) (a b : Bool) → (j == k) ≡ a → among js j ≡ b → (apart js ks ≡ true → among ks k ≡ true → among js k ≡ false)
    → (if b then false else apart js ks) ≡ true → (if a then true else among ks k) ≡ true → among js k ≡ false
apart_head js ks j k a true s t rest e h = absurd (cc)
apart_head js ks j k true false s t rest e h = let same : j ≡ k = grind (arith, nat_tests, s) in subst (λ z. among js z ≡ false) same t
apart_head js ks j k false false s t rest e h = rest e h

among_apart : (js ks : List ℕ) (k : ℕ) → apart js ks ≡ true → among ks k ≡ true → among js k ≡ false
among_apart js [] k e h = absurd (cc)
among_apart js (j ∷ ks) k e h = apart_head js ks j k (j == k) (among js j) refl refl (among_apart js ks k) e h

pub apart_none : (ks : List ℕ) → apart [] ks ≡ true
apart_none [] = refl
apart_none (k ∷ ks) = apart_none ks

pub equal_self : (n : ℕ) → (n == n) ≡ true
equal_self n = grind (arith, nat_tests)

-- ---- shapes

-- the kinds by which it may begin, whether it may be no words, and the kinds that would go on with it
pub record Shape : Type 0 where
  pub starts : List ℕ
  pub empty : Bool
  pub stops : List ℕ

-- one word of such a kind
abbrev pub word : List ℕ → Shape
word ks = record { starts = ks; empty = false; stops = [] }

abbrev pub a_mark : Mark → Shape
a_mark k = word (only k)

abbrev pub nothing : Shape
nothing = record { starts = []; empty = true; stops = [] }

-- one behind the other
infixr 20 ◌▸◌
abbrev pub ◌▸◌ : Shape → Shape → Shape
s ▸ t = record {
  starts = if s.empty then t.starts ++ s.starts else s.starts;
  empty = if s.empty then t.empty else false;
  stops = if t.empty then t.stops ++ s.stops else t.stops;
}

-- either
infixr 15 ◌∥◌
abbrev pub ◌∥◌ : Shape → Shape → Shape
s ∥ t = record { starts = s.starts ++ t.starts; empty = t.empty; stops = if t.empty then (s.stops ++ t.stops) ++ s.starts else s.stops ++ t.stops }

-- words that begin so
abbrev pub Begins : Shape → List Lexeme → Type 0
Begins s [] = s.empty ≡ true
Begins s (x ∷ u) = among s.starts (kind x.word) ≡ true

-- words that don't begin with one of these kinds
abbrev pub Stops : List ℕ → List Lexeme → Type 0
Stops ks [] = Unit {0}
Stops ks (x ∷ t) = among ks (kind x.word) ≡ false

pub stops_none : (t : List Lexeme) → Stops [] t
stops_none [] = tt
stops_none (x ∷ t) = refl

pub stops_neither : (js ks : List ℕ) (t : List Lexeme) → Stops (js ++ ks) t → Stops js t × Stops ks t
stops_neither js ks [] st = (tt, tt)
stops_neither js ks (x ∷ t) st = among_neither js ks (kind x.word) st

pub stops_inside : (js ks : List ℕ) → inside js ks ≡ true → (t : List Lexeme) → Stops ks t → Stops js t
stops_inside js ks e [] st = tt
stops_inside js ks e (x ∷ t) st = among_inside js ks (kind x.word) e st

pub stops_join : (js ks : List ℕ) (t : List Lexeme) → Stops js t → Stops ks t → Stops (js ++ ks) t
stops_join js ks [] st so = tt
stops_join js ks (x ∷ t) st so = among_both js ks (kind x.word) st so

-- where the second may be nothing, what would go on with the first may not follow either
pub stops_both : (e : Bool) (js ks : List ℕ) (t : List Lexeme) → Stops (if e then js ++ ks else js) t → Stops js t × (e ≡ true → Stops ks t)
stops_both true js ks t st = let k = stops_neither js ks t st in (k.0, λ h. k.1)
stops_both false js ks t st = (st, λ h. absurd (cc))

-- what begins so doesn't go on with such words
pub stops_before : (js : List ℕ) (s : Shape) (u t : List Lexeme) → apart js s.starts ≡ true → Begins s u → (s.empty ≡ true → Stops js t) → Stops js (u ++ t)
stops_before js s [] t e b st = st b
stops_before js s (x ∷ u) t e b st = among_apart js s.starts (kind x.word) e b

begins_by : (e : Bool) (js ks : List ℕ) (k : ℕ) → among ks k ≡ true → among (if e then js ++ ks else ks) k ≡ true
begins_by true js ks k h = among_second js ks k h
begins_by false js ks k h = h

pub begins_both : (s t : Shape) (u v : List Lexeme) → Begins s u → Begins t v → Begins (s ▸ t) (u ++ v)
begins_both s t [] [] b d = rw b d
begins_both s t [] (x ∷ v) b d = rw b (among_first t.starts s.starts (kind x.word) d)
begins_both s t (x ∷ u) v b d = begins_by s.empty t.starts s.starts (kind x.word) b

pub begins_first : (s t : Shape) (u : List Lexeme) → s.empty ≡ false → Begins s u → Begins (s ∥ t) u
begins_first s t [] e b = absurd (cc)
begins_first s t (x ∷ u) e b = among_first s.starts t.starts (kind x.word) b

pub begins_second : (s t : Shape) (u : List Lexeme) → Begins t u → Begins (s ∥ t) u
begins_second s t [] b = b
begins_second s t (x ∷ u) b = among_second s.starts t.starts (kind x.word) b

pub begins_as : (s t : Shape) → s.starts ≡ t.starts → s.empty ≡ t.empty → (u : List Lexeme) → Begins s u → Begins t u
begins_as s t e h [] b = sym h ∙ b
begins_as s t e h (x ∷ u) b = subst (λ z. among z (kind x.word) ≡ true) e b

pub begins_on : (s : Shape) (u v : List Lexeme) → s.empty ≡ false → Begins s u → Begins s (u ++ v)
begins_on s [] v e b = absurd (cc)
begins_on s (x ∷ u) v e b = b
