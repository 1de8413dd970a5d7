-- A reader that reads a language, and then the end: what is read is in the language, what is in it is read, and the
-- first word that is refused is unexpected.
use Rattle.std.proofs.Common.{◌≡◌, ◌⊎◌, inl, inr, ℕ, ◌+◌, List, [], ◌∷◌, ◌++◌, length, Ok, Err, refl, sym, ◌∙◌, ap, subst, arith}
use Rattle.std.proofs.lemmas.List.{append-nil, length-append}
use Rattle.hr_parse.specs.declared.word.Lexeme.{Lexeme}
use Rattle.hr_parse.specs.Readers.{Outcome, Reader, and_then, pure, expect_end, alone}
use Rattle.hr_parse.specs.Parse.{Begins, UnexpectedAt, Unended}
use Rattle.hr_parse.proofs.Shapes.{Shape}
use Rattle.hr_parse.proofs.Rules.{Took, Whole, Rule, ok_parts}
use Rattle.hr_parse.proofs.Operands.{Fits}

bind_ok : {A B : Type 0} (r : Outcome A) (g : A → Reader B) (y : B × List Lexeme) → and_then r g ≡ Ok y → (p : A × List Lexeme) × (r ≡ Ok p) × (g p.0 p.1 ≡ Ok y)
bind_ok (Ok p) g y e = (p, refl, e)
bind_ok (Err w) g y e = absurd (cc)

bind_err : {A B : Type 0} (r : Outcome A) (g : A → Reader B) (t : List Lexeme) → and_then r g ≡ Err t → (r ≡ Err t) ⊎ ((p : A × List Lexeme) × (r ≡ Ok p) × (g p.0 p.1 ≡ Err t))
bind_err (Ok p) g t e = inr (p, refl, e)
bind_err (Err w) g t e = let q : w ≡ t = cc in inl (ap Err q)

-- the end behind what was read
abbrev ended : {A : Type 0} → A → Reader A
ended a words = and_then (expect_end words) (λ _. pure a)

ended_ok : {A : Type 0} (a b : A) (m t : List Lexeme) → ended a m ≡ Ok (b, t) → (m ≡ []) × (a ≡ b)
ended_ok a b [] t e = (refl, (ok_parts a b [] t e).0)
ended_ok a b (x ∷ m) t e = absurd (cc)

-- why words are refused, from these on
abbrev pub Cause : {A : Type 0} → (List Lexeme → A → Type 0) → List Lexeme → List Lexeme → Type 0
Cause L s [] = Unended L s
Cause L s (x ∷ rest) = UnexpectedAt L x.at s

pub begins_all : {A : Type 0} (L : List Lexeme → A → Type 0) (s : List Lexeme) (a : A) → L s a → Begins L s
begins_all L s a l = ([], a, subst (λ z. L z a) (sym (append-nil s)) l)

fits_front : (k n : ℕ) (front s rest : List Lexeme) → s ≡ front ++ rest → Fits k n (length s) → Fits k n (length front)
fits_front k n front s rest e fits = let z : length s ≡ length front + length rest = ap length e ∙ length-append front rest in omega (arith, z, fits)

module _ {A : Type 0} (k n : ℕ) (f : Reader A) (L : List Lexeme → A → Type 0) (c : Shape) (rule : Rule f L c (Fits k n)) where
  pub read_is : (s t : List Lexeme) (a : A) → alone f s ≡ Ok (a, t) → L s a
  read_is s t a e =
      let z = bind_ok (f s) ended (a, t) e in
      let one : Took f L s (Ok z.0) = rule.took s (Ok z.0) z.1 in
      let last = ended_ok z.0.0 a z.0.1 t z.2 in
      let split : s ≡ one.front = one.split ∙ (ap (λ w. one.front ++ w) last.0 ∙ append-nil one.front) in
      subst (λ w. L w a) (sym split) (subst (λ w. L one.front w) last.1 one.gives)

  whole : (s : List Lexeme) (a : A) → L s a → Whole f (Fits k n) s a []
  whole s a l = subst (λ w. Whole f (Fits k n) w a []) (append-nil s) (rule.whole s a l [] tt)

  read_of_whole : (s : List Lexeme) (a : A) → Fits k n (length s) → Whole f (Fits k n) s a [] → f s ≡ Ok (a, [])
  read_of_whole s a fits (inl e) = e
  read_of_whole s a fits (inr z) = absurd (z.late (fits_front k n z.front s z.rest z.split fits))

  read_part : (s : List Lexeme) (a : A) → L s a → Fits k n (length s) → f s ≡ Ok (a, [])
  read_part s a l fits = read_of_whole s a fits (whole s a l)

  pub is_read : (s : List Lexeme) (a : A) → L s a → Fits k n (length s) → alone f s ≡ Ok (a, [])
  is_read s a l fits = rw (read_part s a l fits) refl

  -- ---- where it stops, nothing of the language goes on

  none_behind : (front : List Lexeme) (x : Lexeme) (w : List Lexeme) (a b : A) → f (front ++ x ∷ w) ≡ Ok (b, x ∷ w) → Whole f (Fits k n) (front ++ x ∷ w) a [] → ⊥
  none_behind front x w a b e (inl z) = let q = (ok_parts b a (x ∷ w) [] (sym e ∙ z)).1 in absurd (cc)
  none_behind front x w a b e (inr z) = let q = z.stops in absurd (cc)

  none_here : (front : List Lexeme) (x : Lexeme) (w : List Lexeme) (a : A) → f (front ++ x ∷ w) ≡ Err (x ∷ w) → Fits k n (length front) → Whole f (Fits k n) (front ++ x ∷ w) a [] → ⊥
  none_here front x w a e fits (inl z) = absurd (cc)
  none_here front x w a e fits (inr z) =
      let rest : z.rest ≡ x ∷ w = cc (z.stops) in
      let one : length (front ++ x ∷ w) ≡ length front + length (x ∷ w) = length-append front (x ∷ w) in
      let two : length (front ++ x ∷ w) ≡ length z.front + length z.rest = ap length z.split ∙ length-append z.front z.rest in
      let three : length z.rest ≡ length (x ∷ w) = ap length rest in
      let same : length front ≡ length z.front = omega (arith, one, two, three) in
      z.late (subst (Fits k n) same fits)

  refused_within : (s t : List Lexeme) → Fits k n (length s) → Took f L s (Err t) → f s ≡ Err t → Cause L s t
  refused_within s [] fits z e =
      let all : s ≡ z.front = z.split ∙ append-nil z.front in
      (subst (Begins L) (sym all) z.gives, λ a l. let q = read_part s a l fits in absurd (cc))
  refused_within s (x ∷ v) fits z e =
      (z.front, x, v, z.split, refl, z.gives, λ w a l. none_here z.front x w a (z.same x v w refl) (fits_front k n z.front s (x ∷ v) z.split fits) (whole (z.front ++ x ∷ w) a l))

  refused_behind : (s : List Lexeme) (a : A) (m t : List Lexeme) → Took f L s (Ok (a, m)) → ended a m ≡ Err t → Cause L s t
  refused_behind s a [] t one e = absurd (cc)
  refused_behind s a (x ∷ r) t one e =
      let q : (x ∷ r) ≡ t = cc in
      subst (λ w. Cause L s w) q (one.front, x, r, one.split, refl, begins_all L one.front a one.gives, λ w b l. none_behind one.front x w b a (one.same x r w refl) (whole (one.front ++ x ∷ w) b l))

  pub refused : (s t : List Lexeme) → Fits k n (length s) → alone f s ≡ Err t → Cause L s t
  refused s t fits e = elim (bind_err (f s) ended t e) [
    | inl h ↦ refused_within s t fits (rule.took s (Err t) h) h
    | inr z ↦ refused_behind s z.0.0 z.0.1 t (rule.took s (Ok z.0) z.1) z.2
  ]
