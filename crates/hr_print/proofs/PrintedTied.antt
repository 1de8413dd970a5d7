-- What operators tie together, as it is printed.
use Rattle.std.proofs.Common.{◌≡◌, ◌≤◌, ℕ, zero, suc, ◌+◌, nat_lt, Bool, true, false, if◌then◌else◌, List, [], ◌∷◌, ◌++◌, codes, refl, sym, ◌∙◌, ap, subst, arith}
use Rattle.std.proofs.lemmas.List.{append-nil}
use Rattle.hr_parse.specs.declared.word.Mark.{Mark}
use Rattle.hr_parse.specs.declared.word.Mark.TheVariants as m
use Rattle.hr_parse.specs.declared.word.Sign.TheVariants as sg
use Rattle.hr_parse.specs.declared.word.Word.TheVariants as w
use Rattle.hr_parse.specs.declared.word.Lexeme.{Lexeme}
use Rattle.hr_parse.specs.Words.{mark, is_mark, same_mark}
use Rattle.hr_parse.specs.Grammar.{OneOf, Operators, between_parts, Tied}
use Rattle.hr_print.specs.Print.{enclosed}
use Rattle.hr_print.specs.Canonical.{opened}
use Rattle.hr_print.proofs.Spelled.{Says, Any, Ends, says_before}
use Rattle.hr_print.proofs.Printed.{Printed, Like, The, Both, Valid, fixed, pair, change, retext, count, count_both, valid_left, valid_right}
use Rattle.hr_print.proofs.SaidSigns.{said_left, said_right}

-- within parentheses
abbrev pub Enclosed : {A : Type 0} → (List Lexeme → A → Type 0) → List Lexeme → ℕ × (A × ℕ) → Type 0
Enclosed L = Both (The (w.Fixed (m.Sign sg.LeftParen))) (Both L (The (w.Fixed (m.Sign sg.RightParen))))

pub printed_enclosed : {A : Type 0} {t : List ℕ} {L : List Lexeme → A → Type 0} {E : A → Type 0} {n : ℕ} → Printed Ends t L E n
    → Printed Ends (codes "(" ++ (t ++ codes ")")) (Enclosed L) (λ p. Unit {0} × (E p.1.0 × Unit {0})) (suc n)
unfolding same_mark
printed_enclosed {t} h =
    change (pair (fixed (w.Fixed (m.Sign sg.LeftParen)) said_left) (pair h (fixed {F = Ends} (w.Fixed (m.Sign sg.RightParen)) (says_before (codes ")") _ said_right)) (λ r e. refl)) (λ r e. tt))
    (λ us p r e. (p, r, e)) (omega arith)

-- ---- what is known of the texts: `text a 0` is that of a whole, `text a 1` of a group, `text a 2` of a part

-- an operator before a part
pub record Prefix {A : Type 0} (text : A → ℕ → List ℕ) (bare : A → A) (k : Mark) (h : A → A) : Type 0 where
  pub word : List ℕ
  pub said : Says Any word (w.Fixed k ∷ [])
  pub few : opened (w.Fixed k ∷ []) ≡ 0
  pub shown : (a : A) (place : ℕ) → text (h a) place ≡ word ++ text a 2
  pub alike : (a b : A) → Like bare a b → Like bare (h a) (h b)

-- an operator between parts, which stands without parentheses in places up to this one
pub record Infix {A : Type 0} (text : A → ℕ → List ℕ) (bare : A → A) (least : ℕ) (k : Mark) (h : A → A → A) : Type 0 where
  pub word : List ℕ
  pub said : Says Any word (w.Fixed k ∷ [])
  pub few : opened (w.Fixed k ∷ []) ≡ 0
  pub apart : (t rest : List ℕ) → Ends ((word ++ t) ++ rest)
  pub shown : (a b : A) (place : ℕ) → text (h a b) place ≡ enclosed (nat_lt least place) (text a least ++ (word ++ text b (suc least)))
  pub alike : (a b c d : A) → Like bare a c → Like bare b d → Like bare (h a b) (h c d)

-- a part that has one text at all its places
pub record Invariable {A : Type 0} (o : Operators A) (text : A → ℕ → List ℕ) (bare : A → A) (a : A) (n : ℕ) : Type 0 where
  pub same : (place : ℕ) → text a place ≡ text a 2
  pub printed : Printed Ends (text a 2) (Tied o 0) (Like bare a) n

pub record Shown {A : Type 0} (o : Operators A) (text : A → ℕ → List ℕ) (bare : A → A) : Type 0 where
  pub plain : (u : List Lexeme) (a : A) → (o.plain 0).gives u a → Valid u → Invariable o text bare a (count u)
  pub placed_shown : (a : A) (p place : ℕ) → text (o.placed p a) place ≡ text a place
  pub placed_bare : (a : A) (p : ℕ) → bare (o.placed p a) ≡ bare a
  pub before : (k : Mark) (h : A → A) → OneOf o.before k h → Prefix text bare k h
  pub tight : (k : Mark) (h : A → A → A) → OneOf o.tight k h → Infix text bare 1 k h
  pub loose : (k : Mark) (h : A → A → A) → OneOf o.loose k h → Infix text bare 0 k h

-- ---- a tree at each of its places, with at most so many parentheses

no_more : (b : Bool) (n : ℕ) → (let one : ℕ = if b then suc zero else zero in one) ≡ 0 → (let more : ℕ = if b then suc n else n in more) ≡ n
no_more true n e = absurd (cc)
no_more false n e = refl

count_behind : (k : Mark) (p : ℕ) (u : List Lexeme) → opened (w.Fixed k ∷ []) ≡ 0 → count (mark k p ∷ u) ≡ count u
count_behind k p u few = no_more (is_mark (m.Sign sg.LeftParen) (w.Fixed k)) (count u) few

pub record Places {A : Type 0} (o : Operators A) (text : A → ℕ → List ℕ) (bare : A → A) (a : A) (n k i : ℕ) : Type 0 where
  pub loose : Printed Ends (text a 0) (Tied o 2) (Like bare a) n
  pub middle : Printed Ends (text a 1) (Tied o 1) (Like bare a) k
  pub tight : Printed Ends (text a 2) (Tied o 0) (Like bare a) i

module _ {A : Type 0} (o : Operators A) (text : A → ℕ → List ℕ) (bare : A → A) (known : Shown o text bare) where
  weaker : {a : A} {n k i : ℕ} (x y z : ℕ) → Places o text bare a n k i → n ≤ x → k ≤ y → i ≤ z → Places o text bare a x y z
  weaker x y z c e h l = record {
    loose = change c.loose (λ us b r s. (b, r, s)) e;
    middle = change c.middle (λ us b r s. (b, r, s)) h;
    tight = change c.tight (λ us b r s. (b, r, s)) l;
  }

  up : {t : List ℕ} {n : ℕ} (level : ℕ) (a : A) → Printed Ends t (Tied o level) (Like bare a) n → Printed Ends t (Tied o (suc level)) (Like bare a) n
  up level a p = change p (λ us b l e. (b, Tied.one l, e)) (omega arith)

  one_text : (a : A) (n : ℕ) → Invariable o text bare a n → Places o text bare a n n n
  one_text a n t = record {
    loose = retext (text a 2) (text a 0) (sym (t.same 0)) (up 1 a (up 0 a t.printed));
    middle = retext (text a 2) (text a 1) (sym (t.same 1)) (up 0 a t.printed);
    tight = t.printed;
  }

  parens_again : (a : A) (us : List Lexeme) (p : ℕ × (A × ℕ)) → Enclosed (Tied o 2) us p → (Unit {0} × (Like bare a p.1.0 × Unit {0})) → (b : A) × Tied o 0 us b × Like bare a b
  parens_again a us p (Both.both (The.the q) (Both.both l (The.the r))) h = (o.placed q p.1.0, Tied.parens q r l, known.placed_bare p.1.0 q ∙ h.1.0)

  in_parens : (a : A) (t : List ℕ) (n : ℕ) → Printed Ends t (Tied o 2) (Like bare a) n → Printed Ends (codes "(" ++ (t ++ codes ")")) (Tied o 0) (Like bare a) (suc n)
  in_parens a t n p = change (printed_enclosed p) (parens_again a) (omega arith)

  -- an opening parenthesis may move a tree's place, and nothing else
  at_place : {level n : ℕ} (a : A) (p place : ℕ) → Printed Ends (text a place) (Tied o level) (Like bare a) n → Printed Ends (text (o.placed p a) place) (Tied o level) (Like bare (o.placed p a)) n
  at_place {level} {n} a p place x =
      retext (text a place) (text (o.placed p a) place) (sym (known.placed_shown a p place)) (change x (λ us b l e. (b, l, e ∙ sym (known.placed_bare a p))) (omega arith))

  -- ---- operators

  prefix_again : (k : Mark) (h : A → A) → OneOf o.before k h → (a : A) (us : List Lexeme) (p : ℕ × A) → Both (The (w.Fixed k)) (Tied o 0) us p → (Unit {0} × Like bare a p.1) → (b : A) × Tied o 0 us b × Like bare (h a) b
  prefix_again k h one a us p (Both.both (The.the q) l) e = (h p.1, Tied.prefixed q one l, (known.before k h one).alike a p.1 e.1)

  prefix_printed : (k : Mark) (h : A → A) → OneOf o.before k h → (a : A) (n : ℕ) → Printed Ends (text a 2) (Tied o 0) (Like bare a) n → Invariable o text bare (h a) n
  prefix_printed k h one a n p =
      let x = known.before k h one in
      record {
        same = λ place. x.shown a place ∙ sym (x.shown a 2);
        printed = retext (x.word ++ text a 2) (text (h a) 2) (sym (x.shown a 2)) (change (pair (fixed (w.Fixed k) x.said) p (λ r e. tt)) (prefix_again k h one a) (let few = x.few in omega (arith, few)));
      }

  infix_again : (level least : ℕ) (k : Mark) (h : A → A → A) → OneOf (between_parts o level) k h → Infix text bare least k h → (a b : A) (us : List Lexeme) (p : A × (ℕ × A))
      → Both (Tied o (suc level)) (Both (The (w.Fixed k)) (Tied o level)) us p → (Like bare a p.0 × (Unit {0} × Like bare b p.1.1)) → (c : A) × Tied o (suc level) us c × Like bare (h a b) c
  infix_again level least k h one x a b us p (Both.both l (Both.both (The.the q) r)) e = (h p.0 p.1.1, Tied.more q l one r, x.alike a b p.0 p.1.1 e.0 e.1.1)

  infix_printed : (level least : ℕ) (k : Mark) (h : A → A → A) → OneOf (between_parts o level) k h → (x : Infix text bare least k h) → (a b : A) (n i : ℕ)
      → Printed Ends (text a least) (Tied o (suc level)) (Like bare a) n → Printed Ends (text b (suc least)) (Tied o level) (Like bare b) i
      → Printed Ends (text a least ++ (x.word ++ text b (suc least))) (Tied o (suc level)) (Like bare (h a b)) (n + i)
  infix_printed level least k h one x a b n i p q =
      change (pair p (pair (fixed (w.Fixed k) x.said) q (λ r e. tt)) (λ r e. x.apart (text b (suc least)) r)) (infix_again level least k h one x a b) (let few = x.few in omega (arith, few))

  tight_printed : (k : Mark) (h : A → A → A) → OneOf o.tight k h → (a b : A) (n i : ℕ) → Printed Ends (text a 1) (Tied o 1) (Like bare a) n → Printed Ends (text b 2) (Tied o 0) (Like bare b) i
      → Places o text bare (h a b) (n + i) (n + i) (suc (n + i))
  tight_printed k h one a b n i p q =
      let x = known.tight k h one in
      let t : List ℕ = text a 1 ++ (x.word ++ text b 2) in
      let c : A = h a b in
      let whole = infix_printed 0 1 k h one x a b n i p q in
      record {
        loose = retext t (text c 0) (sym (x.shown a b 0 ∙ append-nil t)) (up 1 c whole);
        middle = retext t (text c 1) (sym (x.shown a b 1 ∙ append-nil t)) whole;
        tight = retext (codes "(" ++ (t ++ codes ")")) (text c 2) (sym (x.shown a b 2)) (in_parens c t (n + i) (up 1 c whole));
      }

  loose_printed : (k : Mark) (h : A → A → A) → OneOf o.loose k h → (a b : A) (n i : ℕ) → Printed Ends (text a 0) (Tied o 2) (Like bare a) n → Printed Ends (text b 1) (Tied o 1) (Like bare b) i
      → Places o text bare (h a b) (n + i) (suc (n + i)) (suc (n + i))
  loose_printed k h one a b n i p q =
      let x = known.loose k h one in
      let t : List ℕ = text a 0 ++ (x.word ++ text b 1) in
      let c : A = h a b in
      let whole = infix_printed 1 0 k h one x a b n i p q in
      let within = in_parens c t (n + i) whole in
      record {
        loose = retext t (text c 0) (sym (x.shown a b 0 ∙ append-nil t)) whole;
        middle = retext (codes "(" ++ (t ++ codes ")")) (text c 1) (sym (x.shown a b 1)) (up 0 c within);
        tight = retext (codes "(" ++ (t ++ codes ")")) (text c 2) (sym (x.shown a b 2)) within;
      }

  -- ---- all that the grammar gives

  -- how many parentheses a tree of a level needs at each of its places
  abbrev At : ℕ → A → ℕ → Type 0
  At zero a n = Places o text bare a n n n
  At (suc zero) a n = Places o text bare a n n (suc n)
  At (suc (suc zero)) a n = Places o text bare a n (suc n) (suc n)
  At _ a n = Unit {0}

  raised : (level : ℕ) (a : A) (n : ℕ) → At level a n → At (suc level) a n
  raised zero a n c = weaker n n (suc n) c (omega arith) (omega arith) (omega arith)
  raised (suc zero) a n c = weaker n (suc n) (suc n) c (omega arith) (omega arith) (omega arith)
  raised _ a n c = tt

  tied_more : (level : ℕ) (k : Mark) (h : A → A → A) → OneOf (between_parts o level) k h → (a b : A) (n i : ℕ) → At (suc level) a n → At level b i → At (suc level) (h a b) (n + i)
  tied_more zero k h one a b n i c d = tight_printed k h one a b n i c.middle d.tight
  tied_more (suc zero) k h one a b n i c d = loose_printed k h one a b n i c.loose d.middle
  tied_more _ k h one a b n i c d = tt

  no_paren : (level : ℕ) (k : Mark) (h : A → A → A) → OneOf (between_parts o level) k h → opened (w.Fixed k ∷ []) ≡ 0
  no_paren zero k h one = (known.tight k h one).few
  no_paren (suc level) k h one = (known.loose k h one).few

  pub tied_printed : (level : ℕ) (u : List Lexeme) (a : A) → Tied o level u a → Valid u → At level a (count u)
  unfolding same_mark
  tied_printed level all b (Tied.prefixed p {m = k} {h} {u} {a} one l) v =
      let inner = tied_printed 0 u a l v.1 in
      let n : count (mark k p ∷ u) ≡ count u = let few = (known.before k h one).few in count_behind k p u few in
      subst (At 0 (h a)) (sym n) (one_text (h a) (count u) (prefix_printed k h one a (count u) inner.tight))
  tied_printed level all b (Tied.parens p q {u} {a} l) v =
      let c = tied_printed 2 u a l (valid_left u (mark (m.Sign sg.RightParen) q ∷ []) v.1) in
      let n : count (u ++ (mark (m.Sign sg.RightParen) q ∷ [])) ≡ count u + 0 = count_both u (mark (m.Sign sg.RightParen) q ∷ []) in
      let i : ℕ = suc (count (u ++ (mark (m.Sign sg.RightParen) q ∷ []))) in
      weaker i i i (record { loose = at_place a p 0 c.loose; middle = at_place a p 1 c.middle; tight = at_place a p 2 c.tight }) (omega (arith, n)) (omega (arith, n)) (omega (arith, n))
  tied_printed level u a (Tied.plain l) v = one_text a (count u) (known.plain u a l v)
  tied_printed level u a (Tied.one {level = i} l) v = raised i a (count u) (tied_printed i u a l v)
  tied_printed level all c (Tied.more p {level = i} {m = k} {h} {u} {v} {a} {b} t one l) valid =
      let first = tied_printed (suc i) u a t (valid_left u (mark k p ∷ v) valid) in
      let second = tied_printed i v b l (valid_right u (mark k p ∷ v) valid).1 in
      let few = no_paren i k h one in
      let n : count (u ++ (mark k p ∷ v)) ≡ count u + count v = count_both u (mark k p ∷ v) ∙ ap (λ z. count u + z) (count_behind k p v few) in
      subst (At (suc i) (h a b)) (sym n) (tied_more i k h one a b (count u) (count v) first second)
