-- What holds of a reader of a rule, and how it is put together from what holds of the rule's parts.
use Rattle.std.proofs.Common.{◌≡◌, ◌⊎◌, inl, inr, ℕ, suc, ◌+◌, Bool, true, false, if◌then◌else◌, List, [], ◌∷◌, ◌++◌, length, Option, Some, None, Ok, Err, ap, subst, refl, sym, ◌∙◌, arith, rules, append_assoc}
use Rattle.std.proofs.lemmas.List.{append-nil, length-append}
use denote.Enum.Bare.{same_true, true_same}
use Rattle.hr_lex.specs.contracts.token.Keyword as keywords
use Rattle.hr_parse.specs.contracts.word.Sign as signs
use Rattle.hr_parse.specs.declared.word.Mark.{Mark}
use Rattle.hr_parse.specs.declared.word.Mark.TheVariants as m
use Rattle.hr_parse.specs.declared.word.Word.{Word}
use Rattle.hr_parse.specs.declared.word.Word.TheVariants as w
use Rattle.hr_parse.specs.declared.word.Lexeme.{Lexeme}
use Rattle.hr_parse.specs.Words.{same_mark, is_mark, mark}
use Rattle.hr_parse.specs.Readers.{Outcome, Reader, and_then, ◌>>=◌, pure, refuse, by_test, sees, expect}
use Rattle.hr_parse.specs.Grammar.{Language, IsMark, Gives, Seq, Map, Either}
use Rattle.hr_parse.proofs.Shapes.{kind, apart, apart_none, equal_self, only, Shape, word, a_mark, nothing, ◌▸◌, ◌∥◌, Begins, Stops, stops_both, stops_neither, stops_before, inside, stops_inside, begins_as, begins_both, begins_first, begins_second}

-- what is left of the words, and the same outcome with other words left
abbrev pub left : {A : Type 0} → Outcome A → List Lexeme
left (Ok p) = p.1
left (Err t) = t

abbrev again : {A : Type 0} → Outcome A → List Lexeme → Outcome A
again (Ok p) w = Ok (p.0, w)
again (Err t) w = Err w

-- what was taken is in the language, with that tree, or can go on to something in it
abbrev Goes : {A : Type 0} → Language A → List Lexeme → Outcome A → Type 0
Goes L front (Ok p) = L front p.0
Goes {A} L front (Err t) = (more : List Lexeme) × (a : A) × L (front ++ more) a

-- what the reader took for an outcome, which hangs on no word behind the first that it left
pub record Took {A : Type 0} (f : Reader A) (L : Language A) (u : List Lexeme) (r : Outcome A) : Type 0 where
  pub front : List Lexeme
  pub split : u ≡ front ++ left r
  pub gives : Goes L front r
  pub same : (x : Lexeme) (v w : List Lexeme) → left r ≡ x ∷ v → f (front ++ (x ∷ w)) ≡ again r (x ∷ w)

-- the reader stops where more turns than fit would be needed
pub record Late {A : Type 0} (f : Reader A) (P : ℕ → Type 0) (s : List Lexeme) : Type 0 where
  pub front : List Lexeme
  pub rest : List Lexeme
  pub split : s ≡ front ++ rest
  pub stops : f s ≡ Err rest
  pub late : P (length front) → ⊥

abbrev pub Whole : {A : Type 0} → Reader A → (ℕ → Type 0) → List Lexeme → A → List Lexeme → Type 0
Whole f P s a t = (f s ≡ Ok (a, t)) ⊎ Late f P s

-- The reader reads the language. What is in it begins as the shape says, and is read where what follows doesn't go on with
-- it, unless that takes more turns than fit.
pub record Rule {A : Type 0} (f : Reader A) (L : Language A) (s : Shape) (P : ℕ → Type 0) : Type 0 where
  pub words : List Lexeme
  pub tree : A
  pub some : L words tree
  pub begins : (u : List Lexeme) (a : A) → L u a → Begins s u
  pub took : (u : List Lexeme) (r : Outcome A) → f u ≡ r → Took f L u r
  pub whole : (u : List Lexeme) (a : A) → L u a → (t : List Lexeme) → Stops s.stops t → Whole f P (u ++ t) a t

-- ---- the same rule, otherwise

whole_change : {A : Type 0} {f : Reader A} {P Q : ℕ → Type 0} (g : Reader A) (u t : List Lexeme) (a : A) → g u ≡ f u → ((i : ℕ) → Q i → P i) → Whole f P u a t → Whole g Q u a t
whole_change g u t a e fits (inl k) = inl (e ∙ k)
whole_change g u t a e fits (inr k) = inr (record { front = k.front; rest = k.rest; split = k.split; stops = e ∙ k.stops; late = λ q. k.late (fits (length k.front) q) })

goes_change : {A : Type 0} (L M : Language A) → ((u : List Lexeme) (a : A) → L u a → M u a) → (u : List Lexeme) (r : Outcome A) → Goes L u r → Goes M u r
goes_change L M to u (Ok p) l = to u p.0 l
goes_change L M to u (Err t) l = (l.0, l.1, to (u ++ l.0) l.1 l.2)

-- a reader that is the same function, a language of the same words and trees, and fewer turns
pub rule_change : {A : Type 0} {f : Reader A} {L M : Language A} {s : Shape} {P Q : ℕ → Type 0} (g : Reader A) → ((u : List Lexeme) → g u ≡ f u)
    → ((u : List Lexeme) (a : A) → L u a → M u a) → ((u : List Lexeme) (a : A) → M u a → L u a) → ((i : ℕ) → Q i → P i) → Rule f L s P → Rule g M s Q
rule_change {A} {f} {L} {M} g e to of fits r = record {
  words = r.words;
  tree = r.tree;
  some = to r.words r.tree r.some;
  begins = λ u a l. r.begins u a (of u a l);
  took = λ u o h. let k : Took f L u o = r.took u o (sym (e u) ∙ h) in record { front = k.front; split = k.split; gives = goes_change L M to k.front o k.gives; same = λ x v w d. e (k.front ++ (x ∷ w)) ∙ k.same x v w d };
  whole = λ u a l t st. whole_change g (u ++ t) t a (e (u ++ t)) fits (r.whole u a (of u a l) t st);
}

pub rule_iso : {A : Type 0} {f : Reader A} {L M : Language A} {s : Shape} {P : ℕ → Type 0} → ((u : List Lexeme) (a : A) → L u a → M u a) → ((u : List Lexeme) (a : A) → M u a → L u a) → Rule f L s P → Rule f M s P
rule_iso {f} to of r = rule_change f (λ u. refl) to of (λ i q. q) r

pub rule_alike : {A : Type 0} {f : Reader A} {L : Language A} {s : Shape} {P : ℕ → Type 0} (g : Reader A) → ((u : List Lexeme) → g u ≡ f u) → Rule f L s P → Rule g L s P
rule_alike g e r = rule_change g e (λ u a l. l) (λ u a l. l) (λ i q. q) r

pub rule_weak : {A : Type 0} {f : Reader A} {L : Language A} {s : Shape} {P : ℕ → Type 0} (Q : ℕ → Type 0) → ((i : ℕ) → Q i → P i) → Rule f L s P → Rule f L s Q
rule_weak {f} Q fits r = rule_change f (λ u. refl) (λ u a l. l) (λ u a l. l) fits r

pub rule_shape : {A : Type 0} {f : Reader A} {L : Language A} {s : Shape} {P : ℕ → Type 0} (d : Shape) → ((u : List Lexeme) (a : A) → L u a → Begins d u) → ((t : List Lexeme) → Stops d.stops t → Stops s.stops t) → Rule f L s P → Rule f L d P
rule_shape d begins stops r = record { words = r.words; tree = r.tree; some = r.some; begins = begins; took = r.took; whole = λ u a l t st. r.whole u a l t (stops t st) }

-- with more words that may not follow
pub rule_stops : {A : Type 0} {f : Reader A} {L : Language A} {s : Shape} {P : ℕ → Type 0} (d : Shape) → s.starts ≡ d.starts → s.empty ≡ d.empty → inside s.stops d.stops ≡ true → Rule f L s P → Rule f L d P
rule_stops {s = s} d e h more r = rule_shape d (λ u a l. begins_as s d e h u (r.begins u a l)) (stops_inside s.stops d.stops more) r

pub ok_parts : {A : Type 0} (a b : A) (s t : List Lexeme) → (let r : Outcome A = Ok (a, s) in r) ≡ Ok (b, t) → (a ≡ b) × (s ≡ t)
ok_parts {A = A} a b s t e = let q : ◌≡◌ {A = A × List Lexeme} (a, s) (b, t) = cc in (ap (λ z. z.0) q, ap (λ z. z.1) q)

-- ---- one rule behind another

-- what was taken first is taken again, where the words are the same up to the first that the second didn't take
carry : {A : Type 0} (f : Reader A) (L : Language A) (u : List Lexeme) (p : A × List Lexeme) (one : Took f L u (Ok p)) (v t : List Lexeme) (x : Lexeme) (r w : List Lexeme)
    → p.1 ≡ v ++ t → t ≡ x ∷ r → f (one.front ++ (v ++ (x ∷ w))) ≡ Ok (p.0, v ++ (x ∷ w))
carry f L u p one [] t x r w e d = one.same x r w (e ∙ d)
carry f L u p one (y ∷ ys) t x r w e d = one.same y (ys ++ t) (ys ++ (x ∷ w)) e

goes_seq : {A B : Type 0} (L : Language A) (M : A → Language B) (u v : List Lexeme) (a : A) (r : Outcome B) → L u a → Goes (M a) v r → Goes (Seq L M) (u ++ v) r
goes_seq L M u v a (Ok p) l k = Seq.seq l k
goes_seq L M u v a (Err t) l k = (k.0, k.1, subst (λ (z : List Lexeme). Seq L M z k.1) (sym (append_assoc u v k.0)) (Seq.seq l k.2))

module _ {A B : Type 0} (f : Reader A) (g : A → Reader B) (L : Language A) (M : A → Language B) (k d : Shape) (P Q R : ℕ → Type 0) (first : Rule f L k P) (second : (a : A) → Rule (g a) (M a) d Q) where
  took_first : (s t : List Lexeme) → f s ≡ Err t → Took (f >>= g) (Seq L M) s (Err t)
  took_first s t e =
      let one : Took f L s (Err t) = first.took s (Err t) e in
      let tree : A = one.gives.1 in
      let next : Rule (g tree) (M tree) d Q = second tree in
      record {
        front = one.front;
        split = one.split;
        gives = (one.gives.0 ++ next.words, next.tree, subst (λ (z : List Lexeme). Seq L M z next.tree) (append_assoc one.front one.gives.0 next.words) (Seq.seq one.gives.2 next.some));
        same = λ x v w h. rw (one.same x v w h) refl;
      }

  took_second : (s : List Lexeme) (p : A × List Lexeme) (r : Outcome B) → f s ≡ Ok p → g p.0 p.1 ≡ r → Took (f >>= g) (Seq L M) s r
  took_second s p r e h =
      let one : Took f L s (Ok p) = first.took s (Ok p) e in
      let two : Took (g p.0) (M p.0) p.1 r = (second p.0).took p.1 r h in
      record {
        front = one.front ++ two.front;
        split = one.split ∙ (ap (λ z. one.front ++ z) two.split ∙ sym (append_assoc one.front two.front (left r)));
        gives = goes_seq L M one.front two.front p.0 r one.gives two.gives;
        same = λ x v w q. rw (append_assoc one.front two.front (x ∷ w), carry f L s p one two.front (left r) x v w two.split q) (two.same x v w q);
      }

  seq_took_by : (s : List Lexeme) (r : Outcome B) (o : Outcome A) → f s ≡ o → and_then o g ≡ r → Took (f >>= g) (Seq L M) s r
  seq_took_by s r (Ok p) h e = took_second s p r h e
  seq_took_by s r (Err t) h e = subst (λ z. Took (f >>= g) (Seq L M) s z) e (took_first s t h)

  seq_later : (u m : List Lexeme) (a : A) (b : B) (t : List Lexeme) → f (u ++ m) ≡ Ok (a, m) → ((j : ℕ) → R (length u + j) → Q j) → Whole (g a) Q m b t → Whole (f >>= g) R (u ++ m) b t
  seq_later u m a b t e behind (inl k) = inl (rw e k)
  seq_later u m a b t e behind (inr k) = inr (record {
    front = u ++ k.front;
    rest = k.rest;
    split = ap (λ z. u ++ z) k.split ∙ sym (append_assoc u k.front k.rest);
    stops = rw e k.stops;
    late = λ r. k.late (behind (length k.front) (subst R (length-append u k.front) r));
  })

  seq_read : (u m : List Lexeme) (a : A) (b : B) (t : List Lexeme) → ((i : ℕ) → R i → P i) → ((j : ℕ) → R (length u + j) → Q j) → Whole f P (u ++ m) a m → Whole (g a) Q m b t
      → Whole (f >>= g) R (u ++ m) b t
  seq_read u m a b t before behind (inl e) second = seq_later u m a b t e behind second
  seq_read u m a b t before behind (inr k) second = inr (record {
    front = k.front;
    rest = k.rest;
    split = k.split;
    stops = rw k.stops refl;
    late = λ r. k.late (before (length k.front) r);
  })

  seq_begins : (w : List Lexeme) (b : B) → Seq L M w b → Begins (k ▸ d) w
  seq_begins w b (Seq.seq {u} {v} {a} l m) = begins_both k d u v (first.begins u a l) ((second a).begins v b m)

  seq_whole : apart k.stops d.starts ≡ true → ((i : ℕ) → R i → P i) → ((u : List Lexeme) (a : A) → L u a → (j : ℕ) → R (length u + j) → Q j)
      → (w : List Lexeme) (b : B) → Seq L M w b → (t : List Lexeme) → Stops (k ▸ d).stops t → Whole (f >>= g) R (w ++ t) b t
  seq_whole far before behind w b (Seq.seq {u} {v} {a} l m) t st =
      let st = stops_both d.empty d.stops k.stops t st in
      let ahead = stops_before k.stops d v t far ((second a).begins v b m) st.1 in
      let z : Whole (f >>= g) R (u ++ (v ++ t)) b t = seq_read u (v ++ t) a b t before (behind u a l) (first.whole u a l (v ++ t) ahead) ((second a).whole v b m t st.0) in
      subst (λ (y : List Lexeme). Whole (f >>= g) R y b t) (sym (append_assoc u v t)) z

-- the lengths of the parts, where that of the first is known from what it says
pub rule_behind : {A B : Type 0} {f : Reader A} {g : A → Reader B} {L : Language A} {M : A → Language B} {s d : Shape} {P Q : ℕ → Type 0} (R : ℕ → Type 0)
    → Rule f L s P → ((a : A) → Rule (g a) (M a) d Q) → apart s.stops d.starts ≡ true → ((i : ℕ) → R i → P i) → ((u : List Lexeme) (a : A) → L u a → (j : ℕ) → R (length u + j) → Q j)
    → Rule (f >>= g) (Seq L M) (s ▸ d) R
rule_behind {A} {B} {f} {g} {L} {M} {s} {d} {P} {Q} R first second far before behind = record {
  words = first.words ++ (second first.tree).words;
  tree = (second first.tree).tree;
  some = Seq.seq first.some (second first.tree).some;
  begins = seq_begins f g L M s d P Q R first second;
  took = λ u r e. seq_took_by f g L M s d P Q R first second u r (f u) refl e;
  whole = seq_whole f g L M s d P Q R first second far before behind;
}

-- what fits a whole fits its parts
abbrev pub Parts : (ℕ → Type 0) → Type 0
Parts P = (i j : ℕ) → P (i + j) → P i × P j

pub less : {P : ℕ → Type 0} → Parts P → (i : ℕ) → P (suc i) → P i
less {P} parts i p = let same : suc i ≡ 1 + i = omega arith in (parts 1 i (subst P same p)).1

pub rule_seq : {A B : Type 0} {f : Reader A} {g : A → Reader B} {L : Language A} {M : A → Language B} {s d : Shape} {P : ℕ → Type 0}
    → Parts P → Rule f L s P → ((a : A) → Rule (g a) (M a) d P) → apart s.stops d.starts ≡ true → Rule (f >>= g) (Seq L M) (s ▸ d) P
rule_seq {P} parts first second far =
    rule_behind P first second far (λ i r. let same : i ≡ i + 0 = omega arith in (parts i 0 (subst P same r)).0) (λ u a l j r. (parts (length u) j r).1)

-- ---- nothing

pure_whole : {A : Type 0} (a : A) (u : List Lexeme) (b : A) → Gives a u b → (t : List Lexeme) → pure a (u ++ t) ≡ Ok (b, t)
pure_whole a u b Gives.nothing t = refl

gives_begins : {A : Type 0} (a : A) (u : List Lexeme) (b : A) → Gives a u b → Begins nothing u
gives_begins a u b Gives.nothing = refl

pub rule_pure : {A : Type 0} {P : ℕ → Type 0} (a : A) → Rule (pure a) (Gives a) nothing P
rule_pure a = record {
  words = [];
  tree = a;
  some = Gives.nothing;
  begins = gives_begins a;
  took = λ s r e. subst (λ z. Took (pure a) (Gives a) s z) e (record { front = []; split = refl; gives = Gives.nothing; same = λ x v w d. refl });
  whole = λ u b l t st. inl (pure_whole a u b l t);
}

-- ---- a rule with its tree put into another

to_map : {A B : Type 0} (h : A → B) (L : Language A) (u : List Lexeme) (b : B) → Seq L (λ a. Gives (h a)) u b → Map h L u b
to_map h L w b (Seq.seq {u} {a} l Gives.nothing) = subst (λ z. Map h L z (h a)) (sym (append-nil u)) (Map.map l)

of_map : {A B : Type 0} (h : A → B) (L : Language A) (u : List Lexeme) (b : B) → Map h L u b → Seq L (λ a. Gives (h a)) u b
of_map h L w b (Map.map {u} {a} l) =
    let k : Seq L (λ a. Gives (h a)) (u ++ []) (h a) = Seq.seq l Gives.nothing in
    subst (λ z. Seq L (λ a. Gives (h a)) z (h a)) (append-nil u) k

map_begins : {A B : Type 0} (h : A → B) (L : Language A) (s : Shape) → ((u : List Lexeme) (a : A) → L u a → Begins s u) → (u : List Lexeme) (b : B) → Map h L u b → Begins s u
map_begins h L s e w b (Map.map {u} {a} l) = e u a l

map_whole : {A B : Type 0} (f : Reader A) (h : A → B) (P : ℕ → Type 0) (u : List Lexeme) (a : A) (t : List Lexeme) → Whole f P u a t → Whole (f >>= (λ a. pure (h a))) P u (h a) t
map_whole f h P u a t (inl e) = inl (rw e refl)
map_whole f h P u a t (inr k) = inr (record { front = k.front; rest = k.rest; split = k.split; stops = rw (k.stops) refl; late = k.late })

of_whole : {A B : Type 0} {f : Reader A} {L : Language A} {s : Shape} {P : ℕ → Type 0} (h : A → B) → Rule f L s P
    → (u : List Lexeme) (b : B) → Map h L u b → (t : List Lexeme) → Stops s.stops t → Whole (f >>= (λ a. pure (h a))) P (u ++ t) b t
of_whole {f = f} {P = P} h r w b (Map.map {u} {a} l) t st = map_whole f h P (u ++ t) a t (r.whole u a l t st)

pub rule_map : {A B : Type 0} {f : Reader A} {L : Language A} {s : Shape} {P : ℕ → Type 0} (h : A → B) → Rule f L s P → Rule (f >>= (λ a. pure (h a))) (Map h L) s P
rule_map {L = L} {s = s} {P = P} h r =
    let both = rule_iso (to_map h L) (of_map h L) (rule_behind P r (λ a. rule_pure {P = λ _. Unit {0}} (h a)) refl (λ i p. p) (λ u a l j p. tt)) in
    record { words = both.words; tree = both.tree; some = both.some; begins = map_begins h L s r.begins; took = both.took; whole = of_whole h r }

-- ---- one word by a test

module _ {A : Type 0} (test : Lexeme → Option A) (L : Language A) (to : (x : Lexeme) (a : A) → test x ≡ Some a → L (x ∷ []) a) (y : Lexeme) (b : A) (example : test y ≡ Some b) where
  test_word : (x : Lexeme) (s : List Lexeme) (v : Option A) → test x ≡ v → Took (by_test test) L (x ∷ s) (elim v [ Some a ↦ Ok (a, s) | None ↦ Err (x ∷ s) ])
  test_word x s (Some a) h = record { front = x ∷ []; split = refl; gives = to x a h; same = λ o v w q. rw (h, by_test) refl }
  test_word x s None h = record {
    front = [];
    split = refl;
    gives = (y ∷ [], b, to y b example);
    same = λ o v w d. let first : x ≡ o = cc in let other : by_test test (x ∷ w) ≡ Err (x ∷ w) = rw (h, by_test) refl in subst (λ z. by_test test (z ∷ w) ≡ Err (z ∷ w)) first other;
  }

  test_took : (s : List Lexeme) → Took (by_test test) L s (by_test test s)
  test_took [] = record { front = []; split = refl; gives = (y ∷ [], b, to y b example); same = λ o v w d. absurd (cc) }
  test_took (x ∷ s) = test_word x s (test x) refl

-- a word that passes a test, which is one of these kinds, and is in the language just then
pub rule_test : {A : Type 0} {L : Language A} {P : ℕ → Type 0} (test : Lexeme → Option A) (kinds : List ℕ) (y : Lexeme) (b : A) → test y ≡ Some b → ((x : Lexeme) (a : A) → test x ≡ Some a → L (x ∷ []) a)
    → ((u : List Lexeme) (a : A) → L u a → Begins (word kinds) u) → ((u : List Lexeme) (a : A) → L u a → (t : List Lexeme) → by_test test (u ++ t) ≡ Ok (a, t)) → Rule (by_test test) L (word kinds) P
rule_test {L = L} test kinds y b example to begins read = record {
  words = y ∷ [];
  tree = b;
  some = to y b example;
  begins = begins;
  took = λ s r e. subst (λ z. Took (by_test test) L s z) e (test_took test L to y b example s);
  whole = λ u a l t st. inl (read u a l t);
}

pub test_read : {A : Type 0} (test : Lexeme → Option A) (x : Lexeme) (a : A) → test x ≡ Some a → (t : List Lexeme) → by_test test (x ∷ t) ≡ Ok (a, t)
test_read test x a h t = rw (h, by_test) refl

-- ---- marks

mark_self : (a : Mark) → same_mark a a ≡ true
unfolding same_mark
mark_self (m.Keyword a) = true_same keywords.the_type a a refl
mark_self (m.Sign a) = true_same signs.the_type a a refl

same : (a b : Mark) → same_mark a b ≡ true → a ≡ b
unfolding same_mark
same (m.Keyword a) (m.Keyword b) e = ap m.Keyword (same_true keywords.the_type (search rules) a b e)
same (m.Sign a) (m.Sign b) e = ap m.Sign (same_true signs.the_type (search rules) a b e)
same _ _ e = absurd (cc)

word_of_mark : (k : Mark) (v : Word) → is_mark k v ≡ true → v ≡ w.Fixed k
word_of_mark k (w.Fixed j) e = ap w.Fixed (sym (same k j e))
word_of_mark k _ e = cc

-- a word that passes the test is the mark
is_the_mark : (k : Mark) (x : Lexeme) → is_mark k x.word ≡ true → x ≡ mark k x.at
is_the_mark k x e = let f : Word → Lexeme = λ v. record { word = v; at = x.at } in ap f (word_of_mark k x.word e)

-- the value, where the test holds
abbrev pub when : {A : Type 0} → Bool → A → Option A
when true a = Some a
when false a = None

when_some : {A : Type 0} (b : Bool) (a p : A) → when b a ≡ Some p → (b ≡ true) × (a ≡ p)
when_some true a p e = (refl, let q : a ≡ p = cc in q)
when_some false a p e = absurd (cc)

-- the place of a word that is this mark
abbrev marked : Mark → Lexeme → Option ℕ
marked m x = when (is_mark m x.word) x.at

marked_is : (m : Mark) (x : Lexeme) (p : ℕ) → marked m x ≡ Some p → x ≡ mark m p
marked_is m x p e = let k = when_some (is_mark m x.word) x.at p e in is_the_mark m x k.0 ∙ ap (λ z. mark m z) k.1

mark_marked : (m : Mark) (p : ℕ) → marked m (mark m p) ≡ Some p
mark_marked m p = rw (mark_self m) refl

to_mark : (k : Mark) (x : Lexeme) (p : ℕ) → marked k x ≡ Some p → IsMark k (x ∷ []) p
to_mark k x p e = subst (λ z. IsMark k (z ∷ []) p) (sym (marked_is k x p e)) (IsMark.the p)

mark_begins : (k : Mark) (u : List Lexeme) (p : ℕ) → IsMark k u p → Begins (a_mark k) u
mark_begins k u q (IsMark.the p) = rw (equal_self (kind (w.Fixed k))) refl

mark_read : (k : Mark) (u : List Lexeme) (p : ℕ) → IsMark k u p → (t : List Lexeme) → by_test (marked k) (u ++ t) ≡ Ok (p, t)
mark_read k u q (IsMark.the p) t = test_read (marked k) (mark k p) p (mark_marked k p) t

mark_shorter : (k : Mark) (P Q : ℕ → Type 0) → ((i : ℕ) → P (suc i) → Q i) → (u : List Lexeme) (a : ℕ) → IsMark k u a → (j : ℕ) → P (length u + j) → Q j
mark_shorter k P Q shorter u a (IsMark.the p) j h = let same : length (mark k p ∷ []) + j ≡ suc j = omega arith in shorter j (subst P same h)

at_alike : (b : Bool) (p : ℕ) (x : Lexeme) (t : List Lexeme) → (let r : Outcome ℕ = if b then Ok (p, t) else Err (x ∷ t) in r) ≡ (elim (when b p) [ Some a ↦ Ok (a, t) | None ↦ Err (x ∷ t) ])
at_alike true p x t = refl
at_alike false p x t = refl

expect_alike : (k : Mark) (u : List Lexeme) → expect k u ≡ by_test (marked k) u
expect_alike k [] = refl
expect_alike k (x ∷ t) = at_alike (is_mark k x.word) x.at x t

pub rule_mark : {P : ℕ → Type 0} (k : Mark) → Rule (expect k) (IsMark k) (a_mark k) P
rule_mark {P} k = rule_alike (expect k) (expect_alike k) (rule_test {P = P} (marked k) (only k) (mark k 0) 0 (mark_marked k 0) (to_mark k) (mark_begins k) (mark_read k))

-- a mark, and what stands behind it
pub rule_key : {A : Type 0} {f : ℕ → Reader A} {L : ℕ → Language A} {s : Shape} {P Q : ℕ → Type 0} (k : Mark) → ((i : ℕ) → P (suc i) → Q i) → ((p : ℕ) → Rule (f p) (L p) s Q)
    → Rule (expect k >>= f) (Seq (IsMark k) L) (a_mark k ▸ s) P
rule_key {s = s} {P = P} {Q = Q} k shorter here = rule_behind P (rule_mark {P = P} k) here (apart_none s.starts) (λ i p. p) (mark_shorter k P Q shorter)

-- ---- by the first word

abbrev pub branch : {A : Type 0} → (List Lexeme → Bool) → Reader A → Reader A → Reader A
branch test f g = λ words. if test words then f words else g words

-- the first word is the same, where the words are the same up to the first that wasn't taken
pub same_first : {B : Type 0} (test : List Lexeme → B) → ((x : Lexeme) (s t : List Lexeme) → test (x ∷ s) ≡ test (x ∷ t))
    → (front s t v w : List Lexeme) (x : Lexeme) → s ≡ front ++ t → t ≡ x ∷ v → test (front ++ (x ∷ w)) ≡ test s
same_first test alike [] s t v w x e d = let q : s ≡ x ∷ v = e ∙ d in rw q (alike x w v)
same_first test alike (y ∷ ys) s t v w x e d = rw e (alike y (ys ++ (x ∷ w)) (ys ++ t))

module _ {A : Type 0} (test : List Lexeme → Bool) (alike : (x : Lexeme) (s t : List Lexeme) → test (x ∷ s) ≡ test (x ∷ t)) (f g : Reader A) (L M : Language A) (s d : Shape) (P : ℕ → Type 0) (here : Rule f L s P) (there : Rule g M d P) where
  branch_took : (z : List Lexeme) (r : Outcome A) (v : Bool) → test z ≡ v → branch test f g z ≡ r → Took (branch test f g) (Either L M) z r
  branch_took z r true h e =
      let one : Took f L z r = here.took z r (rw h at e) in
      record {
        front = one.front;
        split = one.split;
        gives = goes_change L (Either L M) (λ u a l. Either.in_left l) one.front r one.gives;
        same = λ x v w d. rw (same_first test alike one.front z (left r) v w x one.split d ∙ h) (one.same x v w d);
      }
  branch_took z r false h e =
      let one : Took g M z r = there.took z r (rw h at e) in
      record {
        front = one.front;
        split = one.split;
        gives = goes_change M (Either L M) (λ u a l. Either.in_right l) one.front r one.gives;
        same = λ x v w d. rw (same_first test alike one.front z (left r) v w x one.split d ∙ h) (one.same x v w d);
      }

  branch_left : (z : List Lexeme) (a : A) (t : List Lexeme) → test z ≡ true → Whole f P z a t → Whole (branch test f g) P z a t
  branch_left z a t h (inl e) = inl (rw h e)
  branch_left z a t h (inr k) = inr (record { front = k.front; rest = k.rest; split = k.split; stops = rw h k.stops; late = k.late })

  branch_right : (z : List Lexeme) (a : A) (t : List Lexeme) → test z ≡ false → Whole g P z a t → Whole (branch test f g) P z a t
  branch_right z a t h (inl e) = inl (rw h e)
  branch_right z a t h (inr k) = inr (record { front = k.front; rest = k.rest; split = k.split; stops = rw h k.stops; late = k.late })

  branch_begins : s.empty ≡ false → (u : List Lexeme) (a : A) → Either L M u a → Begins (s ∥ d) u
  branch_begins full u a (Either.in_left l) = begins_first s d u full (here.begins u a l)
  branch_begins full u a (Either.in_right l) = begins_second s d u (there.begins u a l)

  branch_whole : ((u : List Lexeme) (a : A) (t : List Lexeme) → L u a → test (u ++ t) ≡ true) → ((t : List Lexeme) → Stops s.starts t → test t ≡ false) → apart s.starts d.starts ≡ true
      → (u : List Lexeme) (a : A) → Either L M u a → (t : List Lexeme) → Stops (s ∥ d).stops t → Whole (branch test f g) P (u ++ t) a t
  branch_whole seen unseen far u a (Either.in_left l) t st =
      let k = stops_neither s.stops d.stops t (stops_both d.empty (s.stops ++ d.stops) s.starts t st).0 in
      branch_left (u ++ t) a t (seen u a t l) (here.whole u a l t k.0)
  branch_whole seen unseen far u a (Either.in_right l) t st =
      let both = stops_both d.empty (s.stops ++ d.stops) s.starts t st in
      let k = stops_neither s.stops d.stops t both.0 in
      branch_right (u ++ t) a t (unseen (u ++ t) (stops_before s.starts d u t far (there.begins u a l) both.1)) (there.whole u a l t k.1)

pub rule_branch : {A : Type 0} {f g : Reader A} {L M : Language A} {s d : Shape} {P : ℕ → Type 0} (test : List Lexeme → Bool) → ((x : Lexeme) (u t : List Lexeme) → test (x ∷ u) ≡ test (x ∷ t))
    → ((u : List Lexeme) (a : A) (t : List Lexeme) → L u a → test (u ++ t) ≡ true) → ((t : List Lexeme) → Stops s.starts t → test t ≡ false) → s.empty ≡ false
    → Rule f L s P → Rule g M d P → apart s.starts d.starts ≡ true → Rule (branch test f g) (Either L M) (s ∥ d) P
rule_branch {f = f} {g = g} {L = L} {M = M} {s = s} {d = d} {P = P} test alike seen unseen full here there far = record {
  words = here.words;
  tree = here.tree;
  some = Either.in_left here.some;
  begins = branch_begins test alike f g L M s d P here there full;
  took = λ u r e. branch_took test alike f g L M s d P here there u r (test u) refl e;
  whole = branch_whole test alike f g L M s d P here there seen unseen far;
}

-- ---- a mark, or something else

mark_seen : {A : Type 0} (k : Mark) (L : ℕ → Language A) (u : List Lexeme) (a : A) (t : List Lexeme) → Seq (IsMark k) L u a → sees k (u ++ t) ≡ true
mark_seen k L u a t (Seq.seq (IsMark.the p) l) = mark_self k

mark_unseen_at : (k : Mark) (x : Lexeme) (b : Bool) → is_mark k x.word ≡ b → Stops (only k) (x ∷ []) → b ≡ false
mark_unseen_at k x false e st = refl
mark_unseen_at k x true e st =
    let same : kind (w.Fixed k) ≡ kind x.word = sym (ap (λ (z : Lexeme). kind z.word) (is_the_mark k x e)) in
    let self = equal_self (kind (w.Fixed k)) in
    let z = rw (sym same, self) at st in
    absurd (cc)

mark_unseen : (k : Mark) (t : List Lexeme) → Stops (only k) t → sees k t ≡ false
mark_unseen k [] st = refl
mark_unseen k (x ∷ t) st = mark_unseen_at k x (is_mark k x.word) refl st

pub rule_case : {A : Type 0} {f : ℕ → Reader A} {g : Reader A} {L : ℕ → Language A} {M : Language A} {s d : Shape} {P Q : ℕ → Type 0} (k : Mark) → ((i : ℕ) → P (suc i) → Q i)
    → ((p : ℕ) → Rule (f p) (L p) s Q) → Rule g M d P → apart (only k) d.starts ≡ true → Rule (branch (sees k) (expect k >>= f) g) (Either (Seq (IsMark k) L) M) ((a_mark k ▸ s) ∥ d) P
rule_case {L = L} k shorter here there far = rule_branch (sees k) (λ x u t. refl) (mark_seen k L) (mark_unseen k) refl (rule_key k shorter here) there far

-- ---- nothing at all

pub rule_refuse : {A : Type 0} {L : Language A} {s : Shape} {P : ℕ → Type 0} (u : List Lexeme) (a : A) → L u a → ((u : List Lexeme) (a : A) → L u a → Begins s u) → ((i : ℕ) → P i → ⊥) → Rule refuse L s P
rule_refuse {L = L} u a l begins none = record {
  words = u;
  tree = a;
  some = l;
  begins = begins;
  took = λ s r e. subst (λ z. Took refuse L s z) e (record { front = []; split = refl; gives = (u, a, l); same = λ x v w d. refl });
  whole = λ w b k t st. inr (record { front = []; rest = w ++ t; split = refl; stops = refl; late = none 0 });
}
