-- The readers of what operators tie together, whose rules lead back to themselves, read what the grammar says.
use Rattle.std.proofs.Common.{◌≡◌, ℕ, zero, suc, ◌+◌, Bool, true, false, if◌then◌else◌, List, [], ◌∷◌, ◌++◌, ◌==◌, refl, sym, subst, arith, append_assoc}
use Rattle.std.proofs.lemmas.List.{append-nil}
use Rattle.hr_parse.specs.declared.word.Mark.{Mark}
use Rattle.hr_parse.specs.declared.word.Mark.TheVariants as m
use Rattle.hr_parse.specs.declared.word.Sign.TheVariants as sg
use Rattle.hr_parse.specs.declared.word.Word.TheVariants as w
use Rattle.hr_parse.specs.declared.word.Lexeme.{Lexeme}
use Rattle.hr_parse.specs.Trees.{simple}
use Rattle.hr_parse.specs.Words.{mark}
use Rattle.hr_parse.specs.Readers.{Reader, chosen}
use Rattle.hr_parse.specs.Grammar.{Language, IsMark, Gives, Seq, Map, Either, among as among_literals, range_or_list, check, predicate, OneOf, Operators, between_parts, Tied, read_tied, tied_behind, conditions, IsCond, expressions, IsExpr}
use Rattle.hr_parse.proofs.Shapes.{kind, among, among_first, among_second, and_true, apart, only, Shape, a_mark, nothing, ◌▸◌, ◌∥◌, Begins, Stops, stops_none, stops_neither, stops_join, begins_as, begins_on, or_second, equal_self}
use Rattle.hr_parse.proofs.Rules.{Rule, rule_shape, rule_iso, rule_weak, rule_seq, rule_pure, rule_map, rule_key, rule_refuse, less}
use Rattle.hr_parse.proofs.Operands.{Fits, parts, rule_ahead, predicates, rule_predicate, operands, rule_operand}

-- ---- by the first word

abbrev kinds : {B : Type 0} → List (Mark × B) → List ℕ
kinds [] = []
kinds (x ∷ rest) = kind (w.Fixed x.0) ∷ kinds rest

-- no mark's kind is among those behind it
abbrev differ : {B : Type 0} → List (Mark × B) → List ℕ → Bool
differ [] ks = true
differ (x ∷ rest) ks = if apart (only x.0) (kinds rest ++ ks) then differ rest ks else false

data Choice {A B : Type 0} (marks : List (Mark × B)) (L : B → List Lexeme → A → Type 0) (M : List Lexeme → A → Type 0) : List Lexeme → A → Type 0 where
  by_mark : (p : ℕ) {k : Mark} {b : B} {u : List Lexeme} {a : A} → OneOf marks k b → L b u a → Choice marks L M (mark k p ∷ u) a
  otherwise : {u : List Lexeme} {a : A} → M u a → Choice marks L M u a

abbrev choice : {B : Type 0} → List (Mark × B) → Shape → Shape → Shape
choice marks s d = record { starts = kinds marks ++ d.starts; empty = d.empty; stops = if d.empty then kinds marks ++ (s.stops ++ d.stops) else s.stops ++ d.stops }

to_choice : {A B : Type 0} (x : Mark × B) (rest : List (Mark × B)) (L : B → Language A) (M : Language A) (u : List Lexeme) (a : A)
    → Either (Seq (IsMark x.0) (λ _. L x.1)) (Choice rest L M) u a → Choice (x ∷ rest) L M u a
to_choice x rest L M u a (Either.in_left (Seq.seq (IsMark.the p) l)) = Choice.by_mark p OneOf.here l
to_choice x rest L M u a (Either.in_right (Choice.by_mark p k l)) = Choice.by_mark p (OneOf.there k) l
to_choice x rest L M u a (Either.in_right (Choice.otherwise l)) = Choice.otherwise l

of_choice : {A B : Type 0} (x : Mark × B) (rest : List (Mark × B)) (L : B → Language A) (M : Language A) (u : List Lexeme) (a : A)
    → Choice (x ∷ rest) L M u a → Either (Seq (IsMark x.0) (λ _. L x.1)) (Choice rest L M) u a
of_choice x rest L M u a (Choice.by_mark p OneOf.here l) = Either.in_left (Seq.seq (IsMark.the p) l)
of_choice x rest L M u a (Choice.by_mark p (OneOf.there k) l) = Either.in_right (Choice.by_mark p k l)
of_choice x rest L M u a (Choice.otherwise l) = Either.in_right (Choice.otherwise l)

of_none : {A B : Type 0} (L : B → Language A) (M : Language A) (u : List Lexeme) (a : A) → Choice [] L M u a → M u a
of_none L M u a (Choice.by_mark p one l) = elim one [ ]
of_none L M u a (Choice.otherwise l) = l

stops_or_none : (h : Bool) (js : List ℕ) (t : List Lexeme) → Stops js t → Stops (if h then js ++ [] else js) t
stops_or_none true js t st = stops_join js [] t st (stops_none t)
stops_or_none false js t st = st

none_stops : (e : Bool) (js ds : List ℕ) (t : List Lexeme) → Stops (if e then js ++ ds else js ++ ds) t → Stops ds t
none_stops true js ds t st = (stops_neither js ds t st).1
none_stops false js ds t st = (stops_neither js ds t st).1

-- what may not follow a choice of marks may not follow its first and the others
choice_stops : (e h : Bool) (k : ℕ) (ks js ds : List ℕ) (t : List Lexeme) → Stops (if e then (k ∷ ks) ++ (js ++ ds) else js ++ ds) t
    → (let first = if h then js ++ [] else js in let rest = if e then ks ++ (js ++ ds) else js ++ ds in Stops (if e then (first ++ rest) ++ (k ∷ []) else first ++ rest) t)
choice_stops true h k ks js ds t st =
    let all = stops_neither (k ∷ []) (ks ++ (js ++ ds)) t st in
    let first = stops_neither js ds t (stops_neither ks (js ++ ds) t all.1).1 in
    stops_join ((if h then js ++ [] else js) ++ (ks ++ (js ++ ds))) (k ∷ []) t (stops_join (if h then js ++ [] else js) (ks ++ (js ++ ds)) t (stops_or_none h js t first.0) all.1) all.0
choice_stops false h k ks js ds t st =
    stops_join (if h then js ++ [] else js) (js ++ ds) t (stops_or_none h js t (stops_neither js ds t st).0) st

rule_chosen : {A B : Type 0} {f : B → Reader A} {g : Reader A} {L : B → Language A} {M : Language A} {s d : Shape} {P Q : ℕ → Type 0} (marks : List (Mark × B)) → ((i : ℕ) → P (suc i) → Q i)
    → ((b : B) → Rule (f b) (L b) s Q) → Rule g M d P → differ marks d.starts ≡ true → Rule (chosen marks f g) (Choice marks L M) (choice marks s d) P
rule_chosen {B = B} {L = L} {M = M} {s = s} {d = d} [] shorter here there e =
    rule_shape (choice {B = B} [] s d) (λ u a l. begins_as d (choice {B = B} [] s d) refl refl u (there.begins u a (of_none L M u a l))) (none_stops d.empty s.stops d.stops) (rule_iso (λ u a l. Choice.otherwise l) (of_none L M) there)
rule_chosen {f = f} {g = g} {L = L} {M = M} {s = s} {d = d} {P = P} {Q = Q} (x ∷ rest) shorter here there e =
    let far = and_true (apart (only x.0) (kinds rest ++ d.starts)) (differ rest d.starts) e in
    let c : Shape = (a_mark x.0 ▸ s) ∥ choice rest s d in
    let both : Rule (chosen (x ∷ rest) f g) (Choice (x ∷ rest) L M) c P =
    rule_iso (to_choice x rest L M) (of_choice x rest L M) (rule_ahead {P = P} {Q = Q} x.0 shorter (λ _. here x.1) (rule_chosen rest shorter here there far.1) far.0) in
    rule_shape (choice (x ∷ rest) s d) (λ u a l. begins_as c (choice (x ∷ rest) s d) refl refl u (both.begins u a l)) (choice_stops d.empty s.empty (kind (w.Fixed x.0)) (kinds rest) s.stops d.stops) both

one_of_kind : {B : Type 0} (marks : List (Mark × B)) (k : Mark) (b : B) → OneOf marks k b → among (kinds marks) (kind (w.Fixed k)) ≡ true
one_of_kind marks k b (OneOf.here {x} {rest}) = rw (equal_self (kind (w.Fixed x.0))) refl
one_of_kind marks k b (OneOf.there {x} {rest} one) = or_second (kind (w.Fixed x.0) == kind (w.Fixed k)) (among (kinds rest) (kind (w.Fixed k))) (one_of_kind rest k b one)

-- ---- what operators tie together, as parts put together

-- { operator part } behind what stands left of it
data More {A : Type 0} (o : Operators A) (level : ℕ) : A → List Lexeme → A → Type 0 where
  done : {a : A} → More o level a [] a
  step : (p : ℕ) {k : Mark} {h : A → A → A} {u v : List Lexeme} {a b c : A} → OneOf (between_parts o level) k h → Tied o level u b → More o level (h a b) v c → More o level a (mark k p ∷ (u ++ v)) c

abbrev Parens : {A : Type 0} → Operators A → Language A
Parens o = Seq (IsMark (m.Sign sg.LeftParen)) (λ at. Seq (Tied o 2) (λ inner. Seq (IsMark (m.Sign sg.RightParen)) (λ _. Gives (o.placed at inner))))

abbrev Part : {A : Type 0} → Operators A → Language A
Part o = Choice o.before (λ h. Map h (Tied o 0)) (Either (Parens o) (o.plain 0).gives)

module _ {A : Type 0} (o : Operators A) where
  prefixed : (p : ℕ) (k : Mark) (h : A → A) → OneOf o.before k h → (u : List Lexeme) (a : A) → Map h (Tied o 0) u a → Tied o 0 (mark k p ∷ u) a
  prefixed p k h one u a (Map.map l) = Tied.prefixed p one l

  enclosed : (p : ℕ) (u : List Lexeme) (inner : A) → Tied o 2 u inner → (v : List Lexeme) (a : A) → Seq (IsMark (m.Sign sg.RightParen)) (λ _. Gives (o.placed p inner)) v a → Tied o 0 (mark (m.Sign sg.LeftParen) p ∷ (u ++ v)) a
  enclosed p u inner l v a (Seq.seq (IsMark.the q) Gives.nothing) = Tied.parens p q l

  to_part : (u : List Lexeme) (a : A) → Part o u a → Tied o 0 u a
  to_part all a (Choice.by_mark p {k} {b = h} {u} one l) = prefixed p k h one u a l
  to_part u a (Choice.otherwise (Either.in_left (Seq.seq (IsMark.the p) (Seq.seq {u = x} {v = y} {a = inner} l end)))) = enclosed p x inner l y a end
  to_part u a (Choice.otherwise (Either.in_right l)) = Tied.plain l

  of_part : (u : List Lexeme) (a : A) → Tied o 0 u a → Part o u a
  of_part u a (Tied.prefixed p k l) = Choice.by_mark p k (Map.map l)
  of_part u a (Tied.parens p q l) = Choice.otherwise (Either.in_left (Seq.seq (IsMark.the p) (Seq.seq l (Seq.seq (IsMark.the q) Gives.nothing))))
  of_part u a (Tied.plain l) = Choice.otherwise (Either.in_right l)

  to_more : (level : ℕ) (left : A) (u : List Lexeme) (a : A) → Choice (between_parts o level) (λ h. Seq (Tied o level) (λ right. More o level (h left right))) (Gives left) u a → More o level left u a
  to_more level left u a (Choice.by_mark p k (Seq.seq l j)) = More.step p k l j
  to_more level left u a (Choice.otherwise Gives.nothing) = More.done

  of_more : (level : ℕ) (left : A) (u : List Lexeme) (a : A) → More o level left u a → Choice (between_parts o level) (λ h. Seq (Tied o level) (λ right. More o level (h left right))) (Gives left) u a
  of_more level left u a (More.step p k l j) = Choice.by_mark p k (Seq.seq l j)
  of_more level left u a More.done = Choice.otherwise Gives.nothing

  tied_all : (level : ℕ) (u : List Lexeme) (a : A) → Tied o (suc level) u a → (v : List Lexeme) (b : A) → More o level a v b → Tied o (suc level) (u ++ v) b
  tied_all level u a t v b More.done = subst (λ z. Tied o (suc level) z a) (sym (append-nil u)) t
  tied_all level u a t v b (More.step p {k} {h} {u = x} {v = y} {b = c} one l j) =
      subst (λ z. Tied o (suc level) z b) (append_assoc u (mark k p ∷ x) y) (tied_all level (u ++ (mark k p ∷ x)) (h a c) (Tied.more p t one l) y b j)

  to_tied : (level : ℕ) (u : List Lexeme) (a : A) → Seq (Tied o level) (More o level) u a → Tied o (suc level) u a
  to_tied level w b (Seq.seq {u} {v} {a} l j) = tied_all level u a (Tied.one l) v b j

  more_more : (level p : ℕ) (k : Mark) (h : A → A → A) → OneOf (between_parts o level) k h → (a : A) (u : List Lexeme) (b : A) → More o level a u b
      → (v : List Lexeme) (c : A) → Tied o level v c → More o level a (u ++ (mark k p ∷ v)) (h b c)
  more_more level p k h one a u b More.done v c l = subst (λ z. More o level a (mark k p ∷ z) (h b c)) (append-nil v) (More.step p one l More.done)
  more_more level p k h one a u b (More.step q {k = j} {h = g} {u = x} {v = y} {b = d} other i rest) v c l =
      subst (λ z. More o level a (mark j q ∷ z) (h b c)) (sym (append_assoc x y (mark k p ∷ v))) (More.step q other i (more_more level p k h one (g a d) y b rest v c l))

  seq_more : (level p : ℕ) (k : Mark) (h : A → A → A) → OneOf (between_parts o level) k h → (u : List Lexeme) (b : A) → Seq (Tied o level) (More o level) u b
      → (v : List Lexeme) (c : A) → Tied o level v c → Seq (Tied o level) (More o level) (u ++ (mark k p ∷ v)) (h b c)
  seq_more level p k h one w b (Seq.seq {u} {v = x} {a} i rest) v c l =
      subst (λ z. Seq (Tied o level) (More o level) z (h b c)) (sym (append_assoc u x (mark k p ∷ v))) (Seq.seq i (more_more level p k h one a x b rest v c l))

  of_tied : (level : ℕ) (u : List Lexeme) (a : A) → Tied o (suc level) u a → Seq (Tied o level) (More o level) u a
  of_tied level u a (Tied.one l) = let both : Seq (Tied o level) (More o level) (u ++ []) a = Seq.seq l More.done in subst (λ z. Seq (Tied o level) (More o level) z a) (append-nil u) both
  of_tied level w c (Tied.more p {m = k} {h} {u} {v} {a} {b} t one l) = seq_more level p k h one u a (of_tied level u a t) v b l

-- ---- how they begin and end

abbrev stops_at : {A : Type 0} → Operators A → Shape → ℕ → List ℕ
stops_at o s zero = s.stops
stops_at o s (suc level) = (kinds (between_parts o level) ++ stops_at o s level) ++ stops_at o s level

abbrev at : {A : Type 0} → Operators A → Shape → ℕ → Shape
at o s level = record { starts = kinds o.before ++ (only (m.Sign sg.LeftParen) ++ s.starts); empty = false; stops = stops_at o s level }

abbrev mores : {A : Type 0} → Operators A → Shape → ℕ → Shape
mores o s level = record { starts = kinds (between_parts o level) ++ []; empty = true; stops = kinds (between_parts o level) ++ stops_at o s level }

-- that one sees by the next word what comes
record Seen {A : Type 0} (o : Operators A) (s : Shape) : Type 0 where
  pub full : s.empty ≡ false
  pub before : differ o.before (only (m.Sign sg.LeftParen) ++ s.starts) ≡ true
  pub tight : differ o.tight [] ≡ true
  pub loose : differ o.loose [] ≡ true
  pub plain : apart (only (m.Sign sg.LeftParen)) s.starts ≡ true
  pub behind_part : apart (stops_at o s 0) (kinds o.tight ++ []) ≡ true
  pub behind_group : apart (stops_at o s 1) (kinds o.loose ++ []) ≡ true
  pub behind_whole : apart (stops_at o s 2) (only (m.Sign sg.RightParen)) ≡ true

module _ {A : Type 0} (o : Operators A) (s : Shape) (seen : Seen o s) (plain : (n : ℕ) → Rule (o.plain n).reads (o.plain 0).gives s (Fits 3 n)) where
  plain_begins : (u : List Lexeme) → Begins s u → Begins (at o s 0) u
  plain_begins [] b = let full = seen.full in absurd (cc)
  plain_begins (x ∷ u) b = among_second (kinds o.before) (only (m.Sign sg.LeftParen) ++ s.starts) (kind x.word) (among_second (only (m.Sign sg.LeftParen)) s.starts (kind x.word) b)

  tied_begins : (level : ℕ) (u : List Lexeme) (a : A) → Tied o level u a → Begins (at o s level) u
  tied_begins level all b (Tied.prefixed p {m = k} {h} {u} one l) = among_first (kinds o.before) (only (m.Sign sg.LeftParen) ++ s.starts) (kind (w.Fixed k)) (one_of_kind o.before k h one)
  tied_begins level all b (Tied.parens p q l) = among_second (kinds o.before) (only (m.Sign sg.LeftParen) ++ s.starts) (kind (w.Fixed (m.Sign sg.LeftParen))) refl
  tied_begins level u a (Tied.plain l) = plain_begins u ((plain 0).begins u a l)
  tied_begins level u a (Tied.one {level = k} l) = begins_as (at o s k) (at o s (suc k)) refl refl u (tied_begins k u a l)
  tied_begins level all c (Tied.more p {level = k} {m = j} {u} {v} {a} t one l) = begins_on (at o s (suc k)) u (mark j p ∷ v) refl (tied_begins (suc k) u a t)

  more_begins : (level : ℕ) (left : A) (u : List Lexeme) (a : A) → More o level left u a → Begins (mores o s level) u
  more_begins level left u a More.done = refl
  more_begins level left all c (More.step p {k} {h} one l j) = among_first (kinds (between_parts o level)) [] (kind (w.Fixed k)) (one_of_kind (between_parts o level) k h one)

  -- ---- their readers

  -- how deep rules may nest
  record Depth (n : ℕ) : Type 0 where
    pub part : Rule (read_tied o 0 n) (Tied o 0) (at o s 0) (Fits 4 n)
    pub group : Rule (read_tied o 1 n) (Tied o 1) (at o s 1) (Fits 5 n)
    pub whole : Rule (read_tied o 2 n) (Tied o 2) (at o s 2) (Fits 6 n)
    pub tight : (left : A) → Rule (tied_behind o 0 n left) (More o 0 left) (mores o s 0) (Fits 1 n)
    pub loose : (left : A) → Rule (tied_behind o 1 n left) (More o 1 left) (mores o s 1) (Fits 2 n)

  part_stops : (t : List Lexeme) → Stops s.stops t → Stops (choice o.before (at o s 0) ((a_mark (m.Sign sg.LeftParen) ▸ (at o s 2 ▸ a_mark (m.Sign sg.RightParen) ▸ nothing)) ∥ s)).stops t
  part_stops t st = rw (seen.full) (stops_join s.stops s.stops t st st)

  rule_part : (n : ℕ) → Depth n → Rule (read_tied o 0 (suc n)) (Tied o 0) (at o s 0) (Fits 4 (suc n))
  unfolding read_tied
  rule_part n d = rule_shape (at o s 0) (tied_begins 0) part_stops (rule_iso (to_part o) (of_part o)
      (rule_chosen {P = Fits 4 (suc n)} {Q = Fits 4 n} o.before (λ i h. omega (arith, h)) (λ h. rule_map h d.part)
      (rule_ahead {P = Fits 4 (suc n)} {Q = Fits 7 n} (m.Sign sg.LeftParen) (λ i h. omega (arith, h))
      (λ p. rule_seq (parts 7 n) (rule_weak (Fits 7 n) (λ i h. omega (arith, h)) d.whole) (λ inner. rule_key (m.Sign sg.RightParen) (less (parts 7 n)) (λ _. rule_pure (o.placed p inner))) seen.behind_whole)
      (rule_weak (Fits 4 (suc n)) (λ i h. omega (arith, h)) (plain n)) seen.plain) seen.before))

  module _ (level n : ℕ) (far : apart (stops_at o s level) (kinds (between_parts o level) ++ []) ≡ true) (part : Rule (read_tied o level n) (Tied o level) (at o s level) (Fits (4 + level) n))
      (behind : (left : A) → Rule (tied_behind o level n left) (More o level left) (mores o s level) (Fits (1 + level) n)) where
    rule_tied : Rule (read_tied o (suc level) (suc n)) (Tied o (suc level)) (at o s (suc level)) (Fits (5 + level) (suc n))
    unfolding read_tied
    rule_tied = rule_iso (to_tied o level) (of_tied o level)
        (rule_seq (parts (5 + level) (suc n)) (rule_weak (Fits (5 + level) (suc n)) (λ i h. omega (arith, h)) part) (λ left. rule_weak (Fits (5 + level) (suc n)) (λ i h. omega (arith, h)) (behind left)) far)

    more_stops : (t : List Lexeme) → Stops (mores o s level).stops t → Stops (choice (between_parts o level) (at o s (suc level)) nothing).stops t
    more_stops t st =
        let k = stops_neither (kinds (between_parts o level)) (stops_at o s level) t st in
        stops_join (kinds (between_parts o level)) ((at o s (suc level)).stops ++ []) t k.0 (stops_join (at o s (suc level)).stops [] t (stops_join (kinds (between_parts o level) ++ stops_at o s level) (stops_at o s level) t st k.1) (stops_none t))

    rule_more : differ (between_parts o level) [] ≡ true → (left : A) → Rule (tied_behind o level (suc n) left) (More o level left) (mores o s level) (Fits (1 + level) (suc n))
    unfolding read_tied
    rule_more differs left = rule_shape (mores o s level) (more_begins level left) more_stops (rule_iso (to_more o level left) (of_more o level left)
        (rule_chosen {P = Fits (1 + level) (suc n)} {Q = Fits (4 + level) n} (between_parts o level) (λ i h. omega (arith, h))
        (λ h. rule_seq (parts (4 + level) n) part (λ right. rule_weak (Fits (4 + level) n) (λ i h. omega (arith, h)) (behind (h left right))) far) (rule_pure left) differs))

  at_depth : (n : ℕ) → Depth n
  unfolding read_tied
  at_depth zero =
      let part = Tied.plain (plain 0).some in
      record {
        part = rule_refuse _ _ part (tied_begins 0) (λ i h. omega (arith, h));
        group = rule_refuse _ _ (Tied.one part) (tied_begins 1) (λ i h. omega (arith, h));
        whole = rule_refuse _ _ (Tied.one (Tied.one part)) (tied_begins 2) (λ i h. omega (arith, h));
        tight = λ left. rule_refuse _ _ More.done (more_begins 0 left) (λ i h. omega (arith, h));
        loose = λ left. rule_refuse _ _ More.done (more_begins 1 left) (λ i h. omega (arith, h));
      }
  at_depth (suc n) = let d : Depth n = at_depth n in record {
    part = rule_part n d;
    group = rule_tied 0 n seen.behind_part d.part d.tight;
    whole = rule_tied 1 n seen.behind_group d.group d.loose;
    tight = rule_more 0 n seen.behind_part d.part d.tight seen.tight;
    loose = rule_more 1 n seen.behind_group d.group d.loose seen.loose;
  }

-- ---- conditions and expressions

abbrev pub conds : Shape
conds = at conditions predicates 2

plain_condition : (n : ℕ) → Rule (predicate n).reads (predicate 0).gives predicates (Fits 3 n)
unfolding predicate check range_or_list among_literals
plain_condition n = rule_predicate n

pub rule_condition : (n : ℕ) → Rule (read_tied conditions 2 n) IsCond conds (Fits 6 n)
rule_condition n = (at_depth conditions predicates (record { full = refl; before = refl; tight = refl; loose = refl; plain = refl; behind_part = refl; behind_group = refl; behind_whole = refl }) plain_condition n).whole

abbrev pub exprs : Shape
exprs = at expressions operands 2

pub rule_expression : (n : ℕ) → Rule (read_tied expressions 2 n) IsExpr exprs (Fits 6 n)
rule_expression n =
    (at_depth expressions operands (record { full = refl; before = refl; tight = refl; loose = refl; plain = refl; behind_part = refl; behind_group = refl; behind_whole = refl }) (λ k. rule_map simple (rule_operand (parts 3 k))) n).whole
