-- The readers of names, columns, literals, operands, lists and checks read what their rules give.
use Rattle.std.proofs.Common.{◌≡◌, ◌≤◌, ◌<◌, ℕ, zero, suc, ◌+◌, ◌*◌, ◌^◌, ℤ, pos, Bool, true, false, nat_le, nat_lt, if◌then◌else◌, List, [], ◌∷◌, ◌++◌, drop, length, Option, Some, None, Ok, Err, ap, subst, refl, sym, arith, lit<, append_assoc}
use Rattle.std.proofs.lemmas.List.{append-nil}
use Rattle.std.specs.Option.{option_map}
use Rattle.std.proofs.lemmas.Bool.Decides.{nat_tests}
use Rattle.hr_rel.specs.declared.expr.Op.{Op}
use Rattle.hr_rel.specs.declared.expr.Op.TheVariants as op
use Rattle.hr_parse.specs.declared.ast.NameAt.{NameAt}
use Rattle.hr_parse.specs.declared.ast.CondAst.TheVariants as cond_of
use Rattle.hr_parse.specs.declared.ast.LitAst.TheVariants as lit
use Rattle.hr_parse.specs.declared.ast.LiteralAst.{LiteralAst}
use Rattle.hr_parse.specs.declared.ast.OperandAst.{OperandAst}
use Rattle.hr_parse.specs.declared.ast.OperandAst.TheVariants as operand_of
use Rattle.hr_lex.specs.declared.token.Keyword.TheVariants as kw
use Rattle.hr_parse.specs.declared.word.Mark.{Mark}
use Rattle.hr_parse.specs.declared.word.Mark.TheVariants as m
use Rattle.hr_parse.specs.declared.word.Sign.TheVariants as sg
use Rattle.hr_parse.specs.declared.word.Word.{Word}
use Rattle.hr_parse.specs.declared.word.Word.TheVariants as w
use Rattle.hr_parse.specs.declared.word.Lexeme.{Lexeme}
use Rattle.hr_parse.specs.Words.{mark, named, number, text, compare}
use Rattle.hr_parse.specs.Trees.{minus}
use Rattle.hr_parse.specs.Readers.{Outcome, Reader, ◌>>=◌, and_then, pure, place, sees, expect, ahead_at, by_test, name_of, read_name, is_name, sees_name, comparison, sees_compare, compares, read_compare, valued, negative_word, constant_word, negative, constant, listed_behind}
use Rattle.hr_parse.specs.Grammar.{Language, Grammar, IsMark, IsCompare, Gives, Seq, Map, Either, Listed, IsName, IsNegative, IsConstant, column, literal, operand, between, among, nullity, range_or_list_of, range_or_list, check, predicate}
use Rattle.hr_parse.proofs.Shapes.{among as among_kinds, kind, apart, only, Shape, word, a_mark, nothing, ◌▸◌, ◌∥◌, Begins, Stops, inside, stops_inside}
use Rattle.hr_parse.proofs.Rules.{Rule, Parts, less, rule_alike, rule_iso, rule_weak, rule_shape, rule_seq, rule_pure, rule_map, rule_test, test_read, branch, rule_branch, rule_key, rule_case, rule_refuse}

-- a length that the number of turns allows
abbrev pub Fits : ℕ → ℕ → ℕ → Type 0
Fits k n length = 4 * length + k ≤ n

pub parts : (k n i j : ℕ) → Fits k n (i + j) → Fits k n i × Fits k n j
parts k n i j h = (omega (arith, h), omega (arith, h))

-- a rule's reader reads what it gives
abbrev pub Holds : {A : Type 0} → Grammar A → Shape → (ℕ → Type 0) → Type 0
Holds g s P = Rule g.reads g.gives s P

abbrev pub a_name : Shape
a_name = word (0 ∷ [])

abbrev negative_test : ℕ → Lexeme → Option LiteralAst
negative_test p x = valued p (negative_word x.word)

abbrev constant_test : Lexeme → Option LiteralAst
constant_test x = valued x.at (constant_word x.word)

-- ---- names and columns

to_name : (v : Word) (p : ℕ) (a : NameAt) → name_of (record { word = v; at = p }) ≡ Some a → IsName (record { word = v; at = p } ∷ []) a
to_name (w.Name n) p a e = let q : record { name = n; at = p } ≡ a = cc in subst (λ z. IsName (named n p ∷ []) z) q (IsName.the_name n p)
to_name _ p a e = absurd (cc)

name_begins : (u : List Lexeme) (a : NameAt) → IsName u a → Begins a_name u
name_begins u a (IsName.the_name n p) = refl

name_read : (u : List Lexeme) (a : NameAt) → IsName u a → (t : List Lexeme) → by_test name_of (u ++ t) ≡ Ok (a, t)
name_read u a (IsName.the_name n p) t = refl

pub rule_name : {P : ℕ → Type 0} → Rule read_name IsName a_name P
unfolding read_name
rule_name {P} = rule_test {P = P} name_of (0 ∷ []) (named [] 0) (record { name = []; at = 0 }) refl (λ x a e. to_name x.word x.at a e) name_begins name_read

no_name_word : (v : Word) → among_kinds (0 ∷ []) (kind v) ≡ false → is_name v ≡ false
no_name_word (w.Name n) e = absurd (cc)
no_name_word _ e = refl

no_name : (t : List Lexeme) → Stops (0 ∷ []) t → sees_name t ≡ false
no_name [] st = refl
no_name (x ∷ t) st = no_name_word x.word st

-- something that begins with a name, or something else
pub rule_named : {A : Type 0} {f g : Reader A} {L M : Language A} {s d : Shape} {P : ℕ → Type 0} → s.starts ≡ (0 ∷ []) → s.empty ≡ false → ((u : List Lexeme) (a : A) (t : List Lexeme) → L u a → sees_name (u ++ t) ≡ true) → Rule f L s P → Rule g M d P → apart s.starts d.starts ≡ true
    → Rule (branch sees_name f g) (Either L M) (s ∥ d) P
rule_named {s = s} by full seen here there far = rule_branch sees_name (λ x u t. refl) seen (λ t st. no_name t (subst (λ z. Stops z t) by st)) full here there far

pub rule_optional : {A : Type 0} {f : Reader A} {L : Language A} {s : Shape} {P : ℕ → Type 0} (k : Mark) → Parts P → Rule f L s P
    → Rule (branch (sees k) (expect k >>= (λ _. f >>= (λ a. pure (Some a)))) (pure None)) (Either (Seq (IsMark k) (λ _. Map Some L)) (Gives None)) ((a_mark k ▸ s) ∥ nothing) P
rule_optional k parts r = rule_case k (less parts) (λ _. rule_map Some r) (rule_pure None) refl

abbrev pub columns : Shape
columns = a_name ▸ ((a_mark (m.Sign sg.Dot) ▸ a_name) ∥ nothing)

pub rule_column : {P : ℕ → Type 0} → Parts P → Holds column columns P
unfolding column
rule_column parts = rule_seq parts rule_name (λ first. rule_map (λ second. record { first = first; second = second }) (rule_optional (m.Sign sg.Dot) parts rule_name)) refl

-- ---- literals

within : (b : Bool) (z : ℤ) (p : ℕ) (a : LiteralAst) → valued p (option_map lit.Int (if b then Some z else None)) ≡ Some a → (b ≡ true) × (record { value = lit.Int z; at = p } ≡ a)
within true z p a e = (refl, let q : record { value = lit.Int z; at = p } ≡ a = cc in q)
within false z p a e = absurd (cc)

to_negative : (p : ℕ) (v : Word) (q : ℕ) (a : LiteralAst) → valued p (negative_word v) ≡ Some a → IsNegative p (record { word = v; at = q } ∷ []) a
to_negative p (w.Number n) q a e =
    let k = within (nat_le n (2 ^ 63)) (minus n) p a e in
    let small : n ≤ 2 ^ 63 = grind (arith, nat_tests, k.0) in
    subst (λ z. IsNegative p (number n q ∷ []) z) k.1 (IsNegative.signed n q small)
to_negative p _ q a e = absurd (cc)

negative_begins : (p : ℕ) (u : List Lexeme) (a : LiteralAst) → IsNegative p u a → Begins (word (1 ∷ [])) u
negative_begins p u a (IsNegative.signed n q h) = refl

negative_read : (p : ℕ) (u : List Lexeme) (a : LiteralAst) → IsNegative p u a → (t : List Lexeme) → by_test (negative_test p) (u ++ t) ≡ Ok (a, t)
negative_read p u a (IsNegative.signed n q h) t =
    let k : nat_le n (2 ^ 63) ≡ true = grind (arith, nat_tests) in
    test_read (negative_test p) (number n q) (record { value = lit.Int (minus n); at = p }) (rw k refl) t

rule_negative : {P : ℕ → Type 0} (p : ℕ) → Rule (negative p) (IsNegative p) (word (1 ∷ [])) P
unfolding negative
rule_negative {P} p =
    rule_test {P = P} (negative_test p) (1 ∷ []) (number 0 0) (record { value = lit.Int (pos 0); at = p }) refl (λ x a e. to_negative p x.word x.at a e) (negative_begins p) (negative_read p)

to_constant : (v : Word) (p : ℕ) (a : LiteralAst) → valued p (constant_word v) ≡ Some a → IsConstant (record { word = v; at = p } ∷ []) a
to_constant (w.Number n) p a e =
    let k = within (nat_lt n (2 ^ 63)) (pos n) p a e in
    let small : n < 2 ^ 63 = grind (arith, nat_tests, k.0) in
    subst (λ z. IsConstant (number n p ∷ []) z) k.1 (IsConstant.unsigned n p small)
to_constant (w.Text t) p a e = let q : record { value = lit.Text t; at = p } ≡ a = cc in subst (λ z. IsConstant (text t p ∷ []) z) q (IsConstant.quoted t p)
to_constant _ p a e = absurd (cc)

constant_begins : (u : List Lexeme) (a : LiteralAst) → IsConstant u a → Begins (word (1 ∷ [])) u
constant_begins u a (IsConstant.unsigned n p h) = refl
constant_begins u a (IsConstant.quoted t p) = refl

constant_read : (u : List Lexeme) (a : LiteralAst) → IsConstant u a → (t : List Lexeme) → by_test constant_test (u ++ t) ≡ Ok (a, t)
constant_read u a (IsConstant.unsigned n p h) t =
    let k : nat_lt n (2 ^ 63) ≡ true = grind (arith, nat_tests) in
    test_read constant_test (number n p) (record { value = lit.Int (pos n); at = p }) (rw k refl) t
constant_read u a (IsConstant.quoted s p) t = refl

rule_constant : {P : ℕ → Type 0} → Rule constant IsConstant (word (1 ∷ [])) P
unfolding constant
rule_constant {P} =
    rule_test {P = P} constant_test (1 ∷ []) (number 0 0) (record { value = lit.Int (pos 0); at = 0 }) refl (λ x a e. to_constant x.word x.at a e) constant_begins constant_read

abbrev pub literals : Shape
literals = (a_mark (m.Sign sg.Minus) ▸ word (1 ∷ [])) ∥ (a_mark (m.Keyword kw.Null) ▸ nothing) ∥ word (1 ∷ [])

pub rule_literal : {P : ℕ → Type 0} → Parts P → Holds literal literals P
unfolding literal
rule_literal parts =
    rule_case (m.Sign sg.Minus) (less parts) (λ p. rule_negative p)
    (rule_case (m.Keyword kw.Null) (less parts) (λ p. rule_pure (record { value = lit.Null; at = p })) rule_constant refl) refl

abbrev pub operands : Shape
operands = columns ∥ literals

column_seen : (u : List Lexeme) (a : OperandAst) (t : List Lexeme) → Map operand_of.Column column.gives u a → sees_name (u ++ t) ≡ true
unfolding column
column_seen u a t (Map.map (Seq.seq (IsName.the_name n p) l)) = refl

pub rule_operand : {P : ℕ → Type 0} → Parts P → Holds operand operands P
unfolding operand
rule_operand parts = rule_named refl refl column_seen (rule_map operand_of.Column (rule_column parts)) (rule_map operand_of.Literal (rule_literal parts)) refl

-- ---- lists

ahead_alike : {A : Type 0} (b : Bool) (p : ℕ) (f : ℕ → Reader A) (r : Outcome A) (u t : List Lexeme) → (if b then f p t else r) ≡ (if b then and_then (if b then Ok (p, t) else Err u) f else r)
ahead_alike true p f r u t = refl
ahead_alike false p f r u t = refl

pub rule_ahead : {A : Type 0} {f : ℕ → Reader A} {g : Reader A} {L : ℕ → Language A} {M : Language A} {s d : Shape} {P Q : ℕ → Type 0} (k : Mark) → ((i : ℕ) → P (suc i) → Q i)
    → ((p : ℕ) → Rule (f p) (L p) s Q) → Rule g M d P → apart (only k) d.starts ≡ true → Rule (ahead_at k f g) (Either (Seq (IsMark k) L) M) ((a_mark k ▸ s) ∥ d) P
rule_ahead {f = f} {g = g} k shorter here there far = rule_alike (ahead_at k f g) (λ u. ahead_alike (sees k u) (place u) f (g u) u (drop 1 u)) (rule_case k shorter here there far)

data Behind {A : Type 0} (L : List Lexeme → A → Type 0) (front : List A) : List Lexeme → List A → Type 0 where
  behind : {u : List Lexeme} {all : List A} → Listed L u all → Behind L front u (front ++ all)

abbrev OneMore : {A : Type 0} → Language A → List A → Language (List A)
OneMore L front = Seq L (λ a. Either (Seq (IsMark (m.Sign sg.Comma)) (λ _. Behind L (front ++ a ∷ []))) (Gives (front ++ a ∷ [])))

to_behind : {A : Type 0} (L : Language A) (front : List A) (u : List Lexeme) (all : List A) → OneMore L front u all → Behind L front u all
to_behind L front w all (Seq.seq {u} {a} l (Either.in_left (Seq.seq (IsMark.the p) (Behind.behind {u = v} {all = others} ls)))) =
    subst (λ z. Behind L front (u ++ (mark (m.Sign sg.Comma) p ∷ v)) z) (sym (append_assoc front (a ∷ []) others)) (Behind.behind (Listed.more p l ls))
to_behind L front w all (Seq.seq {u} {a} l (Either.in_right Gives.nothing)) = subst (λ z. Behind L front z (front ++ a ∷ [])) (sym (append-nil u)) (Behind.behind (Listed.one l))

of_behind : {A : Type 0} (L : Language A) (front : List A) (u : List Lexeme) (all : List A) → Behind L front u all → OneMore L front u all
of_behind L front w all (Behind.behind (Listed.one {u} {a} l)) =
    let k : OneMore L front (u ++ []) (front ++ a ∷ []) = Seq.seq l (Either.in_right Gives.nothing) in
    subst (λ z. OneMore L front z (front ++ a ∷ [])) (append-nil u) k
of_behind L front w all (Behind.behind (Listed.more p {u} {v} {a} {others} l ls)) =
    let k : OneMore L front (u ++ (mark (m.Sign sg.Comma) p ∷ v)) ((front ++ a ∷ []) ++ others) = Seq.seq l (Either.in_left (Seq.seq (IsMark.the p) (Behind.behind ls))) in
    subst (λ z. OneMore L front (u ++ (mark (m.Sign sg.Comma) p ∷ v)) z) (append_assoc front (a ∷ []) others) k

abbrev pub lists : Shape → Shape
lists s = record { starts = s.starts; empty = false; stops = only (m.Sign sg.Comma) ++ s.stops }

list_begins : (s : Shape) (u v : List Lexeme) → s.empty ≡ false → Begins s u → Begins (lists s) (u ++ v)
list_begins s [] v full b = absurd (cc)
list_begins s (x ∷ u) v full b = b

behind_begins : {A : Type 0} (L : Language A) (s : Shape) → s.empty ≡ false → ((u : List Lexeme) (a : A) → L u a → Begins s u) → (front : List A) (u : List Lexeme) (all : List A) → Behind L front u all → Begins (lists s) u
behind_begins L s full e front w all (Behind.behind (Listed.one {u} {a} l)) = subst (λ z. Begins (lists s) z) (append-nil u) (list_begins s u [] full (e u a l))
behind_begins L s full e front w all (Behind.behind (Listed.more p {u} {v} {a} l ls)) = list_begins s u (mark (m.Sign sg.Comma) p ∷ v) full (e u a l)

abbrev Turns : ℕ → ℕ → ℕ → ℕ → Type 0
Turns k n most i = Fits k n i × (i < most)

module _ {A : Type 0} (f : Reader A) (L : Language A) (s : Shape) (k n : ℕ) (some : 0 < k) (full : s.empty ≡ false) (far : apart s.stops (only (m.Sign sg.Comma)) ≡ true)
    (covers : inside (s ▸ ((a_mark (m.Sign sg.Comma) ▸ lists s) ∥ nothing)).stops (lists s).stops ≡ true) (r : Rule f L s (Fits k n)) where
  listed_all : (most : ℕ) (front : List A) → Rule (listed_behind f most front) (Behind L front) (lists s) (Turns k n most)
  unfolding listed_behind
  listed_all zero front = rule_refuse r.words (front ++ r.tree ∷ []) (Behind.behind (Listed.one r.some)) (behind_begins L s full r.begins front) (λ i h. omega (arith, h.1))
  listed_all (suc most) front = rule_shape (lists s) (behind_begins L s full r.begins front) (stops_inside (s ▸ ((a_mark (m.Sign sg.Comma) ▸ lists s) ∥ nothing)).stops (lists s).stops covers) (rule_iso (to_behind L front) (of_behind L front)
      (rule_seq {P = Turns k n (suc most)} (λ i j h. ((omega (arith, h.0), omega (arith, h.1)), (omega (arith, h.0), omega (arith, h.1)))) (rule_weak (Turns k n (suc most)) (λ i h. h.0) r)
      (λ a. rule_ahead {P = Turns k n (suc most)} (m.Sign sg.Comma) (λ i h. (omega (arith, h.0), omega (arith, h.1))) (λ _. listed_all most (front ++ a ∷ [])) (rule_pure (front ++ a ∷ [])) refl) far))

to_listed : {A : Type 0} (L : Language A) (u : List Lexeme) (all : List A) → Behind L [] u all → Listed L u all
to_listed L u all (Behind.behind ls) = ls

pub rule_listed : {A : Type 0} {f : Reader A} {L : Language A} {s : Shape} {k n : ℕ} → 0 < k → s.empty ≡ false → apart s.stops (only (m.Sign sg.Comma)) ≡ true
    → inside (s ▸ ((a_mark (m.Sign sg.Comma) ▸ lists s) ∥ nothing)).stops (lists s).stops ≡ true → Rule f L s (Fits k n) → Rule (listed_behind f n []) (Listed L) (lists s) (Fits k n)
rule_listed {f = f} {L = L} {s = s} {k = k} {n = n} some full far covers r = rule_weak (Fits k n) (λ i h. (h, omega (arith, h, some))) (rule_iso (to_listed L) (λ u all ls. Behind.behind ls) (listed_all f L s k n some full far covers r n []))

-- ---- comparisons

compare_of_word : (o : Op) (v : Word) → comparison v ≡ Some o → v ≡ w.Compare o
compare_of_word o (w.Compare k) e = let q : k ≡ o = cc in ap w.Compare q
compare_of_word o _ e = cc

pub is_the_compare : (o : Op) (x : Lexeme) → comparison x.word ≡ Some o → x ≡ compare o x.at
is_the_compare o x e = let f : Word → Lexeme = λ v. record { word = v; at = x.at } in ap f (compare_of_word o x.word e)

abbrev compared_word : Lexeme → Option Op
compared_word x = comparison x.word

compare_alike_at : (o : Option Op) (x : Lexeme) (s : List Lexeme) → (let r : Outcome Op = elim o [ Some p ↦ Ok (p, s) | None ↦ Err (x ∷ s) ] in r) ≡ (elim o [ Some p ↦ Ok (p, s) | None ↦ Err (x ∷ s) ])
compare_alike_at (Some p) x s = refl
compare_alike_at None x s = refl

compare_alike : (s : List Lexeme) → read_compare s ≡ by_test compared_word s
compare_alike [] = refl
compare_alike (x ∷ s) = compare_alike_at (comparison x.word) x s

compare_begins : (u : List Lexeme) (o : Op) → IsCompare u o → Begins (word (2 ∷ [])) u
compare_begins u q (IsCompare.the o p) = refl

compare_read : (u : List Lexeme) (o : Op) → IsCompare u o → (t : List Lexeme) → by_test compared_word (u ++ t) ≡ Ok (o, t)
compare_read u q (IsCompare.the o p) t = refl

rule_compare : {P : ℕ → Type 0} → Rule read_compare IsCompare (word (2 ∷ [])) P
rule_compare {P} = rule_alike read_compare compare_alike (rule_test {P = P} compared_word (2 ∷ []) (compare op.Eq 0) op.Eq refl
    (λ x o e. subst (λ z. IsCompare (z ∷ []) o) (sym (is_the_compare o x e)) (IsCompare.the o x.at)) compare_begins compare_read)

compare_seen : {A : Type 0} (L : Op → Language A) (u : List Lexeme) (a : A) (t : List Lexeme) → Seq IsCompare L u a → compares (u ++ t) ≡ true
compare_seen L u a t (Seq.seq (IsCompare.the o p) l) = refl

no_compare_word : (v : Word) → among_kinds (2 ∷ []) (kind v) ≡ false → comparison v ≡ None
no_compare_word (w.Compare o) e = absurd (cc)
no_compare_word _ e = refl

no_compare : (t : List Lexeme) → Stops (2 ∷ []) t → compares t ≡ false
no_compare [] st = refl
no_compare (x ∷ t) st = rw (no_compare_word x.word st, compares, sees_compare) refl

-- ---- checks

abbrev betweens : Shape
betweens = operands ▸ a_mark (m.Keyword kw.And) ▸ operands

rule_between : {P : ℕ → Type 0} → Parts P → (o : OperandAst) (negated : Bool) → Holds (between o negated) betweens P
unfolding between
rule_between parts o negated =
    rule_seq parts (rule_operand parts) (λ low. rule_key (m.Keyword kw.And) (less parts) (λ _. rule_map (λ high. cond_of.Between o low high negated) (rule_operand parts))) refl

abbrev amongs : Shape
amongs = a_mark (m.Sign sg.LeftParen) ▸ lists literals ▸ a_mark (m.Sign sg.RightParen) ▸ nothing

rule_among : (n : ℕ) (o : OperandAst) (negated : Bool) → Holds (among n o negated) amongs (Fits 3 n)
unfolding among
rule_among n o negated =
    rule_key (m.Sign sg.LeftParen) (less (parts 3 n)) (λ _. rule_seq (parts 3 n) (rule_listed (lit< tt) refl refl refl (rule_literal (parts 3 n)))
    (λ list. rule_key (m.Sign sg.RightParen) (less (parts 3 n)) (λ _. rule_pure (cond_of.Among o list negated))) refl)

abbrev ranges : Shape
ranges = (a_mark (m.Keyword kw.Between) ▸ betweens) ∥ (a_mark (m.Keyword kw.In) ▸ amongs)

rule_range_of : (n : ℕ) (o : OperandAst) (negated : Bool) → Holds (range_or_list_of n o negated) ranges (Fits 3 n)
rule_range_of n o negated =
    rule_case (m.Keyword kw.Between) (less (parts 3 n)) (λ _. rule_between (parts 3 n) o negated) (rule_key (m.Keyword kw.In) (less (parts 3 n)) (λ _. rule_among n o negated)) refl

abbrev nullities : Shape
nullities = (a_mark (m.Keyword kw.Not) ▸ a_mark (m.Keyword kw.Null) ▸ nothing) ∥ (a_mark (m.Keyword kw.Null) ▸ nothing)

rule_nullity : {P : ℕ → Type 0} → Parts P → (o : OperandAst) → Holds (nullity o) nullities P
unfolding nullity
rule_nullity parts o =
    rule_case (m.Keyword kw.Not) (less parts) (λ _. rule_key (m.Keyword kw.Null) (less parts) (λ _. rule_pure (cond_of.IsNull o true)))
    (rule_key (m.Keyword kw.Null) (less parts) (λ _. rule_pure (cond_of.IsNull o false))) refl

abbrev checks : Shape
checks = (word (2 ∷ []) ▸ operands) ∥ (a_mark (m.Keyword kw.Is) ▸ nullities) ∥ (a_mark (m.Keyword kw.Not) ▸ ranges) ∥ ranges

rule_check : (n : ℕ) (o : OperandAst) → Holds (check n o) checks (Fits 3 n)
unfolding check range_or_list
rule_check n o =
    rule_branch compares (λ x u t. refl) (compare_seen (λ p. Map (λ right. cond_of.Compare p o right) operand.gives)) no_compare refl
    (rule_seq (parts 3 n) rule_compare (λ p. rule_map (λ right. cond_of.Compare p o right) (rule_operand (parts 3 n))) refl)
    (rule_case (m.Keyword kw.Is) (less (parts 3 n)) (λ _. rule_nullity (parts 3 n) o)
    (rule_case (m.Keyword kw.Not) (less (parts 3 n)) (λ _. rule_range_of n o true) (rule_range_of n o false) refl) refl) refl

abbrev pub predicates : Shape
predicates = operands ▸ checks

pub rule_predicate : (n : ℕ) → Holds (predicate n) predicates (Fits 3 n)
unfolding predicate
rule_predicate n = rule_seq (parts 3 n) (rule_operand (parts 3 n)) (λ o. rule_check n o) refl
