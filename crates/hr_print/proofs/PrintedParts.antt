-- Names, columns, literals, operands and lists, as they are printed.
use Rattle.std.proofs.Common.{◌≡◌, ◌≤◌, ◌<◌, ◌^◌, ℕ, zero, suc, ◌+◌, pos, List, [], ◌∷◌, ◌++◌, map, codes, Option, Some, None, refl, sym, ap, subst, arith}
use Rattle.std.proofs.lemmas.List.{append-nil}
use Rattle.std.specs.Fmt.{signed_decimal}
use Rattle.std.specs.Option.{option_map}
use Rattle.hr_rel.specs.declared.expr.Op.{Op}
use Rattle.hr_rel.specs.declared.expr.Op.TheVariants as op
use Rattle.hr_parse.specs.declared.ast.NameAt.{NameAt}
use Rattle.hr_parse.specs.declared.ast.ColumnAst.{ColumnAst}
use Rattle.hr_parse.specs.declared.ast.LiteralAst.{LiteralAst}
use Rattle.hr_parse.specs.declared.ast.LitAst.TheVariants as lit
use Rattle.hr_parse.specs.declared.ast.OperandAst.{OperandAst}
use Rattle.hr_parse.specs.declared.ast.OperandAst.TheVariants as operand_of
use Rattle.hr_parse.specs.declared.word.Mark.{Mark}
use Rattle.hr_parse.specs.declared.word.Mark.TheVariants as m
use Rattle.hr_lex.specs.declared.token.Keyword.TheVariants as kw
use Rattle.hr_parse.specs.declared.word.Sign.TheVariants as sg
use Rattle.hr_parse.specs.declared.word.Word.{Word}
use Rattle.hr_parse.specs.declared.word.Word.TheVariants as w
use Rattle.hr_parse.specs.declared.word.Lexeme.{Lexeme}
use Rattle.hr_parse.specs.Words.{mark, same_mark}
use Rattle.hr_parse.specs.Trees.{minus}
use Rattle.hr_parse.specs.Grammar.{Language, IsMark, Gives, Seq, Map, Either, Listed, IsName, IsNegative, IsConstant, column, literal, operand}
use Rattle.hr_print.specs.Print.{more, joined, dotted, column_text, literal_text, operand_text, name_text, op_text}
use Rattle.hr_print.specs.Places.{bare_name, bare_column, bare_literal, bare_operand}
use Rattle.hr_print.proofs.Spelled.{Says, Any, Ends, says_both, says_before}
use Rattle.hr_print.proofs.SaidSigns.{said_blank, said_comma, said_dot, said_minus, said_equal, said_not_equal, said_less_equal, said_greater_equal, said_less, said_greater}
use Rattle.hr_print.proofs.SaidWords.{said_name, said_null}
use Rattle.hr_print.proofs.SaidNumbers.{said_number}
use Rattle.hr_print.proofs.SaidQuotes.{said_text}
use Rattle.hr_print.proofs.Printed.{Printed, Like, The, Both, Valid, fixed, pair, change, nothing, ap_two, count, count_both, valid_left, valid_right}

-- ---- words with blanks

-- a word with a blank behind it
pub before_blank : (a : List ℕ) (x : Word) → Says Ends a (x ∷ []) → Says Any (a ++ codes " ") (x ∷ [])
before_blank a x h = says_both a (codes " ") (x ∷ []) [] h said_blank (λ rest _. refl)

pub behind_blank : {F : List ℕ → Type 0} (a : List ℕ) (x : Word) → Says F a (x ∷ []) → Says F (codes " " ++ a) (x ∷ [])
behind_blank a x h = says_both (codes " ") a [] (x ∷ []) said_blank h (λ rest _. tt)

pub between_blanks : (a : List ℕ) (x : Word) → Says Ends a (x ∷ []) → Says Any (codes " " ++ (a ++ codes " ")) (x ∷ [])
between_blanks a x h = behind_blank (a ++ codes " ") x (before_blank a x h)

pub op_said : (o : Op) → Says Any (op_text o) (w.Compare o ∷ [])
op_said op.Eq = between_blanks (codes "=") (w.Compare op.Eq) (says_before (codes "=") _ said_equal)
op_said op.Ne = between_blanks (codes "<>") (w.Compare op.Ne) (says_before (codes "<>") _ said_not_equal)
op_said op.Lt = between_blanks (codes "<") (w.Compare op.Lt) said_less
op_said op.Le = between_blanks (codes "<=") (w.Compare op.Le) (says_before (codes "<=") _ said_less_equal)
op_said op.Gt = between_blanks (codes ">") (w.Compare op.Gt) said_greater
op_said op.Ge = between_blanks (codes ">=") (w.Compare op.Ge) (says_before (codes ">=") _ said_greater_equal)

-- ---- names and columns

name_again : (n : List ℕ) (p : ℕ) (us : List Lexeme) (q : ℕ) → The (w.Name n) us q → Unit {0}
    → (b : NameAt) × IsName us b × Like bare_name (record { name = n; at = p }) b
name_again n p us q (The.the r) h = (record { name = n; at = r }, IsName.the_name n r, refl)

pub printed_name : (u : List Lexeme) (a : NameAt) → IsName u a → Valid u → Printed Ends (name_text a) IsName (Like bare_name a) (count u)
printed_name u a (IsName.the_name n p) v = change (fixed (w.Name n) (said_name n v.0)) (name_again n p) (omega arith)

-- [ k L ]
abbrev pub Optional : {A : Type 0} → Mark → Language A → Language (Option A)
Optional k L = Either (Seq (IsMark k) (λ _. Map Some L)) (Gives None)

-- behind a mark that must come, there is the part
pub some_again : {A : Type 0} (k : Mark) (L : List Lexeme → A → Type 0) (f : A → A) (a : A) (us : List Lexeme) (p : ℕ × A) → Both (The (w.Fixed k)) L us p → (Unit {0} × Like f a p.1)
    → (b : Option A) × Optional k L us b × Like (option_map f) (Some a) b
some_again k L f a us p (Both.both (The.the q) l) h = (Some p.1, Either.in_left (Seq.seq (IsMark.the q) (Map.map l)), ap Some h.1)

printed_dotted : (u : List Lexeme) (a : Option NameAt) → Optional (m.Sign sg.Dot) IsName u a → Valid u → Printed Ends (dotted a) (Optional (m.Sign sg.Dot) IsName) (Like (option_map bare_name) a) (count u)
unfolding same_mark
printed_dotted s c (Either.in_right Gives.nothing) v = nothing 0 None (Either.in_right Gives.nothing) refl
printed_dotted s c (Either.in_left (Seq.seq (IsMark.the p) (Map.map {u} {a} l))) v = change (pair (fixed (w.Fixed (m.Sign sg.Dot)) said_dot) (printed_name u a l v.1) (λ rest h. tt)) (some_again (m.Sign sg.Dot) IsName bare_name a) (omega arith)

dotted_apart : (a : Option NameAt) (rest : List ℕ) → Ends rest → Ends (dotted a ++ rest)
dotted_apart None rest h = h
dotted_apart (Some a) rest h = refl

column_again : (a : NameAt) (b : Option NameAt) (us : List Lexeme) (p : NameAt × Option NameAt) → Both IsName (Optional (m.Sign sg.Dot) IsName) us p → (Like bare_name a p.0 × Like (option_map bare_name) b p.1)
    → (c : ColumnAst) × column.gives us c × Like bare_column (record { first = a; second = b }) c
unfolding column
column_again a b us p (Both.both l k) h = (record { first = p.0; second = p.1 }, Seq.seq l (Map.map k), ap_two (λ (x : NameAt) (y : Option NameAt). record { first = x; second = y }) h.0 h.1)

pub printed_column : (u : List Lexeme) (a : ColumnAst) → column.gives u a → Valid u → Printed Ends (column_text a) column.gives (Like bare_column a) (count u)
unfolding column
printed_column s c (Seq.seq {u} {v} {a} l (Map.map {a = b} k)) h =
    let all : count (u ++ v) ≡ count u + count v = count_both u v in
    change (pair (printed_name u a l (valid_left u v h)) (printed_dotted v b k (valid_right u v h)) (dotted_apart b)) (column_again a b) (omega (arith, all))

-- ---- literals and operands

positive_again : (n p : ℕ) → n < 2 ^ 63 → (us : List Lexeme) (q : ℕ) → The (w.Number n) us q → Unit {0}
    → (b : LiteralAst) × literal.gives us b × Like bare_literal (record { value = lit.Int (pos n); at = p }) b
unfolding literal
positive_again n p h us q (The.the r) e = (record { value = lit.Int (pos n); at = r }, Either.in_right (Either.in_right (IsConstant.unsigned n r h)), refl)

printed_positive : (n p : ℕ) → n < 2 ^ 63 → (k : ℕ) → Printed Ends (signed_decimal (pos n)) literal.gives (Like bare_literal (record { value = lit.Int (pos n); at = p })) k
printed_positive n p h k = change (fixed (w.Number n) (said_number n (omega (arith, h)))) (positive_again n p h) (omega arith)

negative_again : (n p : ℕ) → n ≤ 2 ^ 63 → (us : List Lexeme) (q : ℕ × ℕ) → Both (The (w.Fixed (m.Sign sg.Minus))) (The (w.Number n)) us q → Unit {0} × Unit {0}
    → (b : LiteralAst) × literal.gives us b × Like bare_literal (record { value = lit.Int (minus n); at = p }) b
unfolding literal
negative_again n p h us q (Both.both (The.the r) (The.the s)) e = (record { value = lit.Int (minus n); at = r }, Either.in_left (Seq.seq (IsMark.the r) (IsNegative.signed n s h)), refl)

printed_negative : (n p : ℕ) → n ≤ 2 ^ 63 → (k : ℕ) → Printed Ends (signed_decimal (minus n)) literal.gives (Like bare_literal (record { value = lit.Int (minus n); at = p })) k
unfolding same_mark
printed_negative zero p h k = printed_positive zero p (omega arith) k
printed_negative (suc n) p h k = change (pair (fixed (w.Fixed (m.Sign sg.Minus)) said_minus) (fixed (w.Number (suc n)) (said_number (suc n) h)) (λ rest e. tt)) (negative_again (suc n) p h) (omega arith)

quoted_again : (t : List ℕ) (p : ℕ) (us : List Lexeme) (q : ℕ) → The (w.Text t) us q → Unit {0} → (b : LiteralAst) × literal.gives us b × Like bare_literal (record { value = lit.Text t; at = p }) b
unfolding literal
quoted_again t p us q (The.the r) e = (record { value = lit.Text t; at = r }, Either.in_right (Either.in_right (IsConstant.quoted t r)), refl)

null_again : (p : ℕ) (us : List Lexeme) (q : ℕ) → The (w.Fixed (m.Keyword kw.Null)) us q → Unit {0} → (b : LiteralAst) × literal.gives us b × Like bare_literal (record { value = lit.Null; at = p }) b
unfolding literal
null_again p us q (The.the r) e = (record { value = lit.Null; at = r }, Either.in_right (Either.in_left (Seq.seq (IsMark.the r) Gives.nothing)), refl)

pub printed_literal : (u : List Lexeme) (a : LiteralAst) → literal.gives u a → Valid u → Printed Ends (literal_text a) literal.gives (Like bare_literal a) (count u)
unfolding same_mark literal
printed_literal u a (Either.in_right (Either.in_right (IsConstant.unsigned n p h))) v = printed_positive n p h _
printed_literal u a (Either.in_left (Seq.seq (IsMark.the p) (IsNegative.signed n q h))) v = printed_negative n p h _
printed_literal u a (Either.in_right (Either.in_right (IsConstant.quoted t p))) v = change (fixed (w.Text t) (said_text t v.0)) (quoted_again t p) (omega arith)
printed_literal u a (Either.in_right (Either.in_left (Seq.seq (IsMark.the p) Gives.nothing))) v = change (fixed (w.Fixed (m.Keyword kw.Null)) said_null) (null_again p) (omega arith)

pub printed_operand : (u : List Lexeme) (a : OperandAst) → operand.gives u a → Valid u → Printed Ends (operand_text a) operand.gives (Like bare_operand a) (count u)
unfolding operand
printed_operand s c (Either.in_left (Map.map {u} {a} l)) v =
    change (printed_column u a l v) (λ us b k e. (operand_of.Column b, Either.in_left (Map.map k), ap operand_of.Column e)) (omega arith)
printed_operand s c (Either.in_right (Map.map {u} {a} l)) v =
    change (printed_literal u a l v) (λ us b k e. (operand_of.Literal b, Either.in_right (Map.map k), ap operand_of.Literal e)) (omega arith)

-- ---- lists

pub comma_said : Says Any (codes ", ") (w.Fixed (m.Sign sg.Comma) ∷ [])
comma_said = before_blank (codes ",") (w.Fixed (m.Sign sg.Comma)) (says_before (codes ",") _ said_comma)

more_text : {A : Type 0} (L : List Lexeme → A → Type 0) (t : A → List ℕ) (u : List Lexeme) (all : List A) → Listed L u all → more (map t all) ≡ codes ", " ++ joined (map t all)
more_text L t u all (Listed.one l) = refl
more_text L t u all (Listed.more p l k) = refl

one_again : {A : Type 0} (L : List Lexeme → A → Type 0) (f : A → A) (a : A) (us : List Lexeme) (b : A) → L us b → Like f a b → (c : List A) × Listed L us c × Like (map f) (a ∷ []) c
one_again L f a us b l e = (b ∷ [], Listed.one l, ap (λ z. z ∷ []) e)

more_again : {A : Type 0} (L : List Lexeme → A → Type 0) (f : A → A) (a : A) (others : List A) (us : List Lexeme) (p : A × (ℕ × List A)) → Both L (Both (The (w.Fixed (m.Sign sg.Comma))) (Listed L)) us p
    → (Like f a p.0 × (Unit {0} × Like (map f) others p.1.1)) → (c : List A) × Listed L us c × Like (map f) (a ∷ others) c
more_again L f a others us p (Both.both l (Both.both (The.the q) k)) e = (p.0 ∷ p.1.1, Listed.more q l k, ap_two (λ x y. x ∷ y) e.0 e.1.1)

pub printed_list : {A : Type 0} (L : List Lexeme → A → Type 0) (f : A → A) (t : A → List ℕ) → ((u : List Lexeme) (a : A) → L u a → Valid u → Printed Ends (t a) L (Like f a) (count u))
    → (u : List Lexeme) (all : List A) → Listed L u all → Valid u → Printed Ends (joined (map t all)) (Listed L) (Like (map f) all) (count u)
unfolding same_mark
printed_list L f t h s list (Listed.one {u} {a} l) v =
    subst (λ z. Printed Ends z (Listed L) (Like (map f) (a ∷ [])) (count u)) (sym (append-nil (t a))) (change (h u a l v) (one_again L f a) (omega arith))
printed_list L f t h s list (Listed.more p {u} {v} {a} {others} l k) valid =
    let rest = printed_list L f t h v others k (valid_right u (mark (m.Sign sg.Comma) p ∷ v) valid).1 in
    let all : count (u ++ (mark (m.Sign sg.Comma) p ∷ v)) ≡ count u + count v = count_both u (mark (m.Sign sg.Comma) p ∷ v) in
    subst (λ z. Printed Ends (t a ++ z) (Listed L) (Like (map f) (a ∷ others)) (count (u ++ (mark (m.Sign sg.Comma) p ∷ v)))) (sym (more_text L t v others k))
    (change (pair (h u a l (valid_left u (mark (m.Sign sg.Comma) p ∷ v) valid)) (pair (fixed (w.Fixed (m.Sign sg.Comma)) comma_said) rest (λ r e. tt)) (λ r e. refl)) (more_again L f a others) (omega (arith, all)))
