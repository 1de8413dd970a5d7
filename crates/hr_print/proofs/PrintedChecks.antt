-- Tests of a condition, as they are printed.
use Rattle.std.proofs.Common.{◌≡◌, ℕ, ◌+◌, Bool, true, false, List, [], ◌∷◌, ◌++◌, map, codes, refl, sym, ◌∙◌, ap, subst, arith}
use Rattle.hr_rel.specs.declared.expr.Op.{Op}
use Rattle.hr_rel.specs.declared.expr.Op.TheVariants as op
use Rattle.hr_parse.specs.declared.ast.CondAst.{CondAst}
use Rattle.hr_parse.specs.declared.ast.CondAst.TheVariants as cond_of
use Rattle.hr_parse.specs.declared.ast.LiteralAst.{LiteralAst}
use Rattle.hr_parse.specs.declared.ast.OperandAst.{OperandAst}
use Rattle.hr_parse.specs.declared.word.Mark.TheVariants as m
use Rattle.hr_lex.specs.declared.token.Keyword.TheVariants as kw
use Rattle.hr_parse.specs.declared.word.Sign.TheVariants as sg
use Rattle.hr_parse.specs.declared.word.Word.TheVariants as w
use Rattle.hr_parse.specs.declared.word.Lexeme.{Lexeme}
use Rattle.hr_parse.specs.Words.{mark, same_mark}
use Rattle.hr_parse.specs.Grammar.{IsMark, IsCompare, Gives, Seq, Map, Either, Listed, literal, operand, between, among, nullity, range_or_list, check, predicate, Tied, conditions}
use Rattle.hr_print.specs.Print.{joined, literal_text, operand_text, op_text, is_text, between_text, in_text, cond_text}
use Rattle.hr_print.specs.Places.{bare_literal, bare_operand, bare_cond}
use Rattle.hr_print.proofs.Spelled.{Ends}
use Rattle.hr_print.proofs.SaidWords.{said_and, said_not, said_is, said_null, said_between, said_in}
use Rattle.hr_print.proofs.Folds.{compare_shown, is_null_shown, between_shown, among_shown, compare_bare, is_null_bare, between_bare, among_bare}
use Rattle.hr_print.proofs.Printed.{Printed, Like, The, Both, Valid, fixed, pair, change, ap_two, count, count_both, valid_left, valid_right}
use Rattle.hr_print.proofs.PrintedTied.{Invariable, Enclosed, printed_enclosed}
use Rattle.hr_print.proofs.PrintedParts.{before_blank, between_blanks, op_said, printed_operand, printed_literal, printed_list}

-- ---- what stands behind the left operand of a test

-- a check, whatever its left operand is
abbrev Behind : List Lexeme → (OperandAst → CondAst) → Type 0
Behind us f = (l : OperandAst) → (check 0 l).gives us (f l)

-- behind a left operand that is the same apart from places, the condition is
abbrev SameTest : OperandAst → CondAst → (OperandAst → CondAst) → Type 0
SameTest left a f = (l : OperandAst) → Like bare_operand left l → Like bare_cond a (f l)

record Checked (left : OperandAst) (a : CondAst) (n : ℕ) : Type 0 where
  text : List ℕ
  same : (least : ℕ) → cond_text a least ≡ operand_text left ++ text
  apart : (rest : List ℕ) → Ends rest → Ends (text ++ rest)
  printed : Printed Ends text Behind (SameTest left a) n

op_apart : (o : Op) (text rest : List ℕ) → Ends ((op_text o ++ text) ++ rest)
op_apart op.Eq text rest = refl
op_apart op.Ne text rest = refl
op_apart op.Lt text rest = refl
op_apart op.Le text rest = refl
op_apart op.Gt text rest = refl
op_apart op.Ge text rest = refl

compared_again : (left : OperandAst) (o : Op) (a : OperandAst) (us : List Lexeme) (p : ℕ × OperandAst) → Both (The (w.Compare o)) operand.gives us p → (Unit {0} × Like bare_operand a p.1)
    → (f : OperandAst → CondAst) × Behind us f × SameTest left (cond_of.Compare o left a) f
unfolding check nullity range_or_list between among
compared_again left o a us p (Both.both (The.the q) k) h = (λ l. cond_of.Compare o l p.1, λ l. Either.in_left (Seq.seq (IsCompare.the o q) (Map.map k)), λ l e. compare_bare o l p.1 ∙ ap_two (cond_of.Compare o) e h.1 ∙ sym (compare_bare o left a))

is_null_again : (left : OperandAst) (us : List Lexeme) (p : ℕ × ℕ) → Both (The (w.Fixed (m.Keyword kw.Is))) (The (w.Fixed (m.Keyword kw.Null))) us p → (Unit {0} × Unit {0})
    → (f : OperandAst → CondAst) × Behind us f × SameTest left (cond_of.IsNull left false) f
unfolding check nullity range_or_list between among
is_null_again left us p (Both.both (The.the q) (The.the r)) h = (λ l. cond_of.IsNull l false, λ l. Either.in_right (Either.in_left (Seq.seq (IsMark.the q) (Either.in_right (Seq.seq (IsMark.the r) Gives.nothing)))), λ l e. is_null_bare l false ∙ ap (λ x. cond_of.IsNull x false) e ∙ sym (is_null_bare left false))

is_not_null_again : (left : OperandAst) (us : List Lexeme) (p : ℕ × (ℕ × ℕ)) → Both (The (w.Fixed (m.Keyword kw.Is))) (Both (The (w.Fixed (m.Keyword kw.Not))) (The (w.Fixed (m.Keyword kw.Null)))) us p → (Unit {0} × (Unit {0} × Unit {0}))
    → (f : OperandAst → CondAst) × Behind us f × SameTest left (cond_of.IsNull left true) f
unfolding check nullity range_or_list between among
is_not_null_again left us p (Both.both (The.the q) (Both.both (The.the r) (The.the s))) h = (λ l. cond_of.IsNull l true, λ l. Either.in_right (Either.in_left (Seq.seq (IsMark.the q) (Either.in_left (Seq.seq (IsMark.the r) (Seq.seq (IsMark.the s) Gives.nothing))))), λ l e. is_null_bare l true ∙ ap (λ x. cond_of.IsNull x true) e ∙ sym (is_null_bare left true))

-- low AND high
abbrev Range : List Lexeme → OperandAst × (ℕ × OperandAst) → Type 0
Range = Both operand.gives (Both (The (w.Fixed (m.Keyword kw.And))) operand.gives)

abbrev SameRange : OperandAst → OperandAst → OperandAst × (ℕ × OperandAst) → Type 0
SameRange low high p = Like bare_operand low p.0 × (Unit {0} × Like bare_operand high p.1.1)

printed_range : (q : ℕ) (u v : List Lexeme) (low high : OperandAst) → operand.gives u low → operand.gives v high → Valid (u ++ (mark (m.Keyword kw.And) q ∷ v))
    → Printed Ends (operand_text low ++ (codes " AND " ++ operand_text high)) Range (SameRange low high) (count (u ++ (mark (m.Keyword kw.And) q ∷ v)))
unfolding same_mark
printed_range q u v low high l k h =
    let all : count (u ++ (mark (m.Keyword kw.And) q ∷ v)) ≡ count u + count v = count_both u (mark (m.Keyword kw.And) q ∷ v) in
    change (pair (printed_operand u low l (valid_left u (mark (m.Keyword kw.And) q ∷ v) h))
    (pair (fixed (w.Fixed (m.Keyword kw.And)) (between_blanks (codes "AND") (w.Fixed (m.Keyword kw.And)) said_and)) (printed_operand v high k (valid_right u (mark (m.Keyword kw.And) q ∷ v) h).1) (λ r e. tt)) (λ r e. refl))
    (λ us p r e. (p, r, e)) (omega (arith, all))

same_between : (n : Bool) (left low high l a b : OperandAst) → Like bare_operand left l → Like bare_operand low a → Like bare_operand high b → Like bare_cond (cond_of.Between left low high n) (cond_of.Between l a b n)
same_between n left low high l a b e h k =
    between_bare l a b n ∙ ap (λ x. cond_of.Between x (bare_operand a) (bare_operand b) n) e
    ∙ ap_two (λ x y. cond_of.Between (bare_operand left) x y n) h k ∙ sym (between_bare left low high n)

between_again : (left low high : OperandAst) (us : List Lexeme) (p : ℕ × (OperandAst × (ℕ × OperandAst))) → Both (The (w.Fixed (m.Keyword kw.Between))) Range us p → (Unit {0} × SameRange low high p.1)
    → (f : OperandAst → CondAst) × Behind us f × SameTest left (cond_of.Between left low high false) f
unfolding check nullity range_or_list between among
between_again left low high us p (Both.both (The.the q) (Both.both l (Both.both (The.the r) k))) h =
    (λ x. cond_of.Between x p.1.0 p.1.1.1 false, λ x. Either.in_right (Either.in_right (Either.in_right (Either.in_left (Seq.seq (IsMark.the q) (Seq.seq l (Seq.seq (IsMark.the r) (Map.map k))))))), λ x e. same_between false left low high x p.1.0 p.1.1.1 e h.1.0 h.1.1.1)

not_between_again : (left low high : OperandAst) (us : List Lexeme) (p : ℕ × (ℕ × (OperandAst × (ℕ × OperandAst)))) → Both (The (w.Fixed (m.Keyword kw.Not))) (Both (The (w.Fixed (m.Keyword kw.Between))) Range) us p
    → (Unit {0} × (Unit {0} × SameRange low high p.1.1)) → (f : OperandAst → CondAst) × Behind us f × SameTest left (cond_of.Between left low high true) f
unfolding check nullity range_or_list between among
not_between_again left low high us p (Both.both (The.the o) (Both.both (The.the q) (Both.both l (Both.both (The.the r) k)))) h =
    (λ x. cond_of.Between x p.1.1.0 p.1.1.1.1 true, λ x. Either.in_right (Either.in_right (Either.in_left (Seq.seq (IsMark.the o) (Either.in_left (Seq.seq (IsMark.the q) (Seq.seq l (Seq.seq (IsMark.the r) (Map.map k)))))))), λ x e. same_between true left low high x p.1.1.0 p.1.1.1.1 e h.1.1.0 h.1.1.1.1)

among_again : (left : OperandAst) (list : List LiteralAst) (us : List Lexeme) (p : ℕ × (ℕ × (List LiteralAst × ℕ))) → Both (The (w.Fixed (m.Keyword kw.In))) (Enclosed (Listed literal.gives)) us p
    → (Unit {0} × (Unit {0} × (Like (map bare_literal) list p.1.1.0 × Unit {0}))) → (f : OperandAst → CondAst) × Behind us f × SameTest left (cond_of.Among left list false) f
unfolding check nullity range_or_list between among
among_again left list us p (Both.both (The.the q) (Both.both (The.the r) (Both.both l (The.the s)))) h =
    (λ x. cond_of.Among x p.1.1.0 false, λ x. Either.in_right (Either.in_right (Either.in_right (Either.in_right (Seq.seq (IsMark.the q) (Seq.seq (IsMark.the r) (Seq.seq l (Seq.seq (IsMark.the s) Gives.nothing))))))), λ x e. among_bare x p.1.1.0 false ∙ ap_two (λ y z. cond_of.Among y z false) e h.1.1.0 ∙ sym (among_bare left list false))

not_among_again : (left : OperandAst) (list : List LiteralAst) (us : List Lexeme) (p : ℕ × (ℕ × (ℕ × (List LiteralAst × ℕ)))) → Both (The (w.Fixed (m.Keyword kw.Not))) (Both (The (w.Fixed (m.Keyword kw.In))) (Enclosed (Listed literal.gives))) us p
    → (Unit {0} × (Unit {0} × (Unit {0} × (Like (map bare_literal) list p.1.1.1.0 × Unit {0})))) → (f : OperandAst → CondAst) × Behind us f × SameTest left (cond_of.Among left list true) f
unfolding check nullity range_or_list between among
not_among_again left list us p (Both.both (The.the o) (Both.both (The.the q) (Both.both (The.the r) (Both.both l (The.the s))))) h =
    (λ x. cond_of.Among x p.1.1.1.0 true, λ x. Either.in_right (Either.in_right (Either.in_left (Seq.seq (IsMark.the o) (Either.in_right (Seq.seq (IsMark.the q) (Seq.seq (IsMark.the r) (Seq.seq l (Seq.seq (IsMark.the s) Gives.nothing)))))))), λ x e. among_bare x p.1.1.1.0 true ∙ ap_two (λ y z. cond_of.Among y z true) e h.1.1.1.0 ∙ sym (among_bare left list true))

printed_check : (left : OperandAst) (u : List Lexeme) (a : CondAst) → (check 0 left).gives u a → Valid u → Checked left a (count u)
unfolding same_mark check nullity range_or_list between among
printed_check left s c (Either.in_left (Seq.seq (IsCompare.the o p) (Map.map {u} {a} l))) v = record {
  text = op_text o ++ operand_text a;
  same = compare_shown o left a;
  apart = λ rest h. op_apart o (operand_text a) rest;
  printed = change (pair (fixed (w.Compare o) (op_said o)) (printed_operand u a l v.1) (λ r e. tt)) (compared_again left o a) (omega arith);
}
printed_check left s c (Either.in_right (Either.in_left (Seq.seq (IsMark.the p) (Either.in_right (Seq.seq (IsMark.the q) Gives.nothing))))) v = record {
  text = is_text false;
  same = is_null_shown left false;
  apart = λ rest h. refl;
  printed = change (pair (fixed (w.Fixed (m.Keyword kw.Is)) (between_blanks (codes "IS") (w.Fixed (m.Keyword kw.Is)) said_is)) (fixed (w.Fixed (m.Keyword kw.Null)) said_null) (λ r e. tt)) (is_null_again left) (omega arith);
}
printed_check left s c (Either.in_right (Either.in_left (Seq.seq (IsMark.the p) (Either.in_left (Seq.seq (IsMark.the q) (Seq.seq (IsMark.the r) Gives.nothing)))))) v = record {
  text = is_text true;
  same = is_null_shown left true;
  apart = λ rest h. refl;
  printed = change (pair (fixed (w.Fixed (m.Keyword kw.Is)) (between_blanks (codes "IS") (w.Fixed (m.Keyword kw.Is)) said_is))
      (pair (fixed (w.Fixed (m.Keyword kw.Not)) (before_blank (codes "NOT") (w.Fixed (m.Keyword kw.Not)) said_not)) (fixed (w.Fixed (m.Keyword kw.Null)) said_null) (λ r e. tt)) (λ r e. tt)) (is_not_null_again left) (omega arith);
}
printed_check left s c (Either.in_right (Either.in_right (Either.in_right (Either.in_left (Seq.seq (IsMark.the p) (Seq.seq {u} {a} l (Seq.seq (IsMark.the q) (Map.map {u = v} {a = b} k)))))))) h = record {
  text = between_text false ++ (operand_text a ++ (codes " AND " ++ operand_text b));
  same = between_shown left a b false;
  apart = λ rest h. refl;
  printed = change (pair (fixed (w.Fixed (m.Keyword kw.Between)) (between_blanks (codes "BETWEEN") (w.Fixed (m.Keyword kw.Between)) said_between)) (printed_range q u v a b l k h.1) (λ r e. tt)) (between_again left a b) (omega arith);
}
printed_check left s c (Either.in_right (Either.in_right (Either.in_left (Seq.seq (IsMark.the o) (Either.in_left (Seq.seq (IsMark.the p) (Seq.seq {u} {a} l (Seq.seq (IsMark.the q) (Map.map {u = v} {a = b} k))))))))) h = record {
  text = between_text true ++ (operand_text a ++ (codes " AND " ++ operand_text b));
  same = between_shown left a b true;
  apart = λ rest h. refl;
  printed = change (pair (fixed (w.Fixed (m.Keyword kw.Not)) (between_blanks (codes "NOT") (w.Fixed (m.Keyword kw.Not)) said_not))
      (pair (fixed (w.Fixed (m.Keyword kw.Between)) (before_blank (codes "BETWEEN") (w.Fixed (m.Keyword kw.Between)) said_between)) (printed_range q u v a b l k h.1.1) (λ r e. tt)) (λ r e. tt)) (not_between_again left a b) (omega arith);
}
printed_check left s c (Either.in_right (Either.in_right (Either.in_right (Either.in_right (Seq.seq (IsMark.the p) (Seq.seq (IsMark.the q) (Seq.seq {u} {a = all} l (Seq.seq (IsMark.the r) Gives.nothing)))))))) h =
    let n : count (u ++ (mark (m.Sign sg.RightParen) r ∷ [])) ≡ count u + 0 = count_both u (mark (m.Sign sg.RightParen) r ∷ []) in
    record {
      text = in_text false ++ (joined (map literal_text all) ++ codes ")");
      same = among_shown left all false;
      apart = λ rest h. refl;
      printed = change (pair (fixed (w.Fixed (m.Keyword kw.In)) (between_blanks (codes "IN") (w.Fixed (m.Keyword kw.In)) said_in))
          (printed_enclosed (printed_list literal.gives bare_literal literal_text printed_literal u all l (valid_left u (mark (m.Sign sg.RightParen) r ∷ []) h.1.1))) (λ r e. tt)) (among_again left all) (omega (arith, n));
    }
printed_check left s c (Either.in_right (Either.in_right (Either.in_left (Seq.seq (IsMark.the o) (Either.in_right (Seq.seq (IsMark.the p) (Seq.seq (IsMark.the q) (Seq.seq {u} {a = all} l (Seq.seq (IsMark.the r) Gives.nothing))))))))) h =
    let n : count (u ++ (mark (m.Sign sg.RightParen) r ∷ [])) ≡ count u + 0 = count_both u (mark (m.Sign sg.RightParen) r ∷ []) in
    record {
      text = in_text true ++ (joined (map literal_text all) ++ codes ")");
      same = among_shown left all true;
      apart = λ rest h. refl;
      printed = change (pair (fixed (w.Fixed (m.Keyword kw.Not)) (between_blanks (codes "NOT") (w.Fixed (m.Keyword kw.Not)) said_not))
          (pair (fixed (w.Fixed (m.Keyword kw.In)) (before_blank (codes "IN") (w.Fixed (m.Keyword kw.In)) said_in))
          (printed_enclosed (printed_list literal.gives bare_literal literal_text printed_literal u all l (valid_left u (mark (m.Sign sg.RightParen) r ∷ []) h.1.1.1))) (λ r e. tt)) (λ r e. tt)) (not_among_again left all) (omega (arith, n));
    }

test_again : (left : OperandAst) (a : CondAst) (us : List Lexeme) (p : OperandAst × (OperandAst → CondAst)) → Both operand.gives Behind us p → (Like bare_operand left p.0 × SameTest left a p.1)
    → (b : CondAst) × Tied conditions 0 us b × Like bare_cond a b
unfolding predicate
test_again left a us p (Both.both l k) h = (p.1 p.0, Tied.plain (Seq.seq l (k p.0)), h.1 p.0 h.0)

pub printed_test : (u v : List Lexeme) (left : OperandAst) (a : CondAst) → operand.gives u left → (check 0 left).gives v a → Valid (u ++ v) → Invariable conditions cond_text bare_cond a (count (u ++ v))
printed_test u v left a l k h =
    let c = printed_check left v a k (valid_right u v h) in
    let all : count (u ++ v) ≡ count u + count v = count_both u v in
    record {
      same = λ least. c.same least ∙ sym (c.same 2);
      printed = subst (λ z. Printed Ends z (Tied conditions 0) (Like bare_cond a) (count (u ++ v))) (sym (c.same 2))
          (change (pair (printed_operand u left l (valid_left u v h)) c.printed c.apart) (test_again left a) (omega (arith, all)));
    }
