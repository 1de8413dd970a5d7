-- What the text of a tree is, and the tree without its places, by the tree's first form.
use Rattle.std.proofs.Common.{◌≡◌, ℕ, Bool, nat_lt, List, ◌++◌, map, codes, sym, ◌∙◌, ap, append_assoc}
use Rattle.hr_rel.specs.declared.expr.Op.{Op}
use Rattle.hr_parse.specs.declared.ast.CondAst.{CondAst, fold-roll-CondAst}
use Rattle.hr_parse.specs.declared.ast.CondAst.TheVariants as cond_of
use Rattle.hr_parse.specs.declared.ast.CondAst.TheOpen.{CondAst-F}
use Rattle.hr_parse.specs.declared.ast.ColumnAst.{ColumnAst}
use Rattle.hr_parse.specs.declared.ast.LiteralAst.{LiteralAst}
use Rattle.hr_parse.specs.declared.ast.OperandAst.{OperandAst}
use Rattle.hr_parse.specs.declared.ast.ExprAst.{ExprAst, out-ExprAst, fold-roll-ExprAst, fold_out-ExprAst}
use Rattle.hr_parse.specs.declared.ast.ExprKind.{ExprKind, fold-ExprKind, fold-roll-ExprKind}
use Rattle.hr_parse.specs.declared.ast.ExprKind.TheVariants as kind
use Rattle.hr_parse.specs.declared.ast.ExprKind.TheOpen.{ExprKind-F}
use Rattle.hr_parse.specs.Trees.{expr, placed}
use Rattle.hr_print.specs.Print.{enclosed, joined, literal_text, column_text, operand_text, op_text, is_text, between_text, in_text, cond_layer, cond_text, kind_layer, expr_layer, expr_text}
use Rattle.hr_print.specs.Places.{bare_literal, bare_column, bare_operand, bare_test, bare_cond, bare_kind, bare_node, bare_expr}

-- ---- parts of a text, grouped from the right

pub four : (a b c d : List ℕ) → a ++ b ++ c ++ d ≡ a ++ (b ++ (c ++ d))
four a b c d = append_assoc (a ++ b) c d ∙ append_assoc a b (c ++ d)

pub five : (a b c d e : List ℕ) → a ++ b ++ c ++ d ++ e ≡ a ++ (b ++ (c ++ (d ++ e)))
five a b c d e = append_assoc (a ++ b ++ c) d e ∙ four a b c (d ++ e)

pub seven : (a b c d e f g : List ℕ) → a ++ b ++ c ++ d ++ e ++ f ++ g ≡ a ++ (b ++ (c ++ (d ++ (e ++ (f ++ g)))))
seven a b c d e f g = append_assoc (a ++ b ++ c ++ d ++ e) f g ∙ append_assoc (a ++ b ++ c ++ d) e (f ++ g) ∙ five a b c d (e ++ (f ++ g))

-- ---- the text of a condition

pub or_shown : (a b : CondAst) (least : ℕ) → cond_text (cond_of.Or a b) least ≡ enclosed (nat_lt 0 least) (cond_text a 0 ++ (codes " OR " ++ cond_text b 1))
or_shown a b least = ap (λ c. cond_text c least) (sym (cond_of.rolls-Or a b)) ∙ ap (λ f. f least) (fold-roll-CondAst (ℕ → List ℕ) cond_layer (CondAst-F.Or a b))
    ∙ ap (enclosed (nat_lt 0 least)) (append_assoc (cond_text a 0) (codes " OR ") (cond_text b 1))

pub and_shown : (a b : CondAst) (least : ℕ) → cond_text (cond_of.And a b) least ≡ enclosed (nat_lt 1 least) (cond_text a 1 ++ (codes " AND " ++ cond_text b 2))
and_shown a b least = ap (λ c. cond_text c least) (sym (cond_of.rolls-And a b)) ∙ ap (λ f. f least) (fold-roll-CondAst (ℕ → List ℕ) cond_layer (CondAst-F.And a b))
    ∙ ap (enclosed (nat_lt 1 least)) (append_assoc (cond_text a 1) (codes " AND ") (cond_text b 2))

pub not_shown : (a : CondAst) (least : ℕ) → cond_text (cond_of.Not a) least ≡ codes "NOT " ++ cond_text a 2
not_shown a least = ap (λ c. cond_text c least) (sym (cond_of.rolls-Not a)) ∙ ap (λ f. f least) (fold-roll-CondAst (ℕ → List ℕ) cond_layer (CondAst-F.Not a))

pub compare_shown : (o : Op) (a b : OperandAst) (least : ℕ) → cond_text (cond_of.Compare o a b) least ≡ operand_text a ++ (op_text o ++ operand_text b)
compare_shown o a b least = ap (λ c. cond_text c least) (sym (cond_of.rolls-Compare o a b)) ∙ ap (λ f. f least) (fold-roll-CondAst (ℕ → List ℕ) cond_layer (CondAst-F.Compare o a b))
    ∙ append_assoc (operand_text a) (op_text o) (operand_text b)

pub is_null_shown : (a : OperandAst) (n : Bool) (least : ℕ) → cond_text (cond_of.IsNull a n) least ≡ operand_text a ++ is_text n
is_null_shown a n least = ap (λ c. cond_text c least) (sym (cond_of.rolls-IsNull a n)) ∙ ap (λ f. f least) (fold-roll-CondAst (ℕ → List ℕ) cond_layer (CondAst-F.IsNull a n))

pub between_shown : (a low high : OperandAst) (n : Bool) (least : ℕ) → cond_text (cond_of.Between a low high n) least ≡ operand_text a ++ (between_text n ++ (operand_text low ++ (codes " AND " ++ operand_text high)))
between_shown a low high n least = ap (λ c. cond_text c least) (sym (cond_of.rolls-Between a low high n)) ∙ ap (λ f. f least) (fold-roll-CondAst (ℕ → List ℕ) cond_layer (CondAst-F.Between a low high n))
    ∙ five (operand_text a) (between_text n) (operand_text low) (codes " AND ") (operand_text high)

pub among_shown : (a : OperandAst) (list : List LiteralAst) (n : Bool) (least : ℕ) → cond_text (cond_of.Among a list n) least ≡ operand_text a ++ (in_text n ++ (joined (map literal_text list) ++ codes ")"))
among_shown a list n least = ap (λ c. cond_text c least) (sym (cond_of.rolls-Among a list n)) ∙ ap (λ f. f least) (fold-roll-CondAst (ℕ → List ℕ) cond_layer (CondAst-F.Among a list n))
    ∙ four (operand_text a) (in_text n) (joined (map literal_text list)) (codes ")")

-- ---- a condition without its places

pub or_bare : (a b : CondAst) → bare_cond (cond_of.Or a b) ≡ cond_of.Or (bare_cond a) (bare_cond b)
or_bare a b = ap bare_cond (sym (cond_of.rolls-Or a b)) ∙ fold-roll-CondAst CondAst bare_test (CondAst-F.Or a b)

pub and_bare : (a b : CondAst) → bare_cond (cond_of.And a b) ≡ cond_of.And (bare_cond a) (bare_cond b)
and_bare a b = ap bare_cond (sym (cond_of.rolls-And a b)) ∙ fold-roll-CondAst CondAst bare_test (CondAst-F.And a b)

pub not_bare : (a : CondAst) → bare_cond (cond_of.Not a) ≡ cond_of.Not (bare_cond a)
not_bare a = ap bare_cond (sym (cond_of.rolls-Not a)) ∙ fold-roll-CondAst CondAst bare_test (CondAst-F.Not a)

pub compare_bare : (o : Op) (a b : OperandAst) → bare_cond (cond_of.Compare o a b) ≡ cond_of.Compare o (bare_operand a) (bare_operand b)
compare_bare o a b = ap bare_cond (sym (cond_of.rolls-Compare o a b)) ∙ fold-roll-CondAst CondAst bare_test (CondAst-F.Compare o a b)

pub is_null_bare : (a : OperandAst) (n : Bool) → bare_cond (cond_of.IsNull a n) ≡ cond_of.IsNull (bare_operand a) n
is_null_bare a n = ap bare_cond (sym (cond_of.rolls-IsNull a n)) ∙ fold-roll-CondAst CondAst bare_test (CondAst-F.IsNull a n)

pub between_bare : (a low high : OperandAst) (n : Bool) → bare_cond (cond_of.Between a low high n) ≡ cond_of.Between (bare_operand a) (bare_operand low) (bare_operand high) n
between_bare a low high n = ap bare_cond (sym (cond_of.rolls-Between a low high n)) ∙ fold-roll-CondAst CondAst bare_test (CondAst-F.Between a low high n)

pub among_bare : (a : OperandAst) (list : List LiteralAst) (n : Bool) → bare_cond (cond_of.Among a list n) ≡ cond_of.Among (bare_operand a) (map bare_literal list) n
among_bare a list n = ap bare_cond (sym (cond_of.rolls-Among a list n)) ∙ fold-roll-CondAst CondAst bare_test (CondAst-F.Among a list n)

-- ---- the text of an expression

abbrev pub kind_text : ExprKind → ℕ → List ℕ
kind_text = fold-ExprKind (ℕ → List ℕ) (ℕ → List ℕ) kind_layer expr_layer

-- an expression's text is that of its kind, wherever it stands
pub expr_shown : (k : ExprKind) (at least : ℕ) → expr_text (expr k at) least ≡ kind_text k least
expr_shown k at least = ap (λ f. f least) (fold-roll-ExprAst (ℕ → List ℕ) (ℕ → List ℕ) kind_layer expr_layer (record { kind = k; at = at }))

out_shown : (a : ExprAst) (least : ℕ) → expr_text a least ≡ kind_text (out-ExprAst a).kind least
out_shown a least = ap (λ f. f least) (fold_out-ExprAst (ℕ → List ℕ) (ℕ → List ℕ) kind_layer expr_layer a)

pub placed_shown : (a : ExprAst) (at least : ℕ) → expr_text (placed a at) least ≡ expr_text a least
placed_shown a at least = expr_shown (out-ExprAst a).kind at least ∙ sym (out_shown a least)

pub literal_shown : (l : LiteralAst) (at least : ℕ) → expr_text (expr (kind.Literal l) at) least ≡ literal_text l
literal_shown l at least = expr_shown (kind.Literal l) at least ∙ ap (λ k. kind_text k least) (sym (kind.rolls-Literal l))
    ∙ ap (λ f. f least) (fold-roll-ExprKind (ℕ → List ℕ) (ℕ → List ℕ) kind_layer expr_layer (ExprKind-F.Literal l))

pub column_shown : (c : ColumnAst) (at least : ℕ) → expr_text (expr (kind.Column c) at) least ≡ column_text c
column_shown c at least = expr_shown (kind.Column c) at least ∙ ap (λ k. kind_text k least) (sym (kind.rolls-Column c))
    ∙ ap (λ f. f least) (fold-roll-ExprKind (ℕ → List ℕ) (ℕ → List ℕ) kind_layer expr_layer (ExprKind-F.Column c))

pub add_shown : (a b : ExprAst) (at least : ℕ) → expr_text (expr (kind.Add a b) at) least ≡ enclosed (nat_lt 0 least) (expr_text a 0 ++ (codes " + " ++ expr_text b 1))
add_shown a b at least = expr_shown (kind.Add a b) at least ∙ ap (λ k. kind_text k least) (sym (kind.rolls-Add a b))
    ∙ ap (λ f. f least) (fold-roll-ExprKind (ℕ → List ℕ) (ℕ → List ℕ) kind_layer expr_layer (ExprKind-F.Add a b))
    ∙ ap (enclosed (nat_lt 0 least)) (append_assoc (expr_text a 0) (codes " + ") (expr_text b 1))

pub sub_shown : (a b : ExprAst) (at least : ℕ) → expr_text (expr (kind.Sub a b) at) least ≡ enclosed (nat_lt 0 least) (expr_text a 0 ++ (codes " - " ++ expr_text b 1))
sub_shown a b at least = expr_shown (kind.Sub a b) at least ∙ ap (λ k. kind_text k least) (sym (kind.rolls-Sub a b))
    ∙ ap (λ f. f least) (fold-roll-ExprKind (ℕ → List ℕ) (ℕ → List ℕ) kind_layer expr_layer (ExprKind-F.Sub a b))
    ∙ ap (enclosed (nat_lt 0 least)) (append_assoc (expr_text a 0) (codes " - ") (expr_text b 1))

pub mul_shown : (a b : ExprAst) (at least : ℕ) → expr_text (expr (kind.Mul a b) at) least ≡ enclosed (nat_lt 1 least) (expr_text a 1 ++ (codes " * " ++ expr_text b 2))
mul_shown a b at least = expr_shown (kind.Mul a b) at least ∙ ap (λ k. kind_text k least) (sym (kind.rolls-Mul a b))
    ∙ ap (λ f. f least) (fold-roll-ExprKind (ℕ → List ℕ) (ℕ → List ℕ) kind_layer expr_layer (ExprKind-F.Mul a b))
    ∙ ap (enclosed (nat_lt 1 least)) (append_assoc (expr_text a 1) (codes " * ") (expr_text b 2))

-- ---- an expression without its places

abbrev pub bare_of_kind : ExprKind → ExprKind
bare_of_kind = fold-ExprKind ExprKind ExprAst bare_kind bare_node

pub expr_bare : (k : ExprKind) (at : ℕ) → bare_expr (expr k at) ≡ expr (bare_of_kind k) 0
expr_bare k at = fold-roll-ExprAst ExprKind ExprAst bare_kind bare_node (record { kind = k; at = at })

out_bare : (a : ExprAst) → bare_expr a ≡ expr (bare_of_kind (out-ExprAst a).kind) 0
out_bare a = fold_out-ExprAst ExprKind ExprAst bare_kind bare_node a

pub placed_bare : (a : ExprAst) (at : ℕ) → bare_expr (placed a at) ≡ bare_expr a
placed_bare a at = expr_bare (out-ExprAst a).kind at ∙ sym (out_bare a)

pub literal_bare : (l : LiteralAst) (at : ℕ) → bare_expr (expr (kind.Literal l) at) ≡ expr (kind.Literal (bare_literal l)) 0
literal_bare l at = expr_bare (kind.Literal l) at ∙ ap (λ k. expr (bare_of_kind k) 0) (sym (kind.rolls-Literal l))
    ∙ ap (λ k. expr k 0) (fold-roll-ExprKind ExprKind ExprAst bare_kind bare_node (ExprKind-F.Literal l))

pub column_bare : (c : ColumnAst) (at : ℕ) → bare_expr (expr (kind.Column c) at) ≡ expr (kind.Column (bare_column c)) 0
column_bare c at = expr_bare (kind.Column c) at ∙ ap (λ k. expr (bare_of_kind k) 0) (sym (kind.rolls-Column c))
    ∙ ap (λ k. expr k 0) (fold-roll-ExprKind ExprKind ExprAst bare_kind bare_node (ExprKind-F.Column c))

pub add_bare : (a b : ExprAst) (at : ℕ) → bare_expr (expr (kind.Add a b) at) ≡ expr (kind.Add (bare_expr a) (bare_expr b)) 0
add_bare a b at = expr_bare (kind.Add a b) at ∙ ap (λ k. expr (bare_of_kind k) 0) (sym (kind.rolls-Add a b))
    ∙ ap (λ k. expr k 0) (fold-roll-ExprKind ExprKind ExprAst bare_kind bare_node (ExprKind-F.Add a b))

pub sub_bare : (a b : ExprAst) (at : ℕ) → bare_expr (expr (kind.Sub a b) at) ≡ expr (kind.Sub (bare_expr a) (bare_expr b)) 0
sub_bare a b at = expr_bare (kind.Sub a b) at ∙ ap (λ k. expr (bare_of_kind k) 0) (sym (kind.rolls-Sub a b))
    ∙ ap (λ k. expr k 0) (fold-roll-ExprKind ExprKind ExprAst bare_kind bare_node (ExprKind-F.Sub a b))

pub mul_bare : (a b : ExprAst) (at : ℕ) → bare_expr (expr (kind.Mul a b) at) ≡ expr (kind.Mul (bare_expr a) (bare_expr b)) 0
mul_bare a b at = expr_bare (kind.Mul a b) at ∙ ap (λ k. expr (bare_of_kind k) 0) (sym (kind.rolls-Mul a b))
    ∙ ap (λ k. expr k 0) (fold-roll-ExprKind ExprKind ExprAst bare_kind bare_node (ExprKind-F.Mul a b))
