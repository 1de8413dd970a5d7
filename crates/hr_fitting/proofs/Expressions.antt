-- An expression without a problem is bound to one that fits, of the kind that was told of it.
use Rattle.std.proofs.Common.{◌≡◌, ℕ, Bool, true, cond, Option, Some, None, [], ◌++◌, refl, sym, ap, ◌∙◌, subst}
use Rattle.std.proofs.lemmas.Bool.{and_from}
use Rattle.hr_rel.specs.declared.value.Value.{Value}
use Rattle.hr_rel.specs.declared.catalog.ColKind.{ColKind}
use Rattle.hr_rel.specs.declared.catalog.ColKind.TheVariants as col
use Rattle.hr_rel.specs.declared.expr.ColRef.{ColRef}
use Rattle.hr_rel.specs.declared.expr.Expr.{Expr, fold-roll-Expr}
use Rattle.hr_rel.specs.declared.expr.Expr.TheVariants as expr
use Rattle.hr_rel.specs.declared.expr.Expr.TheOpen.{Expr-F}
use Rattle.hr_rel.specs.Fit as fit
use Rattle.hr_rel.specs.Fit.{Entries, Kind, agree, is_number, number_kind, expr_kind}
use Rattle.hr_parse.specs.declared.ast.ExprAst.{ExprAst, roll-ExprAst, ind-ExprAst, fold-roll-ExprAst}
use Rattle.hr_parse.specs.declared.ast.ExprKind.{ExprKind, roll-ExprKind, map-ExprKind, fold-ExprKind, fold-roll-ExprKind}
use Rattle.hr_parse.specs.declared.ast.ExprKind.TheOpen.{ExprKind-F}
use Rattle.hr_names.specs.Scope.{Scope}
use Rattle.hr_names.specs.Operands.{mismatch}
use Rattle.hr_check.specs.Expressions as told
use Rattle.hr_check.specs.Expressions.{Judged, as_number, judged}
use Rattle.hr_bind.specs.Bound as bound
use Rattle.hr_bind.specs.Bound.{bound_column, bound_value, bound_expr}
use Rattle.hr_fitting.proofs.Words.{left_none, right_none}
use Rattle.hr_fitting.proofs.Columns.{entries, column_ok, literal_ok, agreed}

-- ---- the kind of an expression, by its first form

kind_lit : (es : Entries) (v : Value) → expr_kind es (expr.Lit v) ≡ fit.literal_kind v
kind_lit es v = ap (expr_kind es) (sym (expr.rolls-Lit v)) ∙ fold-roll-Expr Kind (fit.kind_layer es) (Expr-F.Lit v)

pub kind_col : (es : Entries) (c : ColRef) → expr_kind es (expr.Col c) ≡ fit.column_kind es c
kind_col es c = ap (expr_kind es) (sym (expr.rolls-Col c)) ∙ fold-roll-Expr Kind (fit.kind_layer es) (Expr-F.Col c)

kind_add : (es : Entries) (a b : Expr) → expr_kind es (expr.Add a b) ≡ number_kind (expr_kind es a) (expr_kind es b)
kind_add es a b = ap (expr_kind es) (sym (expr.rolls-Add a b)) ∙ fold-roll-Expr Kind (fit.kind_layer es) (Expr-F.Add a b)

kind_sub : (es : Entries) (a b : Expr) → expr_kind es (expr.Sub a b) ≡ number_kind (expr_kind es a) (expr_kind es b)
kind_sub es a b = ap (expr_kind es) (sym (expr.rolls-Sub a b)) ∙ fold-roll-Expr Kind (fit.kind_layer es) (Expr-F.Sub a b)

kind_mul : (es : Entries) (a b : Expr) → expr_kind es (expr.Mul a b) ≡ number_kind (expr_kind es a) (expr_kind es b)
kind_mul es a b = ap (expr_kind es) (sym (expr.rolls-Mul a b)) ∙ fold-roll-Expr Kind (fit.kind_layer es) (Expr-F.Mul a b)

pub agree_back : (k : Option ColKind) → agree (Some col.Int) k ≡ true → agree k (Some col.Int) ≡ true
agree_back None e = refl
agree_back (Some col.Int) e = e
agree_back (Some col.Text) e = e

number_ok : (j : Judged) (k : Kind) → (j.problems ≡ [] → k ≡ Some j.kind) → as_number j ≡ [] → is_number k ≡ true
number_ok j k h e =
    ap is_number (h (left_none j.problems (mismatch (Some col.Int) j.kind j.at) e))
    ∙ agree_back j.kind (agreed (Some col.Int) j.kind j.at (right_none j.problems (mismatch (Some col.Int) j.kind j.at) e))

sum_ok : (a b : Judged) (j k : Kind) → (a.problems ≡ [] → j ≡ Some a.kind) → (b.problems ≡ [] → k ≡ Some b.kind) → as_number a ++ as_number b ≡ [] → number_kind j k ≡ Some (Some col.Int)
sum_ok a b j k h i e = ap (λ (t : Bool). cond t (Some (Some col.Int)) None)
    (and_from (is_number j) (is_number k) (number_ok a j h (left_none (as_number a) (as_number b) e)) (number_ok b k i (right_none (as_number a) (as_number b) e)))

module _ (scope : Scope) where
  abbrev es : Entries
  es = entries scope

  abbrev kind_judged : ExprKind → ℕ → Judged
  kind_judged k = fold-ExprKind (ℕ → Judged) Judged (told.kind_layer scope) told.expr_layer k

  abbrev pub bound_kind : ExprKind → Expr
  bound_kind k = fold-ExprKind Expr Expr (bound.kind_layer scope) bound.expr_layer k

  abbrev FineExpr : ExprAst → Type 0
  FineExpr e = (judged scope e).problems ≡ [] → expr_kind es (bound_expr scope e) ≡ Some (judged scope e).kind

  abbrev FineKind : ExprKind → Type 0
  FineKind k = (at : ℕ) → (kind_judged k at).problems ≡ [] → expr_kind es (bound_kind k) ≡ Some (kind_judged k at).kind

  carry : (k : ExprKind) (j : ℕ → Judged) (x : Expr) → kind_judged k ≡ j → bound_kind k ≡ x
      → ((at : ℕ) → (j at).problems ≡ [] → expr_kind es x ≡ Some (j at).kind) → FineKind k
  carry k j x same is h at e = ap (expr_kind es) is ∙ h at (sym (ap (λ (f : ℕ → Judged). (f at).problems) same) ∙ e) ∙ ap (λ (f : ℕ → Judged). Some (f at).kind) (sym same)

  judged_by : (y : ExprKind-F ExprKind ExprAst) → kind_judged (roll-ExprKind y) ≡ told.kind_layer scope (map-ExprKind ExprKind ExprAst (ℕ → Judged) Judged (kind_judged) (judged scope) y)
  judged_by y = fold-roll-ExprKind (ℕ → Judged) Judged (told.kind_layer scope) told.expr_layer y

  bound_by : (y : ExprKind-F ExprKind ExprAst) → bound_kind (roll-ExprKind y) ≡ bound.kind_layer scope (map-ExprKind ExprKind ExprAst Expr Expr (bound_kind) (bound_expr scope) y)
  bound_by y = fold-roll-ExprKind Expr Expr (bound.kind_layer scope) bound.expr_layer y

  fine_kind : (y : ExprKind-F ((k : ExprKind) × FineKind k) ((e : ExprAst) × FineExpr e))
      → FineKind (roll-ExprKind (map-ExprKind ((k : ExprKind) × FineKind k) ((e : ExprAst) × FineExpr e) ExprKind ExprAst (λ e. e.0) (λ e. e.0) y))
  fine_kind (ExprKind-F.Literal l) = carry (roll-ExprKind (ExprKind-F.Literal l)) _ _ (judged_by (ExprKind-F.Literal l)) (bound_by (ExprKind-F.Literal l))
      (λ at e. kind_lit es (bound_value l.value) ∙ literal_ok l e)
  fine_kind (ExprKind-F.Column c) = carry (roll-ExprKind (ExprKind-F.Column c)) _ _ (judged_by (ExprKind-F.Column c)) (bound_by (ExprKind-F.Column c))
      (λ at e. let k = column_ok scope c e in kind_col es (bound_column scope c) ∙ k.1 ∙ ap Some (sym k.2))
  fine_kind (ExprKind-F.Add a b) = carry (roll-ExprKind (ExprKind-F.Add a.0 b.0)) _ _ (judged_by (ExprKind-F.Add a.0 b.0)) (bound_by (ExprKind-F.Add a.0 b.0))
      (λ at e. kind_add es (bound_expr scope a.0) (bound_expr scope b.0)
      ∙ sum_ok (judged scope a.0) (judged scope b.0) (expr_kind es (bound_expr scope a.0)) (expr_kind es (bound_expr scope b.0)) a.1 b.1 e)
  fine_kind (ExprKind-F.Sub a b) = carry (roll-ExprKind (ExprKind-F.Sub a.0 b.0)) _ _ (judged_by (ExprKind-F.Sub a.0 b.0)) (bound_by (ExprKind-F.Sub a.0 b.0))
      (λ at e. kind_sub es (bound_expr scope a.0) (bound_expr scope b.0)
      ∙ sum_ok (judged scope a.0) (judged scope b.0) (expr_kind es (bound_expr scope a.0)) (expr_kind es (bound_expr scope b.0)) a.1 b.1 e)
  fine_kind (ExprKind-F.Mul a b) = carry (roll-ExprKind (ExprKind-F.Mul a.0 b.0)) _ _ (judged_by (ExprKind-F.Mul a.0 b.0)) (bound_by (ExprKind-F.Mul a.0 b.0))
      (λ at e. kind_mul es (bound_expr scope a.0) (bound_expr scope b.0)
      ∙ sum_ok (judged scope a.0) (judged scope b.0) (expr_kind es (bound_expr scope a.0)) (expr_kind es (bound_expr scope b.0)) a.1 b.1 e)

  fine_expr : (k : ExprKind) (at : ℕ) → FineKind k → FineExpr (roll-ExprAst (record { kind = k; at = at }))
  fine_expr k at h e =
      let same = fold-roll-ExprAst (ℕ → Judged) Judged (told.kind_layer scope) told.expr_layer (record { kind = k; at = at }) in
      ap (expr_kind es) (fold-roll-ExprAst Expr Expr (bound.kind_layer scope) bound.expr_layer (record { kind = k; at = at }))
      ∙ h at (sym (ap (λ (j : Judged). j.problems) same) ∙ e) ∙ ap (λ (j : Judged). Some j.kind) (sym same)

  pub expr_ok : (e : ExprAst) → FineExpr e
  expr_ok = ind-ExprAst (FineKind) (FineExpr) (λ x y is. subst (λ z. FineKind (roll-ExprKind z)) is (fine_kind y))
      (λ x y is. subst (λ z. FineExpr (roll-ExprAst z)) is (fine_expr y.kind.0 y.at y.kind.1))
