use Rattle.std.proofs.Common.{◌≡◌, ◌⊎◌, inl, inr, ℕ, ◌++◌, Some, sym, ap, ◌∙◌}
use Rattle.hr_rel.specs.declared.catalog.ColKind.TheVariants as col
use Rattle.hr_parse.specs.declared.ast.ExprAst.{ExprAst, fold_out-ExprAst, out-ExprAst}
use Rattle.hr_parse.specs.declared.ast.ExprKind.{ExprKind, fold-ExprKind, fold-roll-ExprKind}
use Rattle.hr_parse.specs.declared.ast.ExprKind.TheVariants as kind
use Rattle.hr_parse.specs.declared.ast.ExprKind.TheOpen.{ExprKind-F}
use Rattle.hr_problem.specs.Problems.{least}
use Rattle.hr_names.specs.Scope.{Scope}
use Rattle.hr_names.specs.Operands.{mismatch}
use Rattle.hr_check.specs.Expressions.{Judged, as_number, kind_layer, expr_layer, judged}
use Rattle.hr_names.specs.Seen.{seen}
use Rattle.hr_problem.proofs.Listed.{both}
use Rattle.hr_check.proofs.expr.+expr_problem.Goals as goal

told_add : (scope : Scope) (e a b : ExprAst) → (out-ExprAst e).kind ≡ kind.Add a b → (judged scope e).problems ≡ as_number (judged scope a) ++ as_number (judged scope b)
told_add scope e a b is = ap (λ (j : Judged). j.problems) (fold_out-ExprAst (ℕ → Judged) Judged (kind_layer scope) expr_layer e)
    ∙ ap (λ (k : ExprKind). (fold-ExprKind (ℕ → Judged) Judged (kind_layer scope) expr_layer k (out-ExprAst e).at).problems) (is ∙ sym (kind.rolls-Add a b))
    ∙ ap (λ (f : ℕ → Judged). (f (out-ExprAst e).at).problems) (fold-roll-ExprKind (ℕ → Judged) Judged (kind_layer scope) expr_layer (ExprKind-F.Add a b))

told_sub : (scope : Scope) (e a b : ExprAst) → (out-ExprAst e).kind ≡ kind.Sub a b → (judged scope e).problems ≡ as_number (judged scope a) ++ as_number (judged scope b)
told_sub scope e a b is = ap (λ (j : Judged). j.problems) (fold_out-ExprAst (ℕ → Judged) Judged (kind_layer scope) expr_layer e)
    ∙ ap (λ (k : ExprKind). (fold-ExprKind (ℕ → Judged) Judged (kind_layer scope) expr_layer k (out-ExprAst e).at).problems) (is ∙ sym (kind.rolls-Sub a b))
    ∙ ap (λ (f : ℕ → Judged). (f (out-ExprAst e).at).problems) (fold-roll-ExprKind (ℕ → Judged) Judged (kind_layer scope) expr_layer (ExprKind-F.Sub a b))

told_mul : (scope : Scope) (e a b : ExprAst) → (out-ExprAst e).kind ≡ kind.Mul a b → (judged scope e).problems ≡ as_number (judged scope a) ++ as_number (judged scope b)
told_mul scope e a b is = ap (λ (j : Judged). j.problems) (fold_out-ExprAst (ℕ → Judged) Judged (kind_layer scope) expr_layer e)
    ∙ ap (λ (k : ExprKind). (fold-ExprKind (ℕ → Judged) Judged (kind_layer scope) expr_layer k (out-ExprAst e).at).problems) (is ∙ sym (kind.rolls-Mul a b))
    ∙ ap (λ (f : ℕ → Judged). (f (out-ExprAst e).at).problems) (fold-roll-ExprKind (ℕ → Judged) Judged (kind_layer scope) expr_layer (ExprKind-F.Mul a b))

told_any : (scope : Scope) (e a b : ExprAst) → ((out-ExprAst e).kind ≡ kind.Add a b) ⊎ ((out-ExprAst e).kind ≡ kind.Sub a b) ⊎ ((out-ExprAst e).kind ≡ kind.Mul a b)
    → (judged scope e).problems ≡ as_number (judged scope a) ++ as_number (judged scope b)
told_any scope e a b (inl is) = told_add scope e a b is
told_any scope e a b (inr (inl is)) = told_sub scope e a b is
told_any scope e a b (inr (inr is)) = told_mul scope e a b is

pub returns-in-Add : goal.returns-in-Add
returns-in-Add n c =
    let scope = seen c.args.scope in
    let number = λ (z : ExprAst). mismatch (Some col.Int) (judged scope z).kind (judged scope z).at in
    let own_a = c.expr_problem.ensures ∙ ap (λ (z : ExprAst). least (judged scope z).problems) c.get-in-Add.ensures in
    let not_a = c.not_number.ensures ∙ ap (λ (z : ExprAst). least (number z)) c.get-in-Add-2.ensures in
    let own_b = c.expr_problem-in-Add.ensures ∙ ap (λ (z : ExprAst). least (judged scope z).problems) c.get-in-Add-3.ensures in
    let not_b = c.not_number-in-Add.ensures ∙ ap (λ (z : ExprAst). least (number z)) c.get-in-Add-4.ensures in
    let a = both c.expr_problem.result c.not_number.result c.sooner-left.result (judged scope c.in-Add.a).problems (number c.in-Add.a) c.sooner-left.ensures own_a not_a in
    let b = both c.expr_problem-in-Add.result c.not_number-in-Add.result c.sooner-right.result (judged scope c.in-Add.b).problems (number c.in-Add.b) c.sooner-right.ensures own_b not_b in
    both c.sooner-left.result c.sooner-right.result c.sooner.result (as_number (judged scope c.in-Add.a)) (as_number (judged scope c.in-Add.b)) c.sooner.ensures a b
    ∙ sym (ap least (told_any scope c.args.expr.now c.in-Add.a c.in-Add.b c.in-Add.is))
