-- What a condition and an expression come to, by their outermost form: equations that compute them, as `simp (..) refl` does.
use Rattle.std.proofs.Common.{◌≡◌, Bool, ◌&&◌, ap, sym, ◌∙◌}
use Rattle.std.specs.Prelude.{Result, Ok, is_some, ◌+ℤ◌, ◌-ℤ◌, ◌*ℤ◌}
use Rattle.hr_rel.specs.declared.value.Value.{Value}
use Rattle.hr_rel.specs.declared.answer.RunError.{RunError}
use Rattle.hr_rel.specs.declared.expr.ColRef.{ColRef}
use Rattle.hr_rel.specs.declared.expr.Op.{Op}
use Rattle.hr_rel.specs.declared.expr.Operand.{Operand}
use Rattle.hr_rel.specs.declared.expr.Pred.{Pred, fold-roll-Pred}
use Rattle.hr_rel.specs.declared.expr.Pred.TheVariants as pred
use Rattle.hr_rel.specs.declared.expr.Pred.TheOpen.{Pred-F}
use Rattle.hr_rel.specs.declared.expr.Expr.{Expr, fold-roll-Expr}
use Rattle.hr_rel.specs.declared.expr.Expr.TheVariants as expr
use Rattle.hr_rel.specs.declared.expr.Expr.TheOpen.{Expr-F}
use Rattle.hr_rel.specs.Kinds.{is_null}
use Rattle.hr_rel.specs.Fit.{Entries, Kind, fits_layer, pred_fits, both_agree, operand_kind, kind_layer, expr_kind, column_kind, literal_kind, number_kind}
use Rattle.hr_meaning.specs.declared.truth.Truth.{Truth}
use Rattle.hr_meaning.specs.Truth.{Tuple, truth_layer, truth_of, compared, operand_value, both, either, opposite, tested, column_value}
use Rattle.hr_meaning.specs.Value.{value_layer, value_of, operation}

module _ (rows : Tuple) where
  pub truth_compare : (o : Op) (a b : Operand) → truth_of (pred.Compare o a b) rows ≡ compared o (operand_value rows a) (operand_value rows b)
  truth_compare o a b = ap (λ p. truth_of p rows) (sym (pred.rolls-Compare o a b)) ∙ ap (λ f. f rows) (fold-roll-Pred (Tuple → Truth) truth_layer (Pred-F.Compare o a b))

  pub truth_is_null : (a : Operand) → truth_of (pred.IsNull a) rows ≡ tested (is_null (operand_value rows a))
  truth_is_null a = ap (λ p. truth_of p rows) (sym (pred.rolls-IsNull a)) ∙ ap (λ f. f rows) (fold-roll-Pred (Tuple → Truth) truth_layer (Pred-F.IsNull a))

  pub truth_and : (a b : Pred) → truth_of (pred.And a b) rows ≡ both (truth_of a rows) (truth_of b rows)
  truth_and a b = ap (λ p. truth_of p rows) (sym (pred.rolls-And a b)) ∙ ap (λ f. f rows) (fold-roll-Pred (Tuple → Truth) truth_layer (Pred-F.And a b))

  pub truth_or : (a b : Pred) → truth_of (pred.Or a b) rows ≡ either (truth_of a rows) (truth_of b rows)
  truth_or a b = ap (λ p. truth_of p rows) (sym (pred.rolls-Or a b)) ∙ ap (λ f. f rows) (fold-roll-Pred (Tuple → Truth) truth_layer (Pred-F.Or a b))

  pub truth_not : (a : Pred) → truth_of (pred.Not a) rows ≡ opposite (truth_of a rows)
  truth_not a = ap (λ p. truth_of p rows) (sym (pred.rolls-Not a)) ∙ ap (λ f. f rows) (fold-roll-Pred (Tuple → Truth) truth_layer (Pred-F.Not a))

  pub value_lit : (v : Value) → value_of (expr.Lit v) rows ≡ Ok v
  value_lit v = ap (λ e. value_of e rows) (sym (expr.rolls-Lit v)) ∙ ap (λ f. f rows) (fold-roll-Expr (Tuple → Result Value RunError) value_layer (Expr-F.Lit v))

  pub value_col : (c : ColRef) → value_of (expr.Col c) rows ≡ Ok (column_value rows c)
  value_col c = ap (λ e. value_of e rows) (sym (expr.rolls-Col c)) ∙ ap (λ f. f rows) (fold-roll-Expr (Tuple → Result Value RunError) value_layer (Expr-F.Col c))

  pub value_add : (a b : Expr) → value_of (expr.Add a b) rows ≡ operation (λ m n. m +ℤ n) (value_of a rows) (value_of b rows)
  value_add a b = ap (λ e. value_of e rows) (sym (expr.rolls-Add a b)) ∙ ap (λ f. f rows) (fold-roll-Expr (Tuple → Result Value RunError) value_layer (Expr-F.Add a b))

  pub value_sub : (a b : Expr) → value_of (expr.Sub a b) rows ≡ operation (λ m n. m -ℤ n) (value_of a rows) (value_of b rows)
  value_sub a b = ap (λ e. value_of e rows) (sym (expr.rolls-Sub a b)) ∙ ap (λ f. f rows) (fold-roll-Expr (Tuple → Result Value RunError) value_layer (Expr-F.Sub a b))

  pub value_mul : (a b : Expr) → value_of (expr.Mul a b) rows ≡ operation (λ m n. m *ℤ n) (value_of a rows) (value_of b rows)
  value_mul a b = ap (λ e. value_of e rows) (sym (expr.rolls-Mul a b)) ∙ ap (λ f. f rows) (fold-roll-Expr (Tuple → Result Value RunError) value_layer (Expr-F.Mul a b))

module _ (entries : Entries) where
  pub fits_compare : (o : Op) (a b : Operand) → pred_fits entries (pred.Compare o a b) ≡ both_agree (operand_kind entries a) (operand_kind entries b)
  fits_compare o a b = ap (pred_fits entries) (sym (pred.rolls-Compare o a b)) ∙ fold-roll-Pred Bool (fits_layer entries) (Pred-F.Compare o a b)

  pub fits_is_null : (a : Operand) → pred_fits entries (pred.IsNull a) ≡ is_some (operand_kind entries a)
  fits_is_null a = ap (pred_fits entries) (sym (pred.rolls-IsNull a)) ∙ fold-roll-Pred Bool (fits_layer entries) (Pred-F.IsNull a)

  pub fits_and : (a b : Pred) → pred_fits entries (pred.And a b) ≡ pred_fits entries a && pred_fits entries b
  fits_and a b = ap (pred_fits entries) (sym (pred.rolls-And a b)) ∙ fold-roll-Pred Bool (fits_layer entries) (Pred-F.And a b)

  pub fits_or : (a b : Pred) → pred_fits entries (pred.Or a b) ≡ pred_fits entries a && pred_fits entries b
  fits_or a b = ap (pred_fits entries) (sym (pred.rolls-Or a b)) ∙ fold-roll-Pred Bool (fits_layer entries) (Pred-F.Or a b)

  pub fits_not : (a : Pred) → pred_fits entries (pred.Not a) ≡ pred_fits entries a
  fits_not a = ap (pred_fits entries) (sym (pred.rolls-Not a)) ∙ fold-roll-Pred Bool (fits_layer entries) (Pred-F.Not a)

  pub kind_lit : (v : Value) → expr_kind entries (expr.Lit v) ≡ literal_kind v
  kind_lit v = ap (expr_kind entries) (sym (expr.rolls-Lit v)) ∙ fold-roll-Expr Kind (kind_layer entries) (Expr-F.Lit v)

  pub kind_col : (c : ColRef) → expr_kind entries (expr.Col c) ≡ column_kind entries c
  kind_col c = ap (expr_kind entries) (sym (expr.rolls-Col c)) ∙ fold-roll-Expr Kind (kind_layer entries) (Expr-F.Col c)

  pub kind_add : (a b : Expr) → expr_kind entries (expr.Add a b) ≡ number_kind (expr_kind entries a) (expr_kind entries b)
  kind_add a b = ap (expr_kind entries) (sym (expr.rolls-Add a b)) ∙ fold-roll-Expr Kind (kind_layer entries) (Expr-F.Add a b)

  pub kind_sub : (a b : Expr) → expr_kind entries (expr.Sub a b) ≡ number_kind (expr_kind entries a) (expr_kind entries b)
  kind_sub a b = ap (expr_kind entries) (sym (expr.rolls-Sub a b)) ∙ fold-roll-Expr Kind (kind_layer entries) (Expr-F.Sub a b)

  pub kind_mul : (a b : Expr) → expr_kind entries (expr.Mul a b) ≡ number_kind (expr_kind entries a) (expr_kind entries b)
  kind_mul a b = ap (expr_kind entries) (sym (expr.rolls-Mul a b)) ∙ fold-roll-Expr Kind (kind_layer entries) (Expr-F.Mul a b)

-- all of them
pub ruleset folds = (truth_compare, truth_is_null, truth_and, truth_or, truth_not, value_lit, value_col, value_add, value_sub, value_mul, fits_compare, fits_is_null, fits_and, fits_or, fits_not, kind_lit, kind_col, kind_add, kind_sub, kind_mul)
