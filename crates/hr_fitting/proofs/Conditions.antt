-- A condition without a problem is bound to a predicate that fits.
use Rattle.std.proofs.Common.{◌≡◌, Bool, true, false, ◌&&◌, Option, Some, None, List, [], ◌∷◌, ◌++◌, is_some, refl, sym, ap, ◌∙◌, subst}
use Rattle.std.proofs.lemmas.Bool.{and_from}
use Rattle.hr_rel.specs.declared.expr.Op.{Op}
use Rattle.hr_rel.specs.declared.expr.Op.TheVariants as op
use Rattle.hr_rel.specs.declared.expr.Operand.{Operand}
use Rattle.hr_rel.specs.declared.expr.Pred.{Pred, fold-roll-Pred}
use Rattle.hr_rel.specs.declared.expr.Pred.TheVariants as pred
use Rattle.hr_rel.specs.declared.expr.Pred.TheOpen.{Pred-F}
use Rattle.hr_rel.specs.Fit as fit
use Rattle.hr_rel.specs.Fit.{Entries, both_agree, fits_layer, pred_fits, filter_fits}
use Rattle.hr_parse.specs.declared.ast.LiteralAst.{LiteralAst}
use Rattle.hr_parse.specs.declared.ast.OperandAst.{OperandAst}
use Rattle.hr_parse.specs.declared.ast.OperandAst.TheVariants as operand_ast
use Rattle.hr_parse.specs.declared.ast.CondAst.{CondAst, roll-CondAst, map-CondAst, ind-CondAst, fold-roll-CondAst}
use Rattle.hr_parse.specs.declared.ast.CondAst.TheOpen.{CondAst-F}
use Rattle.hr_problem.specs.declared.problem.Problem.{Problem}
use Rattle.hr_problem.specs.Problems.{none_at_all}
use Rattle.hr_names.specs.Scope.{Scope}
use Rattle.hr_names.specs.Operands.{operand_problems}
use Rattle.hr_check.specs.Conditions as told
use Rattle.hr_check.specs.Conditions.{against, against_each, cond_problems, filter_problems}
use Rattle.hr_bind.specs.Bound as bound
use Rattle.hr_bind.specs.Bound.{bound_operand, negated_where, equals, or_equals, is_one_of, is_between, bound_cond, bound_filter}
use Rattle.hr_fitting.proofs.Words.{left_none, right_none}
use Rattle.hr_fitting.proofs.Columns.{entries, operand_ok, compare_ok}

-- ---- whether a predicate fits, by its first form

fits_compare : (es : Entries) (o : Op) (a b : Operand) → pred_fits es (pred.Compare o a b) ≡ both_agree (fit.operand_kind es a) (fit.operand_kind es b)
fits_compare es o a b = ap (pred_fits es) (sym (pred.rolls-Compare o a b)) ∙ fold-roll-Pred Bool (fits_layer es) (Pred-F.Compare o a b)

fits_null : (es : Entries) (a : Operand) → pred_fits es (pred.IsNull a) ≡ is_some (fit.operand_kind es a)
fits_null es a = ap (pred_fits es) (sym (pred.rolls-IsNull a)) ∙ fold-roll-Pred Bool (fits_layer es) (Pred-F.IsNull a)

fits_and : (es : Entries) (a b : Pred) → pred_fits es (pred.And a b) ≡ (pred_fits es a && pred_fits es b)
fits_and es a b = ap (pred_fits es) (sym (pred.rolls-And a b)) ∙ fold-roll-Pred Bool (fits_layer es) (Pred-F.And a b)

fits_or : (es : Entries) (a b : Pred) → pred_fits es (pred.Or a b) ≡ (pred_fits es a && pred_fits es b)
fits_or es a b = ap (pred_fits es) (sym (pred.rolls-Or a b)) ∙ fold-roll-Pred Bool (fits_layer es) (Pred-F.Or a b)

fits_not : (es : Entries) (a : Pred) → pred_fits es (pred.Not a) ≡ pred_fits es a
fits_not es a = ap (pred_fits es) (sym (pred.rolls-Not a)) ∙ fold-roll-Pred Bool (fits_layer es) (Pred-F.Not a)

fits_negated : (es : Entries) (n : Bool) (p : Pred) → pred_fits es p ≡ true → pred_fits es (negated_where n p) ≡ true
fits_negated es true p e = fits_not es p ∙ e
fits_negated es false p e = e

module _ (scope : Scope) where
  abbrev es : Entries
  es = entries scope

  fits_test : (a : OperandAst) → operand_problems scope a ≡ [] → pred_fits es (pred.IsNull (bound_operand scope a)) ≡ true
  fits_test a e = fits_null es (bound_operand scope a) ∙ ap is_some (operand_ok scope a e)

  fits_compared : (o : Op) (a b : OperandAst) → operand_problems scope a ≡ [] → against scope a b ≡ [] → pred_fits es (pred.Compare o (bound_operand scope a) (bound_operand scope b)) ≡ true
  fits_compared o a b e f = fits_compare es o (bound_operand scope a) (bound_operand scope b) ∙ compare_ok scope a b e f

  fits_or_equals : (a : OperandAst) (so_far : Pred) (list : List LiteralAst) → operand_problems scope a ≡ [] → pred_fits es so_far ≡ true → against_each scope a list ≡ []
      → pred_fits es (or_equals (bound_operand scope a) so_far list) ≡ true
  fits_or_equals a so_far [] e f g = f
  fits_or_equals a so_far (l ∷ list) e f g =
      let here = left_none (against scope a (operand_ast.Literal l)) (against_each scope a list) g in
      let more = right_none (against scope a (operand_ast.Literal l)) (against_each scope a list) g in
      let x = bound_operand scope a in
      fits_or_equals a (pred.Or so_far (equals x l)) list e
      (fits_or es so_far (equals x l) ∙ and_from (pred_fits es so_far) (pred_fits es (equals x l)) f (fits_compared op.Eq a (operand_ast.Literal l) e here)) more

  fits_one_of : (a : OperandAst) (list : List LiteralAst) → operand_problems scope a ≡ [] → against_each scope a list ≡ [] → pred_fits es (is_one_of (bound_operand scope a) list) ≡ true
  fits_one_of a [] e g = fits_test a e
  fits_one_of a (l ∷ list) e g =
      fits_or_equals a (equals (bound_operand scope a) l) list e
      (fits_compared op.Eq a (operand_ast.Literal l) e (left_none (against scope a (operand_ast.Literal l)) (against_each scope a list) g))
      (right_none (against scope a (operand_ast.Literal l)) (against_each scope a list) g)

  fits_between : (a low high : OperandAst) → operand_problems scope a ≡ [] → against scope a low ≡ [] → against scope a high ≡ []
      → pred_fits es (is_between (bound_operand scope a) (bound_operand scope low) (bound_operand scope high)) ≡ true
  fits_between a low high e f g =
      let x = bound_operand scope a in
      let above = pred.Compare op.Ge x (bound_operand scope low) in
      let below = pred.Compare op.Le x (bound_operand scope high) in
      fits_and es above below ∙ and_from (pred_fits es above) (pred_fits es below) (fits_compared op.Ge a low e f) (fits_compared op.Le a high e g)

  -- ---- conditions

  abbrev Fine : CondAst → Type 0
  Fine c = cond_problems scope c ≡ [] → pred_fits es (bound_cond scope c) ≡ true

  -- what the first form of a condition is told and bound to, with a predicate that fits
  fine_by : (y : CondAst-F CondAst) (p : Pred) → bound.cond_layer scope (map-CondAst CondAst Pred (bound_cond scope) y) ≡ p
      → (told.cond_layer scope (map-CondAst CondAst (List Problem) (cond_problems scope) y) ≡ [] → pred_fits es p ≡ true) → Fine (roll-CondAst y)
  fine_by y p is h e =
      ap (pred_fits es) (fold-roll-CondAst Pred (bound.cond_layer scope) y ∙ is) ∙ h (sym (fold-roll-CondAst (List Problem) (told.cond_layer scope) y) ∙ e)

  both_fine : (a b : CondAst) → Fine a → Fine b → cond_problems scope a ++ cond_problems scope b ≡ []
      → (pred_fits es (bound_cond scope a) && pred_fits es (bound_cond scope b)) ≡ true
  both_fine a b h k e =
      and_from (pred_fits es (bound_cond scope a)) (pred_fits es (bound_cond scope b))
      (h (left_none (cond_problems scope a) (cond_problems scope b) e)) (k (right_none (cond_problems scope a) (cond_problems scope b) e))

  between_fine : (a low high : OperandAst) → operand_problems scope a ++ against scope a low ++ against scope a high ≡ []
      → pred_fits es (is_between (bound_operand scope a) (bound_operand scope low) (bound_operand scope high)) ≡ true
  between_fine a low high e =
      let front = left_none (operand_problems scope a ++ against scope a low) (against scope a high) e in
      fits_between a low high (left_none (operand_problems scope a) (against scope a low) front) (right_none (operand_problems scope a) (against scope a low) front)
      (right_none (operand_problems scope a ++ against scope a low) (against scope a high) e)

  among_fine : (a : OperandAst) (list : List LiteralAst) → none_at_all list ++ operand_problems scope a ++ against_each scope a list ≡ []
      → pred_fits es (is_one_of (bound_operand scope a) list) ≡ true
  among_fine a list e =
      let front = left_none (none_at_all list ++ operand_problems scope a) (against_each scope a list) e in
      fits_one_of a list (right_none (none_at_all list) (operand_problems scope a) front) (right_none (none_at_all list ++ operand_problems scope a) (against_each scope a list) e)

  fine_form : (y : CondAst-F ((c : CondAst) × Fine c)) → Fine (roll-CondAst (map-CondAst ((c : CondAst) × Fine c) CondAst (λ e. e.0) y))
  fine_form (CondAst-F.Or a b) = fine_by (CondAst-F.Or a.0 b.0) (pred.Or (bound_cond scope a.0) (bound_cond scope b.0)) refl
      (λ e. fits_or es (bound_cond scope a.0) (bound_cond scope b.0) ∙ both_fine a.0 b.0 a.1 b.1 e)
  fine_form (CondAst-F.And a b) = fine_by (CondAst-F.And a.0 b.0) (pred.And (bound_cond scope a.0) (bound_cond scope b.0)) refl
      (λ e. fits_and es (bound_cond scope a.0) (bound_cond scope b.0) ∙ both_fine a.0 b.0 a.1 b.1 e)
  fine_form (CondAst-F.Not a) = fine_by (CondAst-F.Not a.0) (pred.Not (bound_cond scope a.0)) refl (λ e. fits_not es (bound_cond scope a.0) ∙ a.1 e)
  fine_form (CondAst-F.Compare o a b) = fine_by (CondAst-F.Compare o a b) (pred.Compare o (bound_operand scope a) (bound_operand scope b)) refl
      (λ e. fits_compared o a b (left_none (operand_problems scope a) (against scope a b) e) (right_none (operand_problems scope a) (against scope a b) e))
  fine_form (CondAst-F.IsNull a n) = fine_by (CondAst-F.IsNull a n) (negated_where n (pred.IsNull (bound_operand scope a))) refl
      (λ e. fits_negated es n (pred.IsNull (bound_operand scope a)) (fits_test a e))
  fine_form (CondAst-F.Between a low high n) = fine_by (CondAst-F.Between a low high n) (negated_where n (is_between (bound_operand scope a) (bound_operand scope low) (bound_operand scope high))) refl
      (λ e. fits_negated es n (is_between (bound_operand scope a) (bound_operand scope low) (bound_operand scope high)) (between_fine a low high e))
  fine_form (CondAst-F.Among a list n) = fine_by (CondAst-F.Among a list n) (negated_where n (is_one_of (bound_operand scope a) list)) refl
      (λ e. fits_negated es n (is_one_of (bound_operand scope a) list) (among_fine a list e))

  pub cond_ok : (c : CondAst) → Fine c
  cond_ok = ind-CondAst (Fine) (λ x y is. subst (λ z. Fine (roll-CondAst z)) is (fine_form y))

  pub filter_ok : (filter : Option CondAst) → filter_problems scope filter ≡ [] → filter_fits es (bound_filter scope filter) ≡ true
  filter_ok None e = refl
  filter_ok (Some c) e = cond_ok c e
