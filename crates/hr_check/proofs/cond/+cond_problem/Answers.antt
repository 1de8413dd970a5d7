use Rattle.std.proofs.Common.{◌≡◌, ◌⊎◌, inl, inr, ◌++◌, List, sym, ap, ◌∙◌}
use Rattle.hr_parse.specs.declared.ast.OperandAst.{OperandAst}
use Rattle.hr_parse.specs.declared.ast.CondAst.{CondAst, fold-roll-CondAst}
use Rattle.hr_parse.specs.declared.ast.CondAst.TheVariants as cond
use Rattle.hr_parse.specs.declared.ast.CondAst.TheOpen.{CondAst-F}
use Rattle.hr_rel.specs.declared.expr.Op.{Op}
use Rattle.hr_problem.specs.declared.problem.Problem.{Problem}
use Rattle.hr_problem.specs.Problems.{least}
use Rattle.hr_names.specs.Scope.{Scope}
use Rattle.hr_names.specs.Operands.{operand_problems}
use Rattle.hr_check.specs.Conditions.{against, cond_layer, cond_problems}
use Rattle.hr_names.specs.Seen.{seen}
use Rattle.hr_problem.proofs.Listed.{both}
use Rattle.hr_check.proofs.cond.+cond_problem.Goals as goal

told_or : (scope : Scope) (a b : CondAst) → cond_problems scope (cond.Or a b) ≡ cond_problems scope a ++ cond_problems scope b
told_or scope a b = ap (cond_problems scope) (sym (cond.rolls-Or a b)) ∙ fold-roll-CondAst (List Problem) (cond_layer scope) (CondAst-F.Or a b)

told_and : (scope : Scope) (a b : CondAst) → cond_problems scope (cond.And a b) ≡ cond_problems scope a ++ cond_problems scope b
told_and scope a b = ap (cond_problems scope) (sym (cond.rolls-And a b)) ∙ fold-roll-CondAst (List Problem) (cond_layer scope) (CondAst-F.And a b)

told_either : (scope : Scope) (x a b : CondAst) → (x ≡ cond.Or a b) ⊎ (x ≡ cond.And a b) → cond_problems scope x ≡ cond_problems scope a ++ cond_problems scope b
told_either scope x a b (inl e) = ap (cond_problems scope) e ∙ told_or scope a b
told_either scope x a b (inr e) = ap (cond_problems scope) e ∙ told_and scope a b

told_compare : (scope : Scope) (o : Op) (a b : OperandAst) → cond_problems scope (cond.Compare o a b) ≡ operand_problems scope a ++ against scope a b
told_compare scope o a b = ap (cond_problems scope) (sym (cond.rolls-Compare o a b)) ∙ fold-roll-CondAst (List Problem) (cond_layer scope) (CondAst-F.Compare o a b)

pub returns-in-Or : goal.returns-in-Or
returns-in-Or n c =
    let scope = seen c.args.scope in
    let a = c.cond_problem-in-Or.ensures ∙ ap (λ (z : CondAst). least (cond_problems scope z)) c.get-in-Or.ensures in
    let b = c.cond_problem-in-Or-2.ensures ∙ ap (λ (z : CondAst). least (cond_problems scope z)) c.get-in-Or-2.ensures in
    both c.cond_problem-in-Or.result c.cond_problem-in-Or-2.result c.sooner-in-Or.result (cond_problems scope c.in-Or.a) (cond_problems scope c.in-Or.b) c.sooner-in-Or.ensures a b
    ∙ sym (ap least (told_either scope c.args.cond.now c.in-Or.a c.in-Or.b c.in-Or.is))

pub returns-in-Compare : goal.returns-in-Compare
returns-in-Compare n c =
    let scope = seen c.args.scope in
    let a = c.operand_problem.ensures ∙ ap (λ (z : OperandAst). least (operand_problems scope z)) c.get-in-Compare.ensures in
    let b = c.against.ensures ∙ ap (λ (z : OperandAst). least (against scope z c.get-in-Compare-3.result.now)) c.get-in-Compare-2.ensures
    ∙ ap (λ (z : OperandAst). least (against scope c.in-Compare.left z)) c.get-in-Compare-3.ensures in
    both c.operand_problem.result c.against.result c.sooner.result (operand_problems scope c.in-Compare.left) (against scope c.in-Compare.left c.in-Compare.right) c.sooner.ensures a b
    ∙ sym (ap least (ap (cond_problems scope) c.in-Compare.is ∙ told_compare scope c.in-Compare.field-0 c.in-Compare.left c.in-Compare.right))
