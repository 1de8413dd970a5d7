use Rattle.hr_parse.specs.declared.ast.LiteralAst.{LiteralAst}
use Rattle.hr_parse.specs.declared.ast.OperandAst.TheVariants as operand
use Rattle.hr_check.specs.Conditions.{against}
use Rattle.hr_names.specs.Operands.{literal_problems, literal_kind, operand_kind, mismatch}
use Rattle.hr_problem.specs.Problems.{least}
use Rattle.hr_rel.specs.declared.catalog.ColKind.{ColKind}
use Rattle.std.proofs.Common.{Option, ap, ◌∙◌}
use Rattle.hr_names.specs.Seen.{seen}
use Rattle.hr_problem.proofs.Listed.{both, listed}
use Rattle.hr_check.proofs.cond.+against_each.Goals as goal

pub returns-in-len1-up : goal.returns-in-len1-up
returns-in-len1-up n c =
    let scope = seen c.args.scope in
    let left = c.args.left.now in
    let l = c.literal-item.result in
    let kinds = c.mismatch-differs.ensures ∙ ap (λ (k : Option ColKind). least (mismatch k c.literal_kind-kind.result l.at)) c.operand_kind.ensures
    ∙ ap (λ (k : Option ColKind). least (mismatch (operand_kind scope left) k l.at)) c.literal_kind-kind.ensures in
    listed (λ (m : LiteralAst). against scope left (operand.Literal m)) c.args.list.now l c.sooner.result c.against_each.result c.sooner-in-len1-up.result
    c.in-len1-up.len_at_least c.literal-item.is c.sooner-in-len1-up.ensures
    (both c.literal_problem-own.result c.mismatch-differs.result c.sooner.result (literal_problems l) (mismatch (operand_kind scope left) (literal_kind l.value) l.at) c.sooner.ensures c.literal_problem-own.ensures kinds)
    c.against_each.ensures
