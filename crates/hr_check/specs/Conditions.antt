-- The problems of conditions.
use Rattle.std.specs.Prelude.{List, [], ◌++◌, flat_map, Option, Some, None}
use Rattle.hr_parse.specs.declared.ast.LiteralAst.{LiteralAst}
use Rattle.hr_parse.specs.declared.ast.OperandAst.{OperandAst}
use Rattle.hr_parse.specs.declared.ast.OperandAst.TheVariants as operand
use Rattle.hr_parse.specs.declared.ast.CondAst.{CondAst, fold-CondAst}
use Rattle.hr_parse.specs.declared.ast.CondAst.TheOpen.{CondAst-F}
use Rattle.hr_problem.specs.declared.problem.Problem.{Problem}
use Rattle.hr_problem.specs.Problems.{none_at_all}
use Rattle.hr_names.specs.Scope.{Scope}
use Rattle.hr_names.specs.Operands.{operand_problems, operand_kind, operand_at, mismatch}

-- an operand that is compared with the one on its left: its own problems, and its kind that differs
abbrev pub against : Scope → OperandAst → OperandAst → List Problem
against scope left right = operand_problems scope right ++ mismatch (operand_kind scope left) (operand_kind scope right) (operand_at right)

-- each literal of a list is compared so
abbrev pub against_each : Scope → OperandAst → List LiteralAst → List Problem
against_each scope left list = flat_map (λ (l : LiteralAst). against scope left (operand.Literal l)) list

abbrev pub between_problems : Scope → OperandAst → OperandAst → OperandAst → List Problem
between_problems scope left low high = operand_problems scope left ++ against scope left low ++ against scope left high

abbrev pub among_problems : Scope → OperandAst → List LiteralAst → List Problem
among_problems scope left list = none_at_all list ++ operand_problems scope left ++ against_each scope left list

abbrev pub cond_layer : Scope → CondAst-F (List Problem) → List Problem
cond_layer scope (CondAst-F.Or a b) = a ++ b
cond_layer scope (CondAst-F.And a b) = a ++ b
cond_layer scope (CondAst-F.Not a) = a
cond_layer scope (CondAst-F.Compare o left right) = operand_problems scope left ++ against scope left right
cond_layer scope (CondAst-F.IsNull left negated) = operand_problems scope left
cond_layer scope (CondAst-F.Between left low high negated) = between_problems scope left low high
cond_layer scope (CondAst-F.Among left list negated) = among_problems scope left list

abbrev pub cond_problems : Scope → CondAst → List Problem
cond_problems scope c = fold-CondAst (List Problem) (cond_layer scope) c

abbrev pub filter_problems : Scope → Option CondAst → List Problem
filter_problems scope None = []
filter_problems scope (Some c) = cond_problems scope c
