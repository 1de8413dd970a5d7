-- How expressions are put together.
use Rattle.std.specs.Prelude.{ℕ, zero, suc, ℤ, pos, negsuc}
use Rattle.hr_parse.specs.declared.ast.OperandAst.{OperandAst}
use Rattle.hr_parse.specs.declared.ast.OperandAst.TheVariants as operand
use Rattle.hr_parse.specs.declared.ast.ExprAst.{ExprAst, out-ExprAst, roll-ExprAst}
use Rattle.hr_parse.specs.declared.ast.ExprKind.{ExprKind}
use Rattle.hr_parse.specs.declared.ast.ExprKind.TheVariants as kind
use Rattle.hr_parse.specs.declared.expr.Operator.{Operator}
use Rattle.hr_parse.specs.declared.expr.Operator.TheVariants as op

-- an expression of this kind at a place
abbrev pub expr : ExprKind → ℕ → ExprAst
expr k at = roll-ExprAst (record { kind = k; at = at })

abbrev pub place_of : ExprAst → ℕ
place_of e = (out-ExprAst e).at

-- an operator's expression begins where its left part does
abbrev pub sum : ExprAst → ExprAst → ExprAst
sum a b = expr (kind.Add a b) (place_of a)

abbrev pub difference : ExprAst → ExprAst → ExprAst
difference a b = expr (kind.Sub a b) (place_of a)

abbrev pub product : ExprAst → ExprAst → ExprAst
product a b = expr (kind.Mul a b) (place_of a)

abbrev pub binary : Operator → ExprAst → ExprAst → ExprAst
binary op.Add a b = sum a b
binary op.Sub a b = difference a b
binary op.Mul a b = product a b

-- the same expression, with its opening parenthesis at a place
abbrev pub placed : ExprAst → ℕ → ExprAst
placed e at = expr (out-ExprAst e).kind at

-- an operand as an expression
abbrev pub simple : OperandAst → ExprAst
simple (operand.Column c) = expr (kind.Column c) c.first.at
simple (operand.Literal l) = expr (kind.Literal l) l.at

-- the number behind a sign
abbrev pub minus : ℕ → ℤ
minus zero = pos 0
minus (suc n) = negsuc n
