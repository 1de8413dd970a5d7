-- The truth of a condition.
use Rattle.std.specs.Prelude.{Bool, true, false, ◌||◌, if◌then◌else◌, Option, Some, None, unwrap_or, List, [], slice_get}
use Rattle.std.specs.Ordering.{is_eq, is_ne, is_lt, is_le, is_gt, is_ge}
use Rattle.std.specs.declared.cmp.Ordering.{Ordering}
use Rattle.hr_rel.specs.declared.value.Value.{Value}
use Rattle.hr_rel.specs.declared.expr.ColRef.{ColRef}
use Rattle.hr_rel.specs.declared.expr.Op.{Op}
use Rattle.hr_rel.specs.declared.expr.Op.TheVariants as op
use Rattle.hr_rel.specs.declared.expr.Operand.{Operand}
use Rattle.hr_rel.specs.declared.expr.Operand.TheVariants as operand
use Rattle.hr_rel.specs.declared.expr.Pred.{Pred, fold-Pred}
use Rattle.hr_rel.specs.declared.expr.Pred.TheOpen.{Pred-F}
use Rattle.hr_rel.specs.Database.{value_at}
use Rattle.hr_rel.specs.Kinds.{is_null}
use Rattle.hr_meaning.specs.declared.truth.Truth.{Truth}
use Rattle.hr_meaning.specs.declared.truth.Truth.TheVariants.{True, False, Unknown}
use Rattle.hr_meaning.specs.Order.{value_cmp}

-- What a condition is judged on: one row of each table entry, so a row alone, or a pair of rows.
abbrev pub Tuple : Type 0
Tuple = List (List Value)

abbrev pub column_value : Tuple → ColRef → Value
column_value rows c = value_at c.column (unwrap_or (slice_get rows c.entry) [])

abbrev pub operand_value : Tuple → Operand → Value
operand_value rows (operand.Lit v) = v
operand_value rows (operand.Col c) = column_value rows c

-- AND, OR and NOT of the standard: what is unknown could be either
abbrev pub both : Truth → Truth → Truth
both False b = False
both True b = b
both Unknown False = False
both Unknown True = Unknown
both Unknown Unknown = Unknown

abbrev pub either : Truth → Truth → Truth
either True b = True
either False b = b
either Unknown True = True
either Unknown False = Unknown
either Unknown Unknown = Unknown

abbrev pub opposite : Truth → Truth
opposite True = False
opposite False = True
opposite Unknown = Unknown

abbrev pub tested : Bool → Truth
tested true = True
tested false = False

-- whether a comparison holds of two values that stand in this order
abbrev pub passes : Op → Ordering → Bool
passes op.Eq o = is_eq o
passes op.Ne o = is_ne o
passes op.Lt o = is_lt o
passes op.Le o = is_le o
passes op.Gt o = is_gt o
passes op.Ge o = is_ge o

-- a comparison with a NULL on either side is unknown
abbrev pub compared : Op → Value → Value → Truth
compared o a b = if is_null a || is_null b then Unknown else tested (passes o (value_cmp a b))

abbrev pub truth_layer : Pred-F (Tuple → Truth) → Tuple → Truth
truth_layer (Pred-F.Compare o a b) rows = compared o (operand_value rows a) (operand_value rows b)
truth_layer (Pred-F.IsNull a) rows = tested (is_null (operand_value rows a))
truth_layer (Pred-F.And a b) rows = both (a rows) (b rows)
truth_layer (Pred-F.Or a b) rows = either (a rows) (b rows)
truth_layer (Pred-F.Not a) rows = opposite (a rows)

-- the truth of a condition on a row or a pair
abbrev pub truth_of : Pred → Tuple → Truth
truth_of p = fold-Pred (Tuple → Truth) truth_layer p

abbrev pub is_true : Truth → Bool
is_true True = true
is_true False = false
is_true Unknown = false

-- whether a row or a pair is kept: the condition, if there is one, is true
abbrev pub is_kept : Option Pred → Tuple → Bool
is_kept None rows = true
is_kept (Some p) rows = is_true (truth_of p rows)
