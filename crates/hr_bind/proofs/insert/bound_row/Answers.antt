use Rattle.std.proofs.Common.{List, [], ◌∷◌, ◌++◌, map, sym, ap, ◌∙◌, arith}
use Rattle.std.specs.List.{range_with_len}
use Rattle.std.proofs.lemmas.List.FromFn.{map-range_with_len_more}
use Rattle.hr_rel.specs.declared.value.Value.{Value}
use Rattle.hr_parse.specs.declared.ast.LiteralAst.{LiteralAst}
use Rattle.hr_bind.specs.Bound.{value_in}
use Rattle.hr_bind.proofs.insert.bound_row.Goals as goal

-- one value more
pub loop-column-preserved : goal.loop-column-preserved
loop-column-preserved c =
    let f = value_in c.args.columns.now c.args.names.now c.args.tuple.now.values in
    let n = c.loop-column.column in
    c.in_ok-push.ensures.items ∙ ap (λ (row : List Value). row ++ c.in_ok-value_in.field-0 ∷ []) c.loop-column.invariant
    ∙ ap (λ (v : Value). map f (range_with_len 0 n) ++ v ∷ []) (c.in_ok-value_in.ensures ∙ ap (λ (vs : List LiteralAst). value_in c.args.columns.now c.args.names.now vs n) c.as_slice.ensures) ∙ sym (map-range_with_len_more f 0 n n (omega arith))
