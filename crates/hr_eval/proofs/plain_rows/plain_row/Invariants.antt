use Rattle.std.proofs.Common.{◌≡◌, drop, true, [], ◌∷◌}
use Rattle.std.specs.List.{list_all}
use Rattle.hr_rel.specs.Fit.{is_plain}
use Rattle.hr_meaning.specs.Value.{each}
use Rattle.hr_meaning.specs.Select.{item_value, plain_row}
use Rattle.hr_eval.specs.Tuples.{rows_in}
use Rattle.hr_eval.specs.SoFar.{led}
use Rattle.hr_eval.proofs.plain_rows.plain_row.Given as goal

abbrev pub invariant-items : goal.invariant-items
invariant-items l = record {
  rest : led l.row (each (item_value (rows_in l.tuple ∷ [])) (drop l.item-index l.items)) ≡ plain_row l.items (rows_in l.tuple);
  plain : list_all is_plain (drop l.item-index l.items) ≡ true;
}
