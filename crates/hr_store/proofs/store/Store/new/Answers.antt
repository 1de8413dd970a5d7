use Rattle.std.proofs.Common.{◌≡◌, None, ap, sym, ◌∙◌}
use Rattle.std.specs.Prelude.{unwrap_or}
use Rattle.std.specs.Map.{lookup}
use Rattle.std.specs.BTreeMap.{is_at}
use Rattle.hr_store.specs.Places.{place_cmp}
use Rattle.hr_store.specs.Cells.{is_of, empty_cell, held_at}
use Rattle.hr_store.proofs.StoreLaws.{all_loaded_pending}
use Rattle.hr_store.proofs.store.Store.new.Goals as goal

pub invariant_of-result : goal.invariant_of-result
invariant_of-result c = record {
  sorted = c.are_in_order.ensures;
  listed = λ u q pending.
      let nothing : (held_at c.new-cells.result q).pending ≡ None = ap (λ es. (unwrap_or (lookup (is_at (place_cmp q)) es) empty_cell).pending) c.new-cells.ensures.empty in
      let none : (held_at c.load_tables.new.cells q).pending ≡ None =
      ap (λ cell. cell.pending) (c.in_ok-tables.ensures.loaded q) ∙ all_loaded_pending 0 c.as_slice.result.now q (held_at c.new-cells.result q) nothing in
      cc (sym (ap (is_of u) none) ∙ pending);
}
