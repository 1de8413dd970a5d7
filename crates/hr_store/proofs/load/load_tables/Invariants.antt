use Rattle.std.proofs.Common.{◌≡◌, drop}
use Rattle.hr_store.specs.declared.place.Place.{Place}
use Rattle.hr_store.specs.Cells.{held_at}
use Rattle.hr_store.specs.Loads.{all_loaded}
use Rattle.hr_store.proofs.load.load_tables.Given as goal

abbrev pub invariant-tables : goal.invariant-tables
invariant-tables l = record {
  count : l.number ≡ l.table-index;
  rest : (q : Place) → all_loaded l.number (drop l.table-index l.tables) q (held_at l.cells q) ≡ all_loaded 0 l.tables q (held_at l.fn.cells q);
}
