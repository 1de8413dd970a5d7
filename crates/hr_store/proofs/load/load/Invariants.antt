use Rattle.std.proofs.Common.{◌≡◌, drop}
use Rattle.hr_store.specs.declared.place.Place.{Place}
use Rattle.hr_store.specs.Cells.{held_at}
use Rattle.hr_store.specs.Loads.{loaded}
use Rattle.hr_store.proofs.load.load.Given as goal

abbrev pub invariant-rows : goal.invariant-rows
invariant-rows l = (q : Place) → loaded l.table (drop l.row-index l.rows) q (held_at l.cells q) ≡ loaded l.table l.rows q (held_at l.fn.cells q)
