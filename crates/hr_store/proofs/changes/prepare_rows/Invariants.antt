use Rattle.std.proofs.Common.{◌≡◌, ℕ, true, take}
use Rattle.hr_store.specs.declared.place.Place.{Place}
use Rattle.hr_store.specs.Cells.{held_at, written_by, is_listed}
use Rattle.hr_store.specs.Changes.{IsReady, is_any_at}
use Rattle.hr_store.proofs.changes.prepare_rows.Given as goal

abbrev pub invariant-rows : goal.invariant-rows
invariant-rows l = record {
  ready : (q : Place) → is_any_at l.table (take l.row-index l.rows) q ≡ true → IsReady l.cells l.written l.txn q;
  lists : (u : ℕ) (q : Place) → is_listed q (written_by l.fn.written u) ≡ true → is_listed q (written_by l.written u) ≡ true;
  same : (q : Place) → held_at l.cells q ≡ held_at l.fn.cells q;
}
