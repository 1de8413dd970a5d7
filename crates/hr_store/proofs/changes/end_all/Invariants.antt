use Rattle.std.proofs.Common.{◌≡◌, true, drop}
use Rattle.hr_store.specs.declared.place.Place.{Place}
use Rattle.hr_store.specs.Cells.{is_pending_of, ended, held_at, is_listed}
use Rattle.hr_store.proofs.changes.end_all.Given as goal

abbrev pub invariant-places : goal.invariant-places
invariant-places l = record {
  same : (q : Place) → ended l.ending l.txn (held_at l.cells q) ≡ ended l.ending l.txn (held_at l.fn.cells q);
  listed : (q : Place) → is_pending_of l.txn (held_at l.cells q) ≡ true → is_listed q (drop l.place-index l.places) ≡ true;
}
