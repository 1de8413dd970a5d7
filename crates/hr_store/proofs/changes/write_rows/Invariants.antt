use Rattle.std.proofs.Common.{◌≡◌, true, IsSome}
use Rattle.std.specs.BTreeMap.{get}
use Rattle.hr_store.specs.declared.place.Place.{Place}
use Rattle.hr_store.specs.Places.{place_cmp}
use Rattle.hr_store.specs.Cells.{held_at}
use Rattle.hr_store.specs.Changes.{after_put, is_any_at}
use Rattle.hr_store.proofs.changes.write_rows.Given as goal

abbrev pub invariant-rows : goal.invariant-rows
invariant-rows l = record {
  rooms : (q : Place) → is_any_at l.table l.rows.items q ≡ true → IsSome (get place_cmp l.cells q);
  left : (q : Place) → after_put l.txn l.table l.rows.items q (held_at l.cells q) ≡ after_put l.txn l.table l.fn.rows.items q (held_at l.fn.cells q);
}

abbrev pub decreases-rows : goal.decreases-rows
decreases-rows l = goal.left-rows l
