use Rattle.std.proofs.Common.{◌≡◌, true, drop, IsSome}
use Rattle.std.specs.BTreeMap.{get}
use Rattle.hr_store.specs.declared.place.Place.{Place}
use Rattle.hr_store.specs.Places.{place_cmp}
use Rattle.hr_store.specs.Cells.{held_at}
use Rattle.hr_store.specs.Changes.{after_remove, is_key_at}
use Rattle.hr_store.proofs.changes.write_keys.Given as goal

abbrev pub invariant-keys : goal.invariant-keys
invariant-keys l = record {
  rooms : (q : Place) → is_key_at l.table l.keys q ≡ true → IsSome (get place_cmp l.cells q);
  stays : (q : Place) → IsSome (get place_cmp l.fn.cells q) → IsSome (get place_cmp l.cells q);
  left : (q : Place) → after_remove l.txn l.table (drop l.key-index l.keys) q (held_at l.cells q) ≡ after_remove l.txn l.table l.keys q (held_at l.fn.cells q);
}
