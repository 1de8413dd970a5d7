use Rattle.std.proofs.Common.{◌≡◌, ℕ, true, take, IsSome}
use Rattle.std.specs.BTreeMap.{get}
use Rattle.hr_store.specs.Places.{place_cmp}
use Rattle.hr_store.specs.declared.place.Place.{Place}
use Rattle.hr_store.specs.Cells.{held_at, written_by, is_listed}
use Rattle.hr_store.specs.Changes.{IsReady, is_key_at}
use Rattle.hr_store.proofs.changes.prepare_keys.Given as goal

abbrev pub invariant-keys : goal.invariant-keys
invariant-keys l = record {
  ready : (q : Place) → is_key_at l.table (take l.key-index l.keys) q ≡ true → IsReady l.cells l.written l.txn q;
  rooms : (q : Place) → IsSome (get place_cmp l.fn.cells q) → IsSome (get place_cmp l.cells q);
  lists : (u : ℕ) (q : Place) → is_listed q (written_by l.fn.written u) ≡ true → is_listed q (written_by l.written u) ≡ true;
  same : (q : Place) → held_at l.cells q ≡ held_at l.fn.cells q;
}
