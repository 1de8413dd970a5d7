use Rattle.std.proofs.Common.{◌≡◌, ◌<◌, ℕ, None, length}
use Rattle.hr_table_engine.specs.Undo.{committed_in, slot_at}
use Rattle.hr_table_engine.proofs.store.TableStoreTxnStoreTableName.forget.Given as goal

abbrev pub invariant-tables : goal.invariant-tables
invariant-tables l = record {
  base : committed_in l.self.slots.items l.self.machine ≡ committed_in l.fn.self.slots.items l.fn.self.machine;
  none : (t : ℕ) → t < l.at → slot_at l.self.slots.items t ≡ None;
  size : length l.self.slots.items ≡ length l.fn.self.slots.items;
}
