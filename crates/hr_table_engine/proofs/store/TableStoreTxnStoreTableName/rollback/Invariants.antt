use Rattle.std.proofs.Common.{◌≡◌, ◌<◌, ℕ, false, length}
use Rattle.hr_lock_engine.specs.Views.{OthersSee, NoMoreWrote}
use Rattle.hr_table_engine.specs.Undo.{committed_in, seen_in, wrote_in, slot_at, is_of}
use Rattle.hr_table_engine.proofs.store.TableStoreTxnStoreTableName.rollback.Given as goal

abbrev pub invariant-tables : goal.invariant-tables
invariant-tables l = record {
  base : committed_in l.self.slots.items l.self.machine ≡ committed_in l.fn.self.slots.items l.fn.self.machine;
  others : OthersSee l.txn (seen_in l.fn.self.slots.items l.fn.self.machine) (seen_in l.self.slots.items l.self.machine);
  wrote : NoMoreWrote (wrote_in l.fn.self.slots.items) (wrote_in l.self.slots.items);
  gone : (t : ℕ) → t < l.at → is_of l.txn (slot_at l.self.slots.items t) ≡ false;
  size : length l.self.slots.items ≡ length l.fn.self.slots.items;
}
