use Rattle.std.proofs.Common.{◌≡◌, take}
use Rattle.hr_table_engine.specs.Undo.{everyone, undone}
use Rattle.hr_table_engine.proofs.store.TableStoreTxnStoreTableName.dump.Given as goal

abbrev pub invariant-tables : goal.invariant-tables
invariant-tables l = l.tables ≡ take l.at (undone everyone l.self.slots.items l.self.machine.tables)
