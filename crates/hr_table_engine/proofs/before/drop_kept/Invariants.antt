use Rattle.std.proofs.Common.{◌≡◌}
use Rattle.hr_table_engine.proofs.Loops.{so_far}
use Rattle.hr_table_engine.proofs.before.drop_kept.Given as goal

abbrev pub invariant-slots : goal.invariant-slots
invariant-slots l = l.slots ≡ so_far l.txn l.slot-index l.fn.slots
