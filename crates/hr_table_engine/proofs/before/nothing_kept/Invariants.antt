use Rattle.std.proofs.Common.{◌≡◌, None, replicate}
use Rattle.hr_table_engine.proofs.before.nothing_kept.Given as goal

abbrev pub invariant-tables : goal.invariant-tables
invariant-tables l = l.slots.items ≡ replicate l.at None
