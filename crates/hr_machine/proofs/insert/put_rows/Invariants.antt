use Rattle.std.proofs.Common.{◌≡◌, ◌+◌, ◌≤◌, true, length}
use Rattle.std.specs.Prelude.{vec_len, vec_capacity}
use Rattle.hr_keys.specs.Keys.{Splits}
use Rattle.hr_machine.specs.Changes.{put_rows}
use Rattle.hr_machine.proofs.insert.put_rows.Given as goal

abbrev pub invariant-rows : goal.invariant-rows
invariant-rows l = record {
  room : vec_len l.table + length l.rest.items ≤ vec_capacity l.table;
  order : l.splits ≡ true → Splits l.table.items;
  put : put_rows l.table.items l.rest.items ≡ put_rows l.fn.table.items l.fn.rows.items;
}

abbrev pub decreases-rows : goal.decreases-rows
decreases-rows l = length l.rest.items
