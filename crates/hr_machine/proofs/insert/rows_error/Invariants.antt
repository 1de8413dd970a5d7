use Rattle.std.proofs.Common.{◌≡◌, ◌≤◌, ◌-◌, [], length, take, drop}
use Rattle.hr_machine.specs.Changes.{rows_error}
use Rattle.hr_machine.proofs.insert.rows_error.Given as goal

abbrev pub invariant-rows : goal.invariant-rows
invariant-rows l = record {
  within : l.at ≤ length l.rows;
  rest : rows_error l.columns l.table (take l.at l.rows) (drop l.at l.rows) ≡ rows_error l.columns l.table [] l.rows;
}

abbrev pub decreases-rows : goal.decreases-rows
decreases-rows l = length l.rows - l.at
