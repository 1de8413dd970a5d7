use Rattle.std.proofs.Common.{◌≡◌, ◌++◌, ◌+◌, ◌≤◌, take, length}
use Rattle.std.specs.Vec.{vec_len, vec_capacity}
use Rattle.hr_locks.specs.Locks.{locks_on}
use Rattle.hr_locks.proofs.changes.put_locks.Given as goal

-- those so far are locked, and there is room for the others
abbrev pub invariant-needs : goal.invariant-needs
invariant-needs g l = record {
  put : l.locks.items ≡ l.fn.locks.items ++ locks_on l.txn (take l.need-index l.needs);
  room : vec_len l.locks + length l.needs ≤ vec_capacity l.locks + l.need-index;
}
