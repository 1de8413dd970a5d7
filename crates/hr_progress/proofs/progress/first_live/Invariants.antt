use Rattle.std.proofs.Common.{◌≡◌, ◌-◌, find, map}
use Rattle.std.specs.List.{range_with_len}
use Rattle.hr_progress.specs.Plain.{plain_progress, live_of}
use Rattle.hr_progress.proofs.progress.first_live.Given as goal

abbrev pub invariant-replicas : goal.invariant-replicas
invariant-replicas l =
    find (live_of (map plain_progress l.replicas)) (range_with_len l.replica (l.to - l.replica)) ≡ find (live_of (map plain_progress l.replicas)) (range_with_len l.fn.from (l.to - l.fn.from))
