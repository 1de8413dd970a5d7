-- How many entries may still follow in a turn, and what is to be kept free for them.
use Rattle.std.specs.Prelude.{ℕ, ◌+◌, ◌*◌, Bool, not, ◌&&◌, if◌then◌else◌, is_none, is_some, length, map, sum, count_by}
use Rattle.hr_base.specs.Lists.{is_empty}
use Rattle.hr_history.specs.declared.entry.Event.{Event}
use Rattle.hr_history.specs.declared.entry.Event.TheVariants as event
use Rattle.hr_history.specs.ReplicaNumbers.{replica_numbers}
use Rattle.hr_history.specs.View.{View, Attempt}
use Rattle.hr_history.specs.Processed.{replica_in}
use Rattle.hr_moves.specs.Kept.{open_in}

-- it runs, and wasn't preempted
abbrev pub may_be_preempted : ℕ × Attempt → Bool
may_be_preempted entry = not (is_empty entry.1.answers) && not entry.1.preempted

-- at a replica: its conviction, after which a new primary may follow, and a preemption of each that runs
abbrev pub todo_at : View → ℕ → ℕ
todo_at v r = (if (replica_in v r).convicted then 0 else 2) + count_by may_be_preempted (replica_in v r).attempts

-- No more entries than these follow: of each open transaction its end, a new primary where there is none, and the
-- replicas'.
abbrev pub todo_in : View → ℕ
todo_in v = length (open_in v) + (if is_none v.primary then 1 else 0) + sum (map (todo_at v) (replica_numbers v.f))

-- how many jobs are out
abbrev pub jobs_out_in : View → ℕ
jobs_out_in v = count_by (λ r. is_some (replica_in v r).out) (replica_numbers v.f)

-- The room that is to be free for entries: for what may follow and, for each job that is out, for its reply and what that
-- adds to it.
abbrev pub room_in : View → ℕ
room_in v = todo_in v + 2 * jobs_out_in v

-- how much more room a call needs, for itself too, than was free; replies need none
abbrev pub reserved_by : Event → ℕ
reserved_by (event.Begin session txn) = 2
reserved_by (event.Submit txn index stmt) = 1
reserved_by (event.AskCommit txn) = 1
reserved_by event.Suspect = 2
reserved_by (event.Take replica job) = 3
reserved_by _ = 0
