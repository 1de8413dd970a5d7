-- What the code keeps of a turn, as a history tells it.
use Rattle.std.specs.Prelude.{ℕ, None}
use Rattle.std.specs.Option.{option_map}
use Rattle.hr_history.specs.Turn as history
use Rattle.hr_due.specs.declared.turn.Turn.{Turn}
use Rattle.hr_due.specs.declared.turn.Gone.{Gone}
use Rattle.hr_due.specs.declared.turn.BadCount.{BadCount}
use Rattle.hr_due.specs.declared.turn.Contradiction.{Contradiction}

abbrev pub gone_in : Gone → history.Gone
gone_in g = record { from = g.from; why = g.why; at = g.at }

abbrev pub count_in : BadCount → history.Counted
count_in c = record { replica = c.replica; count = c.count }

abbrev pub contradiction_in : Contradiction → history.Contradiction
contradiction_in c = record { txn = c.txn; index = c.index }

-- what the rules look at
abbrev pub turn_in : Turn → history.Turn
turn_in t = record {
  start = t.start;
  went = option_map gone_in t.went;
  bad_count = option_map count_in t.bad_count;
  owed = option_map contradiction_in t.owed;
}

-- a turn in which nothing is known but where its call stands
abbrev pub quiet_turn : ℕ → history.Turn
quiet_turn place = record { start = place; went = None; bad_count = None; owed = None }
