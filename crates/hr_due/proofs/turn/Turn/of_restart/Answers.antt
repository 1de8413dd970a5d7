use Rattle.std.proofs.Common.{Option, None}
use Rattle.hr_history.specs.Turn as history
use Rattle.hr_due.proofs.turn.Turn.of_restart.Goals as goal

pub returns : goal.returns
returns c = λ (turn : history.Turn). λ i. record { start = c.args.place; went = None; bad_count = c.bad_count-bad_count.ensures turn.bad_count i; owed = None }
