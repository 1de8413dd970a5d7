use Rattle.std.proofs.Common.{Option, None}
use Rattle.hr_history.specs.Turn as history
use Rattle.hr_due.proofs.turn.Turn.of_suspect.Goals as goal

pub returns : goal.returns
returns c = λ (turn : history.Turn). λ i. record { start = c.args.place; went = c.suspected_primary-went.ensures turn.went i; bad_count = None; owed = None }
