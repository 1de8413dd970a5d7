use Rattle.std.proofs.Common.{sym, subst, arith}
use Rattle.hr_progress.specs.Kept.{HaveGivenRoom}
use Rattle.hr_progress.proofs.Lookups.{room_more}
use Rattle.hr_progress.proofs.txn.begin.Goals as goal

pub returns-clause-room : goal.returns-clause-room
returns-clause-room c = λ room. subst HaveGivenRoom (sym c.in_ok-push.ensures.items) (room_more c.args.txns.now.items _ (omega arith, omega arith) room)
