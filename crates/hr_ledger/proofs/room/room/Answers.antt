use Rattle.std.proofs.Common.{ap, length, ◌∙◌, arith}
use Rattle.hr_ledger.proofs.Rooms.{room_most}
use Rattle.hr_ledger.proofs.room.room.Goals as goal

pub returns-clause-enough : goal.returns-clause-enough
returns-clause-enough c = room_most c.args.view.now (length c.opened.result.now) c.replica_room.result (ap length c.opened.ensures) c.replica_room.ensures.enough
