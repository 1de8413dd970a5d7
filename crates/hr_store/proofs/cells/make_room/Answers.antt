use Rattle.std.proofs.Common.{rules}
use Rattle.hr_store.proofs.CellLaws.{some_stays, room_same}
use Rattle.hr_store.proofs.cells.make_room.Goals as goal

pub returns-clause-stays : goal.returns-clause-stays
returns-clause-stays c = λ q there. some_stays _ _ _ _ (c.in_ok-insert.ensures.updates.0 q) there

pub returns-clause-same : goal.returns-clause-same
returns-clause-same c = λ q. room_same c.insert.new.self c.args.cells.now c.args.place q (c.in_ok-insert.ensures.updates.0 q) (search rules)
