use Rattle.std.proofs.Math.Seq.{map-set_same}
use Rattle.hr_driver.proofs.round.give_at.Goals as goal

pub returns-clause-make : goal.returns-clause-make
returns-clause-make g c =
    map-set_same g.B.Backend.make c.args.backends.now c.args.replica c.give_reply.new.backend c.index-backends-replica.result
    c.give_reply.ensures.make
