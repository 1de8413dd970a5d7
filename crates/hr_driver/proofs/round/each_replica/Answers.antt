use Rattle.std.proofs.Common.{◌∙◌, arith}
use Rattle.hr_schedule.specs.Choices.{OfReplica}
use Rattle.hr_driver.proofs.RoundLemmas.{made_more}
use Rattle.hr_driver.proofs.round.each_replica.Goals as goal

pub replicas-preserved : goal.replicas-preserved
replicas-preserved g c = record {
  made = made_more (OfReplica c.args.scenario.now) 0 c.replicas.replica c.replicas.replica c.args.shepherd.now c.replicas.shepherd c.replica_at.new.shepherd (omega arith) c.replicas.invariant.made c.in_ok-replica_at.ensures.ok;
  stands = λ r start stood. c.replica_at.ensures.stands r start (c.replicas.invariant.stands r start stood);
  make = c.replica_at.ensures.make ∙ c.replicas.invariant.make;
  tries = λ r q. c.replica_at.ensures.tries r q ∙ c.replicas.invariant.tries r q;
}
