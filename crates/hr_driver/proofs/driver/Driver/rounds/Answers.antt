use Rattle.std.proofs.Common.{◌∙◌}
use Rattle.hr_schedule.specs.Choices.{Round}
use Rattle.hr_driver.proofs.RoundLemmas.{times_more}
use Rattle.hr_driver.proofs.driver.Driver.rounds.Goals as goal

pub rounds-preserved : goal.rounds-preserved
rounds-preserved g c = record {
  made = times_more (Round c.args.scenario.now) c.rounds.done c.args.self.now.shepherd c.rounds.self.shepherd c.round.new.self.shepherd c.rounds.invariant.made c.in_ok-round.ensures.ok;
  ready = c.round.ensures.ready;
  stands = λ r start stood. c.round.ensures.stands r start (c.rounds.invariant.stands r start stood);
  make = c.round.ensures.make ∙ c.rounds.invariant.make;
}
