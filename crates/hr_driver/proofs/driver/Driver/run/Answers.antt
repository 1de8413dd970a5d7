use Rattle.std.proofs.Common.{◌∙◌}
use Rattle.std.proofs.lemmas.Option.{slice_get-get_or}
use Rattle.hr_schedule.specs.Choices.{Chooses}
use Rattle.hr_driver.proofs.RoundLemmas.{made_next}
use Rattle.hr_driver.proofs.driver.Driver.run.Goals as goal

pub choices-preserved : goal.choices-preserved
choices-preserved g c = record {
  made = made_next (Chooses c.args.scenario.now) c.args.choices.now c.choices.choice-index _ c.args.self.now.shepherd c.choices.self.shepherd c.choose.new.self.shepherd (slice_get-get_or c.args.choices.now c.choices.choice-index _ c.choices-test.true) c.choices.invariant.made c.in_ok-choose.ensures.ok;
  ready = c.choose.ensures.ready;
  stands = λ r start stood. c.choose.ensures.stands r start (c.choices.invariant.stands r start stood);
  make = c.choose.ensures.make ∙ c.choices.invariant.make;
}
