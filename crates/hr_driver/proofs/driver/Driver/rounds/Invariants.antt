use Rattle.std.proofs.Common.{◌≡◌, map}
use Rattle.hr_schedule.specs.Choices.{Times, Round}
use Rattle.hr_driver.specs.Made.{Made}
use Rattle.hr_driver.specs.Whole.{IsReady, StandOn}
use Rattle.hr_driver.proofs.driver.Driver.rounds.Given as goal

abbrev pub invariant-rounds : goal.invariant-rounds
invariant-rounds g l = record {
  made : Made (Times (Round l.scenario) l.done) l.fn.self.shepherd l.self.shepherd;
  ready : IsReady l.scenario l.self;
  stands : StandOn g.B.Backend.stands l.fn.self.backends.items l.self.backends.items l.fn.self.shepherd l.self.shepherd;
  make : map g.B.Backend.make l.self.backends.items ≡ map g.B.Backend.make l.fn.self.backends.items;
}
