use Rattle.std.proofs.Common.{◌≡◌, map, take}
use Rattle.hr_schedule.specs.Choices.{Each, Chooses}
use Rattle.hr_driver.specs.Made.{Made}
use Rattle.hr_driver.specs.Whole.{IsReady, StandOn}
use Rattle.hr_driver.proofs.driver.Driver.run.Given as goal

abbrev pub invariant-choices : goal.invariant-choices
invariant-choices g l = record {
  made : Made (Each (Chooses l.scenario) (take l.choice-index l.choices)) l.fn.self.shepherd l.self.shepherd;
  ready : IsReady l.scenario l.self;
  stands : StandOn g.B.Backend.stands l.fn.self.backends.items l.self.backends.items l.fn.self.shepherd l.self.shepherd;
  make : map g.B.Backend.make l.self.backends.items ≡ map g.B.Backend.make l.fn.self.backends.items;
}
