use Rattle.hr_base.specs.Lists.{one_to}
use Rattle.hr_schedule.specs.Choices.{Each, OfSession}
use Rattle.hr_driver.specs.Made.{Made, AreSameJournals}
use Rattle.hr_driver.specs.Whole.{IsUnder}
use Rattle.hr_driver.proofs.round.each_session.Given as goal

abbrev pub invariant-sessions : goal.invariant-sessions
invariant-sessions l = record {
  made : Made (Each (OfSession l.scenario) (one_to l.place)) l.fn.shepherd l.shepherd;
  under : IsUnder l.scenario l.tries l.shepherd;
  journals : AreSameJournals l.fn.shepherd l.shepherd;
}
