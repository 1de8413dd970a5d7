use Rattle.std.proofs.Common.{◌≡◌, map}
use Rattle.std.specs.List.{range_with_len}
use Rattle.hr_schedule.specs.Choices.{Each, OfReplica}
use Rattle.hr_driver.specs.Made.{Made, AreSameTries}
use Rattle.hr_driver.specs.Whole.{StandOn}
use Rattle.hr_driver.proofs.round.each_replica.Given as goal

abbrev pub invariant-replicas : goal.invariant-replicas
invariant-replicas g l = record {
  made : Made (Each (OfReplica l.scenario) (range_with_len 0 l.replica)) l.fn.shepherd l.shepherd;
  stands : StandOn g.B.Backend.stands l.fn.backends l.backends l.fn.shepherd l.shepherd;
  make : map g.B.Backend.make l.backends ≡ map g.B.Backend.make l.fn.backends;
  tries : AreSameTries l.fn.shepherd l.shepherd;
}
