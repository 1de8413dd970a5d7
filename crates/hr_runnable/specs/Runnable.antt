-- When a scenario can be run.
use Rattle.std.specs.Prelude.{◌≡◌, ◌≤◌, ◌+◌, ◌*◌, true, length}
use Rattle.std.specs.List.{list_all}
use Rattle.hr_base.specs.declared.limits.TheConstants.{MAX_F, MAX_SESSIONS}
use Rattle.hr_rel.specs.Holds.{IsSound, holds}
use Rattle.hr_faulty.specs.Script.{names_calls}
use Rattle.hr_said.specs.declared.scenario.Scenario.{Scenario}
use Rattle.hr_schedule.specs.Choices.{choices}
use Rattle.hr_driver.specs.Whole.{AreThere}

-- No more replicas may lie, and there are no more sessions, than may be; there is an engine and a script for each replica,
-- and each script names calls that a counter tells apart; the first rows hold in a sound catalog; and each choice of the
-- schedule is of a session or a replica that is there.
pub record IsRunnable (sc : Scenario) : Type 0 where
  pub wrong : sc.f ≤ MAX_F
  pub few : length sc.scripts ≤ MAX_SESSIONS
  pub kinds : length sc.kinds ≡ 2 * sc.f + 1
  pub faults : length sc.faults ≡ 2 * sc.f + 1
  pub named : list_all (λ script. names_calls script) sc.faults ≡ true
  pub sound : IsSound sc.catalog
  pub holds : holds sc.catalog sc.rows ≡ true
  pub there : AreThere sc (choices sc)
