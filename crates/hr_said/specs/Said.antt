-- What lines have said: nothing at first, and at last a scenario.
use Rattle.std.specs.Prelude.{◌==◌, Bool, false, if◌then◌else◌, List, [], Option, Some, None}
use Rattle.hr_said.specs.declared.scenario.Scenario.{Scenario}
use Rattle.hr_said.specs.declared.scenario.Choice.{Choice}
use Rattle.hr_said.specs.declared.said.Said.{Said}
use Rattle.hr_said.specs.declared.said.Session.{Session}
use Rattle.hr_said.specs.declared.said.Inside.TheVariants as inside

-- a session of which no line was read
abbrev pub no_blocks : Session
no_blocks = record { blocks = []; stmts = []; texts = []; is_begun = false }

-- before the first line
abbrev pub nothing : Said
nothing = record {
  part = 0;
  inside = inside.Outside;
  f = 0;
  kinds = [];
  retries = 0;
  catalog = record { tables = [] };
  rows = [];
  row_count = 0;
  faults = [];
  fault_count = 0;
  suspects = [];
  scripts = [];
  session = no_blocks;
  statements = 0;
  choices = [];
  choice_count = 0;
}

abbrev pub schedule : Bool → List Choice → Option (List Choice)
schedule is_there choices = if is_there then Some choices else None

-- the scenario that all lines have said; there is a schedule where its part has begun
abbrev pub scenario : Said → Scenario
scenario said = record {
  f = said.f;
  kinds = said.kinds;
  retries = said.retries;
  catalog = said.catalog;
  rows = said.rows;
  faults = said.faults;
  suspects = said.suspects;
  scripts = said.scripts;
  schedule = schedule (said.part == 8) said.choices;
}
