use Rattle.hr_runnable.proofs.ReadLemmas.{every_scenario_runs}
use Rattle.hr_runnable.proofs.laws.runnable.Goals as goal

pub returns : goal.returns
returns c = every_scenario_runs
