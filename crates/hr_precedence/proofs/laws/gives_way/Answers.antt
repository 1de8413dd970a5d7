use Rattle.hr_precedence.proofs.GivesWayLemmas.{preempted}
use Rattle.hr_precedence.proofs.laws.gives_way.Goals as goal

pub returns-clause-runs : goal.returns-clause-runs
returns-clause-runs c f sessions caller r t before begun = (preempted f sessions caller r t before begun).runs

pub returns-clause-stays : goal.returns-clause-stays
returns-clause-stays c f sessions caller r t before begun ends = (preempted f sessions caller r t before begun).stays_on ends

pub returns-clause-secondary : goal.returns-clause-secondary
returns-clause-secondary c f sessions caller r t before begun lead = (preempted f sessions caller r t before begun).secondary lead

pub returns-clause-why : goal.returns-clause-why
returns-clause-why c f sessions caller r t before begun = (preempted f sessions caller r t before begun).why
