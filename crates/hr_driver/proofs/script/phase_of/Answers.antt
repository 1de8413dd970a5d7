use Rattle.hr_driver.proofs.SessionLemmas.{phase_here}
use Rattle.hr_driver.proofs.script.phase_of.Goals as goal

pub returns : goal.returns
returns c = phase_here c.args.shepherd.now c.args._session c.args.txn c.requires c.view.result.now c.phase.result c.view.ensures c.phase.ensures
