use Rattle.hr_driver.proofs.SessionLemmas.{statements_here}
use Rattle.hr_driver.proofs.session.statements.Goals as goal

pub returns : goal.returns
returns c = statements_here c.args.shepherd.now c.args._session c.args.txn c.requires.its c.view.result.now c.statements.result c.view.ensures c.statements.ensures.value
