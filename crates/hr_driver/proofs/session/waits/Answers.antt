use Rattle.hr_driver.proofs.SessionLemmas.{waits_here}
use Rattle.hr_driver.proofs.session.waits.Goals as goal

pub returns : goal.returns
returns c =
    waits_here c.args.shepherd.now c.args.session c.args.txn c.requires.its c.history.ensures.faithful c.requires.active
    c.view.result.now c.view-2.result.now c.given.result c.statements.result c.view.ensures c.given.ensures c.view-2.ensures c.statements.ensures.value
