use Rattle.hr_driver.proofs.ReplyLemmas.{restarted, still_lost}
use Rattle.hr_driver.proofs.reply.restart_out.Goals as goal

pub returns-in-Ok-clause-replied : goal.returns-in-Ok-clause-replied
returns-in-Ok-clause-replied g c = restarted _ _ _ _ _ _ _ c.restart.ensures.journal c.in-Ok.is _ c.from.ensures c.restarted.ensures.turn c.requires.out

pub returns-in-Err-clause-replied : goal.returns-in-Err-clause-replied
returns-in-Err-clause-replied g c = still_lost _ _ _ _ _ _ _ c.restart.ensures.journal c.in-Err.is _ c.from-in-Err.ensures c.give.ensures.turn c.requires.out
