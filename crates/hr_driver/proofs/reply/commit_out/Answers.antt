use Rattle.std.proofs.Common.{refl}
use Rattle.hr_engine.specs.Journal.{Committed}
use Rattle.hr_history.specs.declared.job.Job.TheVariants as job
use Rattle.hr_history.specs.declared.job.JobReply.TheVariants as reply
use Rattle.hr_driver.proofs.ReplyLemmas.{replied}
use Rattle.hr_driver.proofs.reply.commit_out.Goals as goal

pub returns-clause-replied : goal.returns-clause-replied
returns-clause-replied g c = replied _ _ _ _ _ (reply.Ended _) (job.Commit _) (Committed _ _) c.commit-reply.ensures.journal _ c.from.ensures c.give.ensures.turn c.requires.out refl
