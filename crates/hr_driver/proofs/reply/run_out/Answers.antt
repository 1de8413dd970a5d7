use Rattle.std.proofs.Common.{refl, ap, ◌∙◌}
use Rattle.hr_engine.specs.Journal.{Ran}
use Rattle.hr_history.specs.declared.job.Job.TheVariants as job
use Rattle.hr_history.specs.declared.job.JobReply.TheVariants as reply
use Rattle.hr_history.specs.Faithful.{fits_job}
use Rattle.hr_driver.proofs.ReplyLemmas.{replied, fits_run}
use Rattle.hr_driver.proofs.reply.run_out.Goals as goal

pub give-requires-clause-fits : goal.give-requires-clause-fits
give-requires-clause-fits g c = ap (fits_job (reply.Ran _)) c.requires.out ∙ fits_run _ _ _ c.run_lent-reply.ensures.canonical

pub returns-clause-replied : goal.returns-clause-replied
returns-clause-replied g c = replied _ _ _ _ _ (reply.Ran _) (job.Run _ _) (Ran _ _ _) c.run_lent-reply.ensures.journal _ c.from.ensures c.give.ensures.turn c.requires.out refl
