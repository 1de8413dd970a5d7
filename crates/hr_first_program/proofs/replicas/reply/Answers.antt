use Rattle.std.proofs.Common.{Option, Some, IsTrue, ap, sym, ◌∙◌, subst}
use Rattle.hr_history.specs.declared.job.Job.{Job}
use Rattle.hr_history.specs.declared.job.JobReply.TheVariants as reply
use Rattle.hr_history.specs.Faithful.{fits_job}
use Rattle.hr_first_program.proofs.Fitting.{fits_run}
use Rattle.hr_first_program.proofs.replicas.reply.Goals as goal

pub give-requires-clause-fits : goal.give-requires-clause-fits
give-requires-clause-fits g c =
    let out = sym c.job_out.ensures ∙ c.in-Some-Run.is ∙ ap Some c.in-Some-Run.field-0-is in
    subst (λ (o : Option Job). IsTrue (fits_job (reply.Ran c.run-told.result) o)) (sym out) (fits_run c.run-told.result c.in-Some-Run.txn c.in-Some-Run.field-0-1 c.run-told.ensures.canonical)
