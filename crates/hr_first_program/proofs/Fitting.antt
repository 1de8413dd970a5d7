-- What a backend replies to a run fits the job.
use Rattle.std.proofs.Common.{ℕ, Some, IsTrue, refl}
use Rattle.hr_engine.specs.Backend.{AnswersCanonically}
use Rattle.hr_engine.specs.declared.reply.RunReply.{RunReply}
use Rattle.hr_engine.specs.declared.reply.RunReply.TheVariants as run
use Rattle.hr_history.specs.declared.job.Job.TheVariants as job
use Rattle.hr_history.specs.declared.job.JobReply.TheVariants as reply
use Rattle.hr_history.specs.Faithful.{fits_job}
use Rattle.hr_history.proofs.CanonicalLemmas.{canonical_exact}

pub fits_run : (told : RunReply) (t i : ℕ) → AnswersCanonically told → IsTrue (fits_job (reply.Ran told) (Some (job.Run t i)))
fits_run (run.Done answer) t i canonical = (canonical_exact answer).1 canonical
fits_run (run.Blocked named) t i canonical = refl
fits_run (run.Deadlock cycle) t i canonical = refl
fits_run run.Lost t i canonical = refl
fits_run run.NoMemory t i canonical = refl
