-- Whom a reply is given to.
use Rattle.std.specs.Prelude.{ℕ, Option, Some, None}
use Rattle.hr_base.specs.Lists.{when}
use Rattle.hr_engine.specs.declared.reply.RunReply.TheVariants as run
use Rattle.hr_history.specs.declared.job.Job.{Job}
use Rattle.hr_history.specs.declared.job.Job.TheVariants as job
use Rattle.hr_history.specs.declared.job.JobReply.{JobReply}
use Rattle.hr_history.specs.declared.job.JobReply.TheVariants as reply
use Rattle.hr_history.specs.View.{View}
use Rattle.hr_moves.specs.Moves.{is_given}

-- the transaction whose session is given the answer that a replica replies, if one is
abbrev pub given_by : View → ℕ → Option Job → JobReply → Option ℕ
given_by v r (Some (job.Run t i)) (reply.Ran (run.Done answer)) = when (is_given v r t i) t
given_by v r _ _ = None
