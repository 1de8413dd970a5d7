-- The replies of the rows.
use Rattle.std.specs.Prelude.{[], ◌∷◌}
use Rattle.hr_rel.specs.declared.answer.Answer.TheVariants.{Rows, Count}
use Rattle.hr_meaning.specs.Worked.{one}
use Rattle.hr_engine.specs.declared.reply.RunReply.TheVariants as run
use Rattle.hr_engine.specs.declared.reply.EndReply.TheVariants as end
use Rattle.hr_history.specs.declared.job.JobReply.{JobReply}
use Rattle.hr_history.specs.declared.job.JobReply.TheVariants as reply
use Rattle.hr_shepherd_tests.specs.declared.told.Told.{Told}
use Rattle.hr_shepherd_tests.specs.declared.told.Told.TheVariants as told

abbrev pub reply_of : Told → JobReply
reply_of told.Wrote = reply.Ran (run.Done (Count 1))
reply_of (told.Read n) = reply.Ran (run.Done (Rows (one n ∷ [])))
reply_of (told.Blocked t) = reply.Ran (run.Blocked (t ∷ []))
reply_of (told.Deadlock t u) = reply.Ran (run.Deadlock (t ∷ u ∷ []))
reply_of told.RunLost = reply.Ran run.Lost
reply_of told.NoMemory = reply.Ran run.NoMemory
reply_of told.Ended = reply.Ended end.Done
reply_of told.EndLost = reply.Ended end.Lost
reply_of told.StillLost = reply.StillLost
