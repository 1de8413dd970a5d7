-- What the reply to a job makes of a replica's commits, and of what is touched there.
use Rattle.std.proofs.Common.{◌≡◌, ℕ, ◌+◌, ◌<◌, ◌≤◌, Bool, true, false, ◌&&◌, ◌==◌, if◌then◌else◌, Ok, Err, length, refl, sym, ◌∙◌, arith, IsTrue}
use Rattle.std.proofs.lemmas.Bool.{and_parts}
use Rattle.hr_base.specs.Counters.{shown}
use Rattle.hr_engine.specs.Journal.{Call, Ran, Committed, RolledBack, Restarted}
use Rattle.hr_engine.specs.Effects.{effect_of, settling_of}
use Rattle.hr_engine.specs.declared.reply.RunReply.TheVariants as run
use Rattle.hr_engine.specs.declared.reply.EndReply.TheVariants as end
use Rattle.hr_history.specs.declared.job.Job.{Job}
use Rattle.hr_history.specs.declared.job.Job.TheVariants as job
use Rattle.hr_history.specs.Attempts.{next_touched}
use Rattle.hr_history.specs.View.{View}
use Rattle.hr_history.specs.Step.{Commits, next_commits, commits_in}
use Rattle.hr_records.proofs.Places.{got_within}
use Rattle.hr_moves.specs.Sane.{MayBeOut}
use Rattle.hr_sane.proofs.Lists.{on_true, on_false}
use Rattle.hr_sane.proofs.Next.{true_false}
use Rattle.hr_sane.proofs.CallsOut.{IsCallOf}

-- The commits begin a log of n, and one in doubt is the next.
pub record CommitsFit (s : Commits) (n : ℕ) : Type 0 where
  pub position : s.position ≤ n
  pub doubt : IsTrue s.doubt → IsTrue s.lost × (s.position < n)

module _ (v : View) (r : ℕ) (fit : CommitsFit (commits_in v r) (length v.log)) where
  abbrev s : Commits
  s = commits_in v r

  abbrev n : ℕ
  n = length v.log

  loss_elsewhere : s.lost ≡ false → CommitsFit record { lost = true; position = s.position; doubt = if s.lost then s.doubt else false } n
  loss_elsewhere live = record { position = fit.position; doubt = λ d. absurd (true_false d (on_false s.lost s.doubt false live)) }

  restarted_at : (b : Bool) (told : ℕ) → (s.doubt && (told == shown (s.position + 1))) ≡ b → (if b then s.position + 1 else s.position) ≤ n
  restarted_at true told e = omega (arith, (fit.doubt (and_parts s.doubt (told == shown (s.position + 1)) e).0).1)
  restarted_at false told e = fit.position

  pub commits_fit : (j : Job) (c : Call) → IsCallOf j c → MayBeOut v r j → CommitsFit (next_commits (settling_of c) s) n
  commits_fit (job.Run t i) (Ran u stmt (run.Done answer)) its may = fit
  commits_fit (job.Run t i) (Ran u stmt (run.Blocked named)) its may = fit
  commits_fit (job.Run t i) (Ran u stmt (run.Deadlock cycle)) its may = fit
  commits_fit (job.Run t i) (Ran u stmt run.Lost) its may = loss_elsewhere may.0
  commits_fit (job.Run t i) (Ran u stmt run.NoMemory) its may = fit
  commits_fit (job.Commit t) (Committed u end.Done) its may =
      record { position = omega (arith, got_within v.log s.position t may.1); doubt = λ d. absurd (true_false (fit.doubt d).0 may.0) }
  commits_fit (job.Commit t) (Committed u end.Lost) its may = record { position = fit.position; doubt = λ d. (refl, got_within v.log s.position t may.1) }
  commits_fit (job.Rollback t) (RolledBack u end.Done) its may = fit
  commits_fit (job.Rollback t) (RolledBack u end.Lost) its may = loss_elsewhere may.0
  commits_fit job.Restart (Restarted (Ok told)) its may = record { position = restarted_at (s.doubt && (told == shown (s.position + 1))) told refl; doubt = λ d. absurd (true_false d refl) }
  commits_fit job.Restart (Restarted (Err lost)) its may = record { position = fit.position; doubt = λ d. (refl, (fit.doubt (sym (on_true s.lost s.doubt false may) ∙ d)).1) }
  commits_fit _ _ its may = absurd its

-- where a replica is lost after a reply, nothing is touched there
pub stopped_by : (v : View) (r t : ℕ) (was : Bool) (j : Job) (c : Call) → IsCallOf j c → MayBeOut v r j → IsTrue (next_commits (settling_of c) (commits_in v r)).lost → next_touched t (effect_of c) was ≡ false
stopped_by v r t was (job.Run x i) (Ran u stmt (run.Done answer)) its may h = absurd (true_false h may.0)
stopped_by v r t was (job.Run x i) (Ran u stmt (run.Blocked named)) its may h = absurd (true_false h may.0)
stopped_by v r t was (job.Run x i) (Ran u stmt (run.Deadlock cycle)) its may h = absurd (true_false h may.0)
stopped_by v r t was (job.Run x i) (Ran u stmt run.Lost) its may h = refl
stopped_by v r t was (job.Run x i) (Ran u stmt run.NoMemory) its may h = absurd (true_false h may.0)
stopped_by v r t was (job.Commit x) (Committed u end.Done) its may h = absurd (true_false h may.0)
stopped_by v r t was (job.Commit x) (Committed u end.Lost) its may h = refl
stopped_by v r t was (job.Rollback x) (RolledBack u end.Done) its may h = absurd (true_false h may.0)
stopped_by v r t was (job.Rollback x) (RolledBack u end.Lost) its may h = refl
stopped_by v r t was job.Restart (Restarted told) its may h = refl
stopped_by v r t was _ _ its may h = absurd its
