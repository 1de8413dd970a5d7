-- How the primary goes, and who is the next.
use Rattle.std.specs.Prelude.{List, [], ◌∷◌}
use Rattle.hr_rel.specs.declared.answer.Answer.TheVariants.{Count}
use Rattle.hr_meaning.specs.Worked.{insert}
use Rattle.hr_history.specs.declared.entry.Entry.{Entry}
use Rattle.hr_history.specs.declared.entry.Event.TheVariants as event
use Rattle.hr_history.specs.declared.job.Job.TheVariants.{Run, Commit, Rollback, Restart}
use Rattle.hr_history.specs.declared.cause.CauseAt.TheVariants as cause
use Rattle.hr_history.specs.declared.cause.Why.TheVariants as why
use Rattle.hr_history_worked.specs.Entries.{follows, begin, submit, ask_commit, take, done, run_lost, ended, lost, still_lost, restarted, suspect}

-- the primary is suspected, and again the primary as the others are lost; what it tells of the refused transaction changes nothing
abbrev pub told_too_late : List Entry
told_too_late =
    begin 1 1 ∷
    submit 1 1 1 (insert 1 1) ∷
    take 0 (Run 1 1) ∷
    done 0 (Count 1) ∷
    take 1 (Run 1 1) ∷
    run_lost 1 ∷
    take 2 (Run 1 1) ∷
    run_lost 2 ∷
    submit 1 1 2 (insert 1 1) ∷
    take 0 (Run 1 2) ∷
    suspect ∷
    follows 0 (event.Refuse 1 (cause.PrimaryChanged 0 why.Suspected 10)) ∷
    follows 0 (event.NewPrimary 0) ∷
    done 0 (Count 2) ∷
    []

-- Two suspicions, the second without a primary: both open transactions are refused, and the candidate after the first one becomes primary once it has caught up. A third suspicion, and the search goes round to replica 0.
abbrev pub suspected_again : List Entry
suspected_again =
    begin 1 1 ∷
    begin 2 2 ∷
    begin 3 3 ∷
    submit 1 1 1 (insert 1 1) ∷
    take 0 (Run 1 1) ∷
    done 0 (Count 1) ∷
    take 1 (Run 1 1) ∷
    done 1 (Count 1) ∷
    take 2 (Run 1 1) ∷
    done 2 (Count 1) ∷
    ask_commit 1 1 ∷
    follows 4 (event.Decide 1) ∷
    suspect ∷
    follows 0 (event.Refuse 2 (cause.PrimaryChanged 0 why.Suspected 12)) ∷
    follows 0 (event.Refuse 3 (cause.PrimaryChanged 0 why.Suspected 12)) ∷
    suspect ∷
    take 1 (Commit 1) ∷
    ended 1 ∷
    take 2 (Commit 1) ∷
    ended 2 ∷
    follows 3 (event.NewPrimary 2) ∷
    suspect ∷
    take 0 (Commit 1) ∷
    ended 0 ∷
    follows 1 (event.NewPrimary 0) ∷
    []

-- the primary is lost in a run: both open transactions are refused, and the next replica is the primary; it takes two restarts
abbrev pub primary_lost_in_run : List Entry
primary_lost_in_run =
    begin 1 1 ∷
    begin 2 2 ∷
    submit 1 1 1 (insert 1 1) ∷
    take 0 (Run 1 1) ∷
    done 0 (Count 1) ∷
    take 1 (Run 1 1) ∷
    done 1 (Count 1) ∷
    submit 1 1 2 (insert 1 1) ∷
    take 0 (Run 1 2) ∷
    run_lost 0 ∷
    follows 1 (event.Refuse 1 (cause.PrimaryChanged 0 why.Lost 9)) ∷
    follows 1 (event.Refuse 2 (cause.PrimaryChanged 0 why.Lost 9)) ∷
    follows 1 (event.NewPrimary 1) ∷
    take 0 Restart ∷
    still_lost 0 ∷
    take 0 Restart ∷
    restarted 0 0 ∷
    take 1 (Rollback 1) ∷
    ended 1 ∷
    []

-- the primary is lost in a commit, and the next replica is the primary once it has committed too
abbrev pub primary_lost_in_commit : List Entry
primary_lost_in_commit =
    begin 1 1 ∷
    submit 1 1 1 (insert 1 1) ∷
    take 0 (Run 1 1) ∷
    done 0 (Count 1) ∷
    take 1 (Run 1 1) ∷
    done 1 (Count 1) ∷
    ask_commit 1 1 ∷
    follows 4 (event.Decide 1) ∷
    take 0 (Commit 1) ∷
    lost 0 ∷
    take 0 Restart ∷
    restarted 0 1 ∷
    take 1 (Commit 1) ∷
    ended 1 ∷
    follows 2 (event.NewPrimary 1) ∷
    []

-- the primary is suspected when the transaction has its answer; that stays the reply, and the session may begin again
abbrev pub refused_after_its_answer : List Entry
refused_after_its_answer =
    begin 1 1 ∷
    submit 1 1 1 (insert 1 1) ∷
    take 0 (Run 1 1) ∷
    done 0 (Count 1) ∷
    suspect ∷
    follows 0 (event.Refuse 1 (cause.PrimaryChanged 0 why.Suspected 4)) ∷
    follows 0 (event.NewPrimary 1) ∷
    begin 1 2 ∷
    []
