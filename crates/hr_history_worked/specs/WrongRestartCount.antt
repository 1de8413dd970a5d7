-- A replica is lost in its commit, and its restart tells a count that can't be.
use Rattle.std.specs.Prelude.{List, [], ◌∷◌}
use Rattle.hr_rel.specs.declared.answer.Answer.TheVariants.{Count}
use Rattle.hr_meaning.specs.Worked.{insert}
use Rattle.hr_history.specs.declared.entry.Entry.{Entry}
use Rattle.hr_history.specs.declared.entry.Event.TheVariants as event
use Rattle.hr_history.specs.declared.job.Job.TheVariants.{Run, Commit, Restart}
use Rattle.hr_history.specs.declared.evidence.Evidence.TheVariants as evidence
use Rattle.hr_history_worked.specs.Entries.{follows, begin, submit, ask_commit, take, done, ended, lost, restarted}

abbrev pub wrong_restart_count : List Entry
wrong_restart_count =
    begin 1 1 ∷
    submit 1 1 1 (insert 1 1) ∷
    take 0 (Run 1 1) ∷
    done 0 (Count 1) ∷
    take 1 (Run 1 1) ∷
    done 1 (Count 1) ∷
    take 2 (Run 1 1) ∷
    done 2 (Count 1) ∷
    ask_commit 1 1 ∷
    follows 4 (event.Decide 1) ∷
    take 0 (Commit 1) ∷
    ended 0 ∷
    take 1 (Commit 1) ∷
    ended 1 ∷
    take 2 (Commit 1) ∷
    lost 2 ∷
    take 2 Restart ∷
    restarted 2 5 ∷
    follows 3 (event.Convict 2 (evidence.BadRestart 5)) ∷
    []
