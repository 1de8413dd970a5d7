-- Two transactions close a cycle of waits at one secondary alone; one of them is preempted there, and both commit.
use Rattle.std.specs.Prelude.{List, [], ◌∷◌}
use Rattle.hr_rel.specs.declared.answer.Answer.TheVariants.{Count}
use Rattle.hr_history.specs.declared.entry.Entry.{Entry}
use Rattle.hr_history.specs.declared.entry.Event.TheVariants as event
use Rattle.hr_history.specs.declared.job.Job.TheVariants.{Run, Commit, Rollback}
use Rattle.hr_history_worked.specs.Entries.{follows, begin, submit, ask_commit, take, done, blocked, deadlock, ended, update}

abbrev pub deadlock_at_secondary : List Entry
deadlock_at_secondary =
    begin 1 1 ∷
    begin 2 2 ∷
    submit 1 1 1 (update 0 1 1) ∷
    take 0 (Run 1 1) ∷
    done 0 (Count 1) ∷
    submit 2 2 1 (update 1 2 1) ∷
    take 0 (Run 2 1) ∷
    done 0 (Count 1) ∷
    take 1 (Run 1 1) ∷
    done 1 (Count 1) ∷
    take 1 (Run 2 1) ∷
    done 1 (Count 1) ∷
    submit 1 1 2 (update 1 1 1) ∷
    take 0 (Run 1 2) ∷
    done 0 (Count 1) ∷
    submit 2 2 2 (update 0 2 1) ∷
    take 0 (Run 2 2) ∷
    done 0 (Count 1) ∷
    take 1 (Run 1 2) ∷
    blocked 1 (2 ∷ []) ∷
    take 1 (Run 2 2) ∷
    deadlock 1 (2 ∷ 1 ∷ []) ∷
    follows 2 (event.Preempt 1 2) ∷
    take 1 (Rollback 2) ∷
    ended 1 ∷
    take 1 (Run 1 2) ∷
    done 1 (Count 1) ∷
    take 1 (Run 2 1) ∷
    blocked 1 (1 ∷ []) ∷
    ask_commit 1 1 ∷
    follows 4 (event.Decide 1) ∷
    ask_commit 2 2 ∷
    take 0 (Commit 1) ∷
    ended 0 ∷
    take 1 (Commit 1) ∷
    ended 1 ∷
    take 1 (Run 2 1) ∷
    done 1 (Count 1) ∷
    take 1 (Run 2 2) ∷
    done 1 (Count 1) ∷
    follows 2 (event.Decide 2) ∷
    take 0 (Commit 2) ∷
    ended 0 ∷
    take 1 (Commit 2) ∷
    ended 1 ∷
    take 2 (Run 1 1) ∷
    done 2 (Count 1) ∷
    take 2 (Run 1 2) ∷
    done 2 (Count 1) ∷
    take 2 (Commit 1) ∷
    ended 2 ∷
    take 2 (Run 2 1) ∷
    done 2 (Count 1) ∷
    take 2 (Run 2 2) ∷
    done 2 (Count 1) ∷
    take 2 (Commit 2) ∷
    ended 2 ∷
    []
