-- Two sessions close a cycle of waits at the primary, which tells of it; the second transaction is refused.
use Rattle.std.specs.Prelude.{List, [], ◌∷◌}
use Rattle.hr_rel.specs.declared.answer.Answer.TheVariants.{Count}
use Rattle.hr_history.specs.declared.entry.Entry.{Entry}
use Rattle.hr_history.specs.declared.entry.Event.TheVariants as event
use Rattle.hr_history.specs.declared.job.Job.TheVariants.{Run, Commit, Rollback}
use Rattle.hr_history.specs.declared.cause.CauseAt.TheVariants as cause
use Rattle.hr_history_worked.specs.Entries.{follows, begin, submit, ask_commit, take, done, blocked, deadlock, ended, increase}

abbrev pub deadlock_at_primary : List Entry
deadlock_at_primary =
    begin 1 1 ∷
    begin 2 2 ∷
    submit 1 1 1 (increase 1) ∷
    take 0 (Run 1 1) ∷
    done 0 (Count 1) ∷
    submit 2 2 1 (increase 2) ∷
    take 0 (Run 2 1) ∷
    done 0 (Count 1) ∷
    submit 1 1 2 (increase 2) ∷
    take 0 (Run 1 2) ∷
    blocked 0 (2 ∷ []) ∷
    submit 2 2 2 (increase 1) ∷
    take 0 (Run 2 2) ∷
    deadlock 0 (2 ∷ 1 ∷ []) ∷
    follows 1 (event.Refuse 2 (cause.Deadlock 13)) ∷
    take 0 (Rollback 2) ∷
    ended 0 ∷
    take 1 (Run 1 1) ∷
    done 1 (Count 1) ∷
    take 2 (Run 1 1) ∷
    done 2 (Count 1) ∷
    take 0 (Run 1 2) ∷
    done 0 (Count 1) ∷
    take 1 (Run 1 2) ∷
    done 1 (Count 1) ∷
    take 2 (Run 1 2) ∷
    done 2 (Count 1) ∷
    ask_commit 1 1 ∷
    follows 4 (event.Decide 1) ∷
    take 0 (Commit 1) ∷
    ended 0 ∷
    take 1 (Commit 1) ∷
    ended 1 ∷
    take 2 (Commit 1) ∷
    ended 2 ∷
    []
