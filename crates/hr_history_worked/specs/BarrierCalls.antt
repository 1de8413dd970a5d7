-- A reader's answer was given after a commit; at a replica that hasn't processed that commit its statement has to wait.
use Rattle.std.specs.Prelude.{List, [], ◌∷◌}
use Rattle.hr_rel.specs.declared.answer.Answer.TheVariants.{Rows, Count}
use Rattle.hr_meaning.specs.Worked.{one, select_v}
use Rattle.hr_history.specs.declared.entry.Entry.{Entry}
use Rattle.hr_history.specs.declared.entry.Event.TheVariants as event
use Rattle.hr_history.specs.declared.job.Job.TheVariants.{Run, Commit}
use Rattle.hr_history_worked.specs.Entries.{follows, begin, submit, ask_commit, take, done, ended, update}

abbrev pub barrier_calls : List Entry
barrier_calls =
    begin 1 1 ∷
    begin 2 2 ∷
    submit 1 1 1 (update 0 1 9) ∷
    take 0 (Run 1 1) ∷
    done 0 (Count 1) ∷
    take 1 (Run 1 1) ∷
    done 1 (Count 1) ∷
    ask_commit 1 1 ∷
    follows 4 (event.Decide 1) ∷
    submit 2 2 1 (select_v 1) ∷
    take 0 (Commit 1) ∷
    ended 0 ∷
    take 0 (Run 2 1) ∷
    done 0 (Rows (one 9 ∷ [])) ∷
    take 2 (Run 1 1) ∷
    done 2 (Count 1) ∷
    take 2 (Commit 1) ∷
    ended 2 ∷
    take 2 (Run 2 1) ∷
    []
