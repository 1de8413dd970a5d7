-- A session inserts a row, reads it back and commits.
use Rattle.std.specs.Prelude.{List, [], ◌∷◌}
use Rattle.hr_rel.specs.declared.answer.Answer.TheVariants.{Rows, Count}
use Rattle.hr_meaning.specs.Worked.{one, insert, select_v}
use Rattle.hr_history.specs.declared.entry.Entry.{Entry}
use Rattle.hr_history.specs.declared.entry.Event.TheVariants as event
use Rattle.hr_history.specs.declared.job.Job.TheVariants.{Run, Commit}
use Rattle.hr_history_worked.specs.Entries.{follows, begin, submit, ask_commit, take, done, ended}

abbrev pub insert_and_select : List Entry
insert_and_select =
    begin 1 1 ∷
    submit 1 1 1 (insert 5 50) ∷
    take 0 (Run 1 1) ∷
    done 0 (Count 1) ∷
    take 1 (Run 1 1) ∷
    done 1 (Count 1) ∷
    take 2 (Run 1 1) ∷
    done 2 (Count 1) ∷
    submit 1 1 2 (select_v 5) ∷
    take 0 (Run 1 2) ∷
    done 0 (Rows (one 50 ∷ [])) ∷
    take 1 (Run 1 2) ∷
    done 1 (Rows (one 50 ∷ [])) ∷
    take 2 (Run 1 2) ∷
    done 2 (Rows (one 50 ∷ [])) ∷
    ask_commit 1 1 ∷
    follows 4 (event.Decide 1) ∷
    take 0 (Commit 1) ∷
    ended 0 ∷
    take 1 (Commit 1) ∷
    ended 1 ∷
    take 2 (Commit 1) ∷
    ended 2 ∷
    []
