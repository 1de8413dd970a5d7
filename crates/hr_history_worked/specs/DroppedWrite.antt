-- A secondary drops a write, as its answer to the next statement shows; it is convicted when it would have to commit.
use Rattle.std.specs.Prelude.{List, [], ◌∷◌}
use Rattle.hr_rel.specs.declared.answer.Answer.TheVariants.{Rows, Count}
use Rattle.hr_meaning.specs.Worked.{one, select_v}
use Rattle.hr_history.specs.declared.entry.Entry.{Entry}
use Rattle.hr_history.specs.declared.entry.Event.TheVariants as event
use Rattle.hr_history.specs.declared.job.Job.TheVariants.{Run, Commit}
use Rattle.hr_history.specs.declared.evidence.Evidence.TheVariants as evidence
use Rattle.hr_history_worked.specs.Entries.{follows, begin, submit, ask_commit, take, done, ended, update}

abbrev pub dropped_write : List Entry
dropped_write =
    begin 1 1 ∷
    submit 1 1 1 (update 0 1 7) ∷
    take 0 (Run 1 1) ∷
    done 0 (Count 1) ∷
    take 1 (Run 1 1) ∷
    done 1 (Count 1) ∷
    take 2 (Run 1 1) ∷
    done 2 (Count 1) ∷
    submit 1 1 2 (select_v 1) ∷
    take 0 (Run 1 2) ∷
    done 0 (Rows (one 7 ∷ [])) ∷
    take 1 (Run 1 2) ∷
    done 1 (Rows (one 7 ∷ [])) ∷
    take 2 (Run 1 2) ∷
    done 2 (Rows (one 6 ∷ [])) ∷
    ask_commit 1 1 ∷
    follows 4 (event.Decide 1) ∷
    follows 4 (event.Convict 2 (evidence.Differs 1 2)) ∷
    take 0 (Commit 1) ∷
    ended 0 ∷
    take 1 (Commit 1) ∷
    ended 1 ∷
    []
