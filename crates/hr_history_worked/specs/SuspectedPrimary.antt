-- The primary is suspected: what is open is refused, and the next replica becomes primary once it has caught up.
use Rattle.std.specs.Prelude.{List, [], ◌∷◌}
use Rattle.hr_rel.specs.declared.answer.Answer.TheVariants.{Count}
use Rattle.hr_meaning.specs.Worked.{insert, select_v}
use Rattle.hr_history.specs.declared.entry.Entry.{Entry}
use Rattle.hr_history.specs.declared.entry.Event.TheVariants as event
use Rattle.hr_history.specs.declared.job.Job.TheVariants.{Run, Commit}
use Rattle.hr_history.specs.declared.cause.CauseAt.TheVariants as cause
use Rattle.hr_history.specs.declared.cause.Why.TheVariants as why
use Rattle.hr_history_worked.specs.Entries.{follows, begin, submit, ask_commit, take, done, ended, suspect}

abbrev pub suspected_primary : List Entry
suspected_primary =
    begin 1 1 ∷
    begin 2 2 ∷
    submit 1 1 1 (insert 1 1) ∷
    submit 2 2 1 (select_v 9) ∷
    take 0 (Run 1 1) ∷
    done 0 (Count 1) ∷
    take 1 (Run 1 1) ∷
    done 1 (Count 1) ∷
    take 2 (Run 1 1) ∷
    done 2 (Count 1) ∷
    ask_commit 1 1 ∷
    follows 4 (event.Decide 1) ∷
    suspect ∷
    follows 0 (event.Refuse 2 (cause.PrimaryChanged 0 why.Suspected 12)) ∷
    take 0 (Commit 1) ∷
    ended 0 ∷
    take 1 (Commit 1) ∷
    ended 1 ∷
    follows 2 (event.NewPrimary 1) ∷
    take 2 (Commit 1) ∷
    ended 2 ∷
    []
