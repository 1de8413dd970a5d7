-- The primary answers wrongly, is contradicted and convicted; both sessions try again at the new one.
use Rattle.std.specs.Prelude.{List, [], ◌∷◌}
use Rattle.hr_rel.specs.declared.answer.Answer.TheVariants.{Rows}
use Rattle.hr_meaning.specs.Worked.{one, select_v}
use Rattle.hr_history.specs.declared.entry.Entry.{Entry}
use Rattle.hr_history.specs.declared.entry.Event.TheVariants as event
use Rattle.hr_history.specs.declared.job.Job.TheVariants.{Run, Commit, Rollback}
use Rattle.hr_history.specs.declared.cause.CauseAt.TheVariants as cause
use Rattle.hr_history.specs.declared.cause.Why.TheVariants as why
use Rattle.hr_history.specs.declared.evidence.Evidence.TheVariants as evidence
use Rattle.hr_history_worked.specs.Entries.{follows, begin, submit, ask_commit, take, done, ended}

abbrev pub lying_primary : List Entry
lying_primary =
    begin 1 1 ∷
    begin 2 2 ∷
    submit 1 1 1 (select_v 1) ∷
    submit 2 2 1 (select_v 1) ∷
    take 0 (Run 1 1) ∷
    done 0 (Rows (one 7 ∷ [])) ∷
    take 1 (Run 1 1) ∷
    done 1 (Rows (one 6 ∷ [])) ∷
    take 2 (Run 1 1) ∷
    done 2 (Rows (one 6 ∷ [])) ∷
    ask_commit 1 1 ∷
    follows 4 (event.Refuse 1 (cause.Differ 1 1 7)) ∷
    follows 4 (event.Convict 0 (evidence.Contradicted 1 1)) ∷
    follows 4 (event.Refuse 2 (cause.PrimaryChanged 0 why.Convicted 12)) ∷
    follows 4 (event.NewPrimary 1) ∷
    begin 2 3 ∷
    take 1 (Rollback 1) ∷
    ended 1 ∷
    take 2 (Rollback 1) ∷
    ended 2 ∷
    begin 1 4 ∷
    submit 2 3 1 (select_v 1) ∷
    take 1 (Run 3 1) ∷
    done 1 (Rows (one 6 ∷ [])) ∷
    take 2 (Run 3 1) ∷
    done 2 (Rows (one 6 ∷ [])) ∷
    submit 1 4 1 (select_v 1) ∷
    ask_commit 2 3 ∷
    follows 5 (event.Decide 3) ∷
    take 1 (Commit 3) ∷
    ended 1 ∷
    take 2 (Commit 3) ∷
    ended 2 ∷
    take 1 (Run 4 1) ∷
    done 1 (Rows (one 6 ∷ [])) ∷
    take 2 (Run 4 1) ∷
    done 2 (Rows (one 6 ∷ [])) ∷
    ask_commit 1 4 ∷
    follows 4 (event.Decide 4) ∷
    take 1 (Commit 4) ∷
    ended 1 ∷
    take 2 (Commit 4) ∷
    ended 2 ∷
    []
