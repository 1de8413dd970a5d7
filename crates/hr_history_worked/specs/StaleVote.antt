-- The primary dropped a write. A replica that answered the reader before the writer was decided may not vote for its old
-- answer; once it has caught up, it contradicts the primary.
use Rattle.std.specs.Prelude.{List, [], ◌∷◌}
use Rattle.hr_rel.specs.declared.answer.Answer.TheVariants.{Rows, Count}
use Rattle.hr_meaning.specs.Worked.{one, select_v}
use Rattle.hr_history.specs.declared.entry.Entry.{Entry}
use Rattle.hr_history.specs.declared.entry.Event.TheVariants as event
use Rattle.hr_history.specs.declared.job.Job.TheVariants.{Run, Commit, Rollback}
use Rattle.hr_history.specs.declared.cause.CauseAt.TheVariants as cause
use Rattle.hr_history.specs.declared.evidence.Evidence.TheVariants as evidence
use Rattle.hr_history_worked.specs.Entries.{follows, begin, submit, ask_commit, take, done, blocked, ended, update}

abbrev pub stale_vote : List Entry
stale_vote =
    begin 1 1 ∷
    begin 2 2 ∷
    submit 2 2 1 (update 0 1 9) ∷
    take 0 (Run 2 1) ∷
    done 0 (Count 1) ∷
    take 2 (Run 2 1) ∷
    done 2 (Count 1) ∷
    submit 1 1 1 (select_v 1) ∷
    take 0 (Run 1 1) ∷
    done 0 (Rows (one 6 ∷ [])) ∷
    take 1 (Run 1 1) ∷
    done 1 (Rows (one 6 ∷ [])) ∷
    ask_commit 2 2 ∷
    follows 5 (event.Decide 2) ∷
    ask_commit 1 1 ∷
    take 1 (Run 2 1) ∷
    blocked 1 (1 ∷ []) ∷
    follows 2 (event.Preempt 1 1) ∷
    take 1 (Rollback 1) ∷
    ended 1 ∷
    take 1 (Run 2 1) ∷
    done 1 (Count 1) ∷
    take 1 (Commit 2) ∷
    ended 1 ∷
    take 1 (Run 1 1) ∷
    done 1 (Rows (one 9 ∷ [])) ∷
    take 2 (Commit 2) ∷
    ended 2 ∷
    take 2 (Run 1 1) ∷
    done 2 (Rows (one 9 ∷ [])) ∷
    follows 3 (event.Refuse 1 (cause.Differ 1 1 25)) ∷
    follows 3 (event.Convict 0 (evidence.Contradicted 1 1)) ∷
    follows 3 (event.NewPrimary 1) ∷
    []
