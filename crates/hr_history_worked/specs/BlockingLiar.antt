-- The primary tells a transaction to wait for nobody, and is convicted.
use Rattle.std.specs.Prelude.{List, [], ◌∷◌}
use Rattle.hr_rel.specs.declared.answer.Answer.TheVariants.{Count}
use Rattle.hr_meaning.specs.Worked.{insert}
use Rattle.hr_history.specs.declared.entry.Entry.{Entry}
use Rattle.hr_history.specs.declared.entry.Event.TheVariants as event
use Rattle.hr_history.specs.declared.job.Job.TheVariants.{Run, Commit}
use Rattle.hr_history.specs.declared.cause.CauseAt.TheVariants as cause
use Rattle.hr_history.specs.declared.cause.Why.TheVariants as why
use Rattle.hr_history.specs.declared.evidence.Evidence.TheVariants as evidence
use Rattle.hr_history_worked.specs.Entries.{follows, begin, submit, ask_commit, take, done, blocked, ended}

abbrev pub blocking_liar : List Entry
blocking_liar =
    begin 1 1 ∷
    submit 1 1 1 (insert 1 1) ∷
    take 0 (Run 1 1) ∷
    blocked 0 [] ∷
    follows 1 (event.Convict 0 (evidence.BadBlocked 1)) ∷
    follows 1 (event.Refuse 1 (cause.PrimaryChanged 0 why.Convicted 4)) ∷
    follows 1 (event.NewPrimary 1) ∷
    begin 1 2 ∷
    submit 1 2 1 (insert 1 1) ∷
    take 1 (Run 2 1) ∷
    done 1 (Count 1) ∷
    take 2 (Run 2 1) ∷
    done 2 (Count 1) ∷
    ask_commit 1 2 ∷
    follows 4 (event.Decide 2) ∷
    take 1 (Commit 2) ∷
    ended 1 ∷
    take 2 (Commit 2) ∷
    ended 2 ∷
    []
