-- Histories of one replica and of five; all others are of three.
use Rattle.std.specs.Prelude.{List, [], ◌∷◌}
use Rattle.hr_rel.specs.declared.answer.Answer.TheVariants.{Count}
use Rattle.hr_meaning.specs.Worked.{insert}
use Rattle.hr_history.specs.declared.entry.Entry.{Entry}
use Rattle.hr_history.specs.declared.entry.Event.TheVariants as event
use Rattle.hr_history.specs.declared.job.Job.TheVariants.{Run, Commit}
use Rattle.hr_history.specs.declared.cause.CauseAt.TheVariants as cause
use Rattle.hr_history.specs.declared.cause.Why.TheVariants as why
use Rattle.hr_history.specs.declared.evidence.Evidence.TheVariants as evidence
use Rattle.hr_history_worked.specs.Entries.{by, follows, take, done, ended, suspect}

-- the one replica decides, and is suspected; it is the candidate itself, and the primary once it has committed
abbrev pub one_replica : List Entry
one_replica =
    by 2 (event.Begin 1 1) ∷
    by 3 (event.Begin 2 2) ∷
    by 2 (event.Submit 1 1 (insert 1 1)) ∷
    take 0 (Run 1 1) ∷
    done 0 (Count 1) ∷
    by 2 (event.AskCommit 1) ∷
    follows 2 (event.Decide 1) ∷
    suspect ∷
    follows 0 (event.Refuse 2 (cause.PrimaryChanged 0 why.Suspected 7)) ∷
    take 0 (Commit 1) ∷
    ended 0 ∷
    follows 1 (event.NewPrimary 0) ∷
    []

-- of five replicas it takes three to decide; two that agree on something else contradict nobody, and are convicted, the
-- lowest first, once it is decided
abbrev pub five_replicas : List Entry
five_replicas =
    by 6 (event.Begin 1 1) ∷
    by 6 (event.Submit 1 1 (insert 1 1)) ∷
    take 0 (Run 1 1) ∷
    done 0 (Count 1) ∷
    take 3 (Run 1 1) ∷
    done 3 (Count 2) ∷
    take 4 (Run 1 1) ∷
    done 4 (Count 2) ∷
    take 1 (Run 1 1) ∷
    done 1 (Count 1) ∷
    by 6 (event.AskCommit 1) ∷
    take 2 (Run 1 1) ∷
    done 2 (Count 1) ∷
    follows 3 (event.Decide 1) ∷
    follows 3 (event.Convict 3 (evidence.Differs 1 1)) ∷
    follows 3 (event.Convict 4 (evidence.Differs 1 1)) ∷
    []
