-- Want of memory, and what a restart may tell.
use Rattle.std.specs.Prelude.{List, [], ◌∷◌}
use Rattle.hr_rel.specs.declared.answer.Answer.TheVariants.{Count}
use Rattle.hr_meaning.specs.Worked.{insert}
use Rattle.hr_history.specs.declared.entry.Entry.{Entry}
use Rattle.hr_history.specs.declared.entry.Event.TheVariants as event
use Rattle.hr_history.specs.declared.job.Job.TheVariants.{Run, Commit, Restart}
use Rattle.hr_history.specs.declared.cause.CauseAt.TheVariants as cause
use Rattle.hr_history.specs.declared.evidence.Evidence.TheVariants as evidence
use Rattle.hr_history_worked.specs.Entries.{follows, begin, submit, ask_commit, take, done, run_lost, no_memory, ended, restarted}

-- the primary has no memory for a statement, and its transaction is refused; at a secondary the statement is given out again
abbrev pub memory_wanting : List Entry
memory_wanting =
    begin 1 1 ∷
    submit 1 1 1 (insert 1 1) ∷
    take 0 (Run 1 1) ∷
    no_memory 0 ∷
    follows 1 (event.Refuse 1 (cause.PrimaryMemory 3)) ∷
    begin 1 2 ∷
    submit 1 2 1 (insert 1 1) ∷
    take 0 (Run 2 1) ∷
    done 0 (Count 1) ∷
    take 1 (Run 2 1) ∷
    no_memory 1 ∷
    take 1 (Run 2 1) ∷
    done 1 (Count 1) ∷
    ask_commit 1 2 ∷
    follows 4 (event.Decide 2) ∷
    []

-- a replica lost in a run, no commit in doubt, tells of a commit that it never made
abbrev pub restart_tells_one_more : List Entry
restart_tells_one_more =
    begin 1 1 ∷
    submit 1 1 1 (insert 1 1) ∷
    take 0 (Run 1 1) ∷
    done 0 (Count 1) ∷
    take 1 (Run 1 1) ∷
    run_lost 1 ∷
    take 1 Restart ∷
    restarted 1 1 ∷
    follows 2 (event.Convict 1 (evidence.BadRestart 1)) ∷
    []

-- a replica that has forgotten the commit that it made
abbrev pub restart_tells_one_less : List Entry
restart_tells_one_less =
    begin 1 1 ∷
    submit 1 1 1 (insert 1 1) ∷
    take 0 (Run 1 1) ∷
    done 0 (Count 1) ∷
    take 1 (Run 1 1) ∷
    done 1 (Count 1) ∷
    ask_commit 1 1 ∷
    follows 4 (event.Decide 1) ∷
    take 1 (Commit 1) ∷
    ended 1 ∷
    take 0 (Commit 1) ∷
    ended 0 ∷
    begin 1 2 ∷
    submit 1 2 1 (insert 1 1) ∷
    take 0 (Run 2 1) ∷
    done 0 (Count 1) ∷
    take 1 (Run 2 1) ∷
    run_lost 1 ∷
    take 1 Restart ∷
    restarted 1 0 ∷
    follows 2 (event.Convict 1 (evidence.BadRestart 0)) ∷
    []
