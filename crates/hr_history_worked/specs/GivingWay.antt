-- Who is rolled back at a replica, and who isn't.
use Rattle.std.specs.Prelude.{List, [], ◌∷◌}
use Rattle.hr_rel.specs.declared.answer.Answer.TheVariants.{Count}
use Rattle.hr_meaning.specs.Worked.{insert}
use Rattle.hr_history.specs.declared.entry.Entry.{Entry}
use Rattle.hr_history.specs.declared.entry.Event.TheVariants as event
use Rattle.hr_history.specs.declared.job.Job.TheVariants.{Run, Commit, Rollback}
use Rattle.hr_history.specs.declared.cause.CauseAt.TheVariants as cause
use Rattle.hr_history.specs.declared.cause.Why.TheVariants as why
use Rattle.hr_history.specs.declared.evidence.Evidence.TheVariants as evidence
use Rattle.hr_history_worked.specs.Entries.{follows, begin, submit, ask_commit, ask_rollback, take, done, blocked, deadlock, ended}

-- Sessions 3 and 1 roll back. A replica rolls back before it commits, the lowest first; replica 2, where nothing was answered, has nothing to do. The session may begin again.
abbrev pub rolled_back : List Entry
rolled_back =
    begin 1 1 ∷
    begin 2 2 ∷
    begin 3 3 ∷
    submit 1 1 1 (insert 1 1) ∷
    take 0 (Run 1 1) ∷
    done 0 (Count 1) ∷
    take 1 (Run 1 1) ∷
    done 1 (Count 1) ∷
    submit 2 2 1 (insert 1 1) ∷
    take 0 (Run 2 1) ∷
    done 0 (Count 1) ∷
    take 1 (Run 2 1) ∷
    done 1 (Count 1) ∷
    submit 3 3 1 (insert 1 1) ∷
    take 0 (Run 3 1) ∷
    done 0 (Count 1) ∷
    take 1 (Run 3 1) ∷
    done 1 (Count 1) ∷
    ask_rollback 3 3 ∷
    ask_rollback 1 1 ∷
    ask_commit 2 2 ∷
    follows 5 (event.Decide 2) ∷
    take 1 (Rollback 1) ∷
    ended 1 ∷
    take 1 (Rollback 3) ∷
    ended 1 ∷
    take 1 (Commit 2) ∷
    ended 1 ∷
    begin 1 4 ∷
    take 2 (Run 2 1) ∷
    done 2 (Count 1) ∷
    []

-- the asked transaction 2 waits at replica 1 for one that its session rolled back: nobody has to give way
abbrev pub waits_for_one_that_ends : List Entry
waits_for_one_that_ends =
    begin 1 1 ∷
    begin 2 2 ∷
    submit 1 1 1 (insert 1 1) ∷
    take 0 (Run 1 1) ∷
    done 0 (Count 1) ∷
    take 1 (Run 1 1) ∷
    done 1 (Count 1) ∷
    submit 2 2 1 (insert 1 1) ∷
    take 0 (Run 2 1) ∷
    done 0 (Count 1) ∷
    ask_commit 2 2 ∷
    take 1 (Run 2 1) ∷
    ask_rollback 1 1 ∷
    blocked 1 (1 ∷ []) ∷
    take 1 (Rollback 1) ∷
    ended 1 ∷
    take 1 (Run 2 1) ∷
    done 1 (Count 1) ∷
    follows 2 (event.Decide 2) ∷
    []

-- it waits for one that is open: that has to give way, though nothing is logged
abbrev pub gives_way_to_an_asked_one : List Entry
gives_way_to_an_asked_one =
    begin 1 1 ∷
    begin 2 2 ∷
    submit 1 1 1 (insert 1 1) ∷
    take 0 (Run 1 1) ∷
    done 0 (Count 1) ∷
    take 1 (Run 1 1) ∷
    done 1 (Count 1) ∷
    submit 2 2 1 (insert 1 1) ∷
    take 0 (Run 2 1) ∷
    done 0 (Count 1) ∷
    ask_commit 2 2 ∷
    take 1 (Run 2 1) ∷
    blocked 1 (1 ∷ []) ∷
    follows 2 (event.Preempt 1 1) ∷
    take 1 (Rollback 1) ∷
    ended 1 ∷
    take 1 (Run 2 1) ∷
    done 1 (Count 1) ∷
    follows 2 (event.Decide 2) ∷
    []

-- replica 1 tells it to wait for itself too: it is convicted, and nobody has to give way there
abbrev pub nobody_gives_way_at_a_convicted : List Entry
nobody_gives_way_at_a_convicted =
    begin 1 1 ∷
    begin 2 2 ∷
    submit 1 1 1 (insert 1 1) ∷
    take 0 (Run 1 1) ∷
    done 0 (Count 1) ∷
    take 1 (Run 1 1) ∷
    done 1 (Count 1) ∷
    submit 2 2 1 (insert 1 1) ∷
    take 0 (Run 2 1) ∷
    done 0 (Count 1) ∷
    ask_commit 2 2 ∷
    take 1 (Run 2 1) ∷
    blocked 1 (1 ∷ 2 ∷ []) ∷
    follows 2 (event.Convict 1 (evidence.BadBlocked 2)) ∷
    []

-- of the cycle of 2 and 3 that replica 1 tells of, 2 gives way to the asked transaction 1 already: 3 needn't
abbrev pub cycle_that_stops : List Entry
cycle_that_stops =
    begin 1 1 ∷
    begin 2 2 ∷
    begin 3 3 ∷
    submit 2 2 1 (insert 1 1) ∷
    take 0 (Run 2 1) ∷
    done 0 (Count 1) ∷
    take 1 (Run 2 1) ∷
    done 1 (Count 1) ∷
    submit 3 3 1 (insert 1 1) ∷
    take 0 (Run 3 1) ∷
    done 0 (Count 1) ∷
    take 1 (Run 3 1) ∷
    done 1 (Count 1) ∷
    submit 1 1 1 (insert 1 1) ∷
    take 0 (Run 1 1) ∷
    done 0 (Count 1) ∷
    take 1 (Run 1 1) ∷
    blocked 1 (2 ∷ []) ∷
    submit 2 2 2 (insert 1 1) ∷
    take 0 (Run 2 2) ∷
    done 0 (Count 1) ∷
    take 1 (Run 2 2) ∷
    blocked 1 (3 ∷ []) ∷
    submit 3 3 2 (insert 1 1) ∷
    take 0 (Run 3 2) ∷
    done 0 (Count 1) ∷
    take 1 (Run 3 2) ∷
    ask_commit 1 1 ∷
    follows 4 (event.Preempt 1 2) ∷
    deadlock 1 (3 ∷ 2 ∷ []) ∷
    take 1 (Rollback 2) ∷
    ended 1 ∷
    []

-- 1 waits for 2, and 2 for 3; that 3 has to wait for 1 can't be told as Blocked
abbrev pub blocked_in_a_ring : List Entry
blocked_in_a_ring =
    begin 1 1 ∷
    begin 2 2 ∷
    begin 3 3 ∷
    submit 1 1 1 (insert 1 1) ∷
    take 0 (Run 1 1) ∷
    done 0 (Count 1) ∷
    submit 2 2 1 (insert 1 1) ∷
    take 0 (Run 2 1) ∷
    done 0 (Count 1) ∷
    submit 3 3 1 (insert 1 1) ∷
    take 0 (Run 3 1) ∷
    done 0 (Count 1) ∷
    submit 1 1 2 (insert 1 1) ∷
    take 0 (Run 1 2) ∷
    blocked 0 (2 ∷ []) ∷
    submit 2 2 2 (insert 1 1) ∷
    take 0 (Run 2 2) ∷
    blocked 0 (3 ∷ []) ∷
    submit 3 3 2 (insert 1 1) ∷
    take 0 (Run 3 2) ∷
    blocked 0 (1 ∷ []) ∷
    follows 1 (event.Convict 0 (evidence.BadBlocked 3)) ∷
    follows 1 (event.Refuse 1 (cause.PrimaryChanged 0 why.Convicted 21)) ∷
    follows 1 (event.Refuse 2 (cause.PrimaryChanged 0 why.Convicted 21)) ∷
    follows 1 (event.Refuse 3 (cause.PrimaryChanged 0 why.Convicted 21)) ∷
    follows 1 (event.NewPrimary 1) ∷
    []
