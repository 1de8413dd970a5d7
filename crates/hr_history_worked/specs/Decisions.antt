-- Which transaction is decided, and which contradicted, where several are asked for.
use Rattle.std.specs.Prelude.{List, [], ◌∷◌}
use Rattle.hr_rel.specs.declared.answer.Answer.TheVariants.{Count}
use Rattle.hr_meaning.specs.Worked.{insert}
use Rattle.hr_history.specs.declared.entry.Entry.{Entry}
use Rattle.hr_history.specs.declared.entry.Event.TheVariants as event
use Rattle.hr_history.specs.declared.job.Job.TheVariants.{Run, Restart}
use Rattle.hr_history.specs.declared.cause.CauseAt.TheVariants as cause
use Rattle.hr_history.specs.declared.cause.Why.TheVariants as why
use Rattle.hr_history.specs.declared.evidence.Evidence.TheVariants as evidence
use Rattle.hr_history_worked.specs.Entries.{follows, begin, submit, ask_commit, take, done, blocked, run_lost, restarted}

-- replica 2 runs the logged transaction 3 last, and so both others may be decided at once: 2, which asked first, comes first
abbrev pub decided_in_the_order_of_asking : List Entry
decided_in_the_order_of_asking =
    begin 1 1 ∷
    begin 2 2 ∷
    begin 3 3 ∷
    submit 1 1 1 (insert 1 1) ∷
    take 0 (Run 1 1) ∷
    done 0 (Count 1) ∷
    submit 2 2 1 (insert 1 1) ∷
    take 0 (Run 2 1) ∷
    done 0 (Count 1) ∷
    take 2 (Run 1 1) ∷
    done 2 (Count 1) ∷
    take 2 (Run 2 1) ∷
    done 2 (Count 1) ∷
    submit 3 3 1 (insert 1 1) ∷
    take 0 (Run 3 1) ∷
    done 0 (Count 1) ∷
    ask_commit 3 3 ∷
    take 1 (Run 3 1) ∷
    done 1 (Count 1) ∷
    follows 2 (event.Decide 3) ∷
    ask_commit 2 2 ∷
    ask_commit 1 1 ∷
    take 2 (Run 3 1) ∷
    done 2 (Count 1) ∷
    follows 3 (event.Decide 2) ∷
    follows 3 (event.Decide 1) ∷
    []

-- the same, but replicas 1 and 2 contradict the primary on transaction 1, which asked first; 2 is decided first, and then replica 1, which hasn't run 2, isn't ready any more
abbrev pub decided_before_contradicted : List Entry
decided_before_contradicted =
    begin 1 1 ∷
    begin 2 2 ∷
    begin 3 3 ∷
    submit 1 1 1 (insert 1 1) ∷
    take 0 (Run 1 1) ∷
    done 0 (Count 1) ∷
    take 1 (Run 1 1) ∷
    done 1 (Count 2) ∷
    submit 2 2 1 (insert 1 1) ∷
    take 0 (Run 2 1) ∷
    done 0 (Count 1) ∷
    take 2 (Run 1 1) ∷
    done 2 (Count 2) ∷
    take 2 (Run 2 1) ∷
    done 2 (Count 1) ∷
    submit 3 3 1 (insert 1 1) ∷
    take 0 (Run 3 1) ∷
    done 0 (Count 1) ∷
    ask_commit 3 3 ∷
    take 1 (Run 3 1) ∷
    done 1 (Count 1) ∷
    follows 2 (event.Decide 3) ∷
    ask_commit 1 1 ∷
    ask_commit 2 2 ∷
    take 2 (Run 3 1) ∷
    done 2 (Count 1) ∷
    follows 3 (event.Decide 2) ∷
    []

-- replicas 1 and 2 contradict the primary on two transactions at once: 2, which asked first, tells of it, and 1 is refused as the primary went
abbrev pub contradicted_in_the_order_of_asking : List Entry
contradicted_in_the_order_of_asking =
    begin 1 1 ∷
    begin 2 2 ∷
    begin 3 3 ∷
    submit 1 1 1 (insert 1 1) ∷
    take 0 (Run 1 1) ∷
    done 0 (Count 1) ∷
    submit 2 2 1 (insert 1 1) ∷
    take 0 (Run 2 1) ∷
    done 0 (Count 1) ∷
    take 1 (Run 1 1) ∷
    done 1 (Count 2) ∷
    take 1 (Run 2 1) ∷
    done 1 (Count 2) ∷
    take 2 (Run 1 1) ∷
    done 2 (Count 2) ∷
    take 2 (Run 2 1) ∷
    done 2 (Count 2) ∷
    submit 3 3 1 (insert 1 1) ∷
    take 0 (Run 3 1) ∷
    done 0 (Count 1) ∷
    ask_commit 3 3 ∷
    take 1 (Run 3 1) ∷
    done 1 (Count 1) ∷
    follows 2 (event.Decide 3) ∷
    ask_commit 2 2 ∷
    ask_commit 1 1 ∷
    take 2 (Run 3 1) ∷
    done 2 (Count 1) ∷
    follows 3 (event.Refuse 2 (cause.Differ 1 1 12)) ∷
    follows 3 (event.Convict 0 (evidence.Contradicted 2 1)) ∷
    follows 3 (event.Refuse 1 (cause.PrimaryChanged 0 why.Convicted 29)) ∷
    []

-- three replicas answer in three ways: nobody decides, and nobody is contradicted
abbrev pub three_answers : List Entry
three_answers =
    begin 1 1 ∷
    submit 1 1 1 (insert 1 1) ∷
    take 0 (Run 1 1) ∷
    done 0 (Count 1) ∷
    take 1 (Run 1 1) ∷
    done 1 (Count 2) ∷
    take 2 (Run 1 1) ∷
    done 2 (Count 3) ∷
    ask_commit 1 1 ∷
    []

-- replica 2 answered before it was convicted; its vote counts no more, and replica 1 has to answer
abbrev pub convicted_vote : List Entry
convicted_vote =
    begin 1 1 ∷
    begin 2 2 ∷
    submit 1 1 1 (insert 1 1) ∷
    take 0 (Run 1 1) ∷
    done 0 (Count 1) ∷
    take 2 (Run 1 1) ∷
    done 2 (Count 1) ∷
    submit 2 2 1 (insert 1 1) ∷
    take 0 (Run 2 1) ∷
    done 0 (Count 1) ∷
    take 2 (Run 2 1) ∷
    blocked 2 [] ∷
    follows 3 (event.Convict 2 (evidence.BadBlocked 2)) ∷
    ask_commit 1 1 ∷
    take 1 (Run 1 1) ∷
    done 1 (Count 1) ∷
    follows 2 (event.Decide 1) ∷
    []

-- a transaction of no statements has to wait until more than f replicas are live
abbrev pub empty_while_two_are_lost : List Entry
empty_while_two_are_lost =
    begin 1 1 ∷
    begin 2 2 ∷
    submit 2 2 1 (insert 1 1) ∷
    take 0 (Run 2 1) ∷
    done 0 (Count 1) ∷
    take 1 (Run 2 1) ∷
    run_lost 1 ∷
    take 2 (Run 2 1) ∷
    run_lost 2 ∷
    ask_commit 1 1 ∷
    take 1 Restart ∷
    restarted 1 0 ∷
    follows 2 (event.Decide 1) ∷
    []

-- replica 2 has run the second of the log, and not the first: nothing of the log is processed there
abbrev pub processed_in_log_order : List Entry
processed_in_log_order =
    begin 1 1 ∷
    begin 2 2 ∷
    submit 1 1 1 (insert 1 1) ∷
    take 0 (Run 1 1) ∷
    done 0 (Count 1) ∷
    take 1 (Run 1 1) ∷
    done 1 (Count 1) ∷
    take 2 (Run 1 1) ∷
    done 2 (Count 1) ∷
    submit 2 2 1 (insert 1 1) ∷
    take 0 (Run 2 1) ∷
    done 0 (Count 1) ∷
    take 1 (Run 2 1) ∷
    done 1 (Count 1) ∷
    ask_commit 2 2 ∷
    follows 5 (event.Decide 2) ∷
    ask_commit 1 1 ∷
    follows 4 (event.Decide 1) ∷
    []
