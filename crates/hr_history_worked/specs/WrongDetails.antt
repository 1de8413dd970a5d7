-- Histories whose last entry is of the kind that comes next, but with a wrong detail: the comment tells the right one.
use Rattle.std.specs.Prelude.{List, [], ◌∷◌, ◌++◌, take as first}
use Rattle.hr_history.specs.declared.entry.Entry.{Entry}
use Rattle.hr_history.specs.declared.entry.Event.TheVariants as event
use Rattle.hr_history.specs.declared.job.Job.TheVariants.{Commit, Rollback}
use Rattle.hr_history.specs.declared.cause.CauseAt.TheVariants as cause
use Rattle.hr_history.specs.declared.cause.Why.TheVariants as why
use Rattle.hr_history.specs.declared.evidence.Evidence.TheVariants as evidence
use Rattle.hr_history_worked.specs.Entries.{follows, take}
use Rattle.hr_history_worked.specs.BlockingLiar.{blocking_liar}
use Rattle.hr_history_worked.specs.DeadlockAtPrimary.{deadlock_at_primary}
use Rattle.hr_history_worked.specs.DroppedWrite.{dropped_write}
use Rattle.hr_history_worked.specs.InsertAndSelect.{insert_and_select}
use Rattle.hr_history_worked.specs.StaleVote.{stale_vote}
use Rattle.hr_history_worked.specs.SuspectedPrimary.{suspected_primary}
use Rattle.hr_history_worked.specs.WrongRestartCount.{wrong_restart_count}

-- transaction 1 may be decided, and no other
abbrev pub decided_another : List Entry
decided_another = first 16 insert_and_select ++ follows 4 (event.Decide 2) ∷ []

-- transaction 2 is open, and no other
abbrev pub refused_another : List Entry
refused_another = first 13 suspected_primary ++ follows 0 (event.Refuse 1 (cause.PrimaryChanged 0 why.Suspected 12)) ∷ []

-- the primary was replica 0
abbrev pub refused_for_another_primary : List Entry
refused_for_another_primary = first 13 suspected_primary ++ follows 0 (event.Refuse 2 (cause.PrimaryChanged 1 why.Suspected 12)) ∷ []

-- it was suspected
abbrev pub refused_for_another_why : List Entry
refused_for_another_why = first 13 suspected_primary ++ follows 0 (event.Refuse 2 (cause.PrimaryChanged 0 why.Lost 12)) ∷ []

-- at place 12
abbrev pub refused_for_another_suspicion : List Entry
refused_for_another_suspicion = first 13 suspected_primary ++ follows 0 (event.Refuse 2 (cause.PrimaryChanged 0 why.Suspected 11)) ∷ []

-- the Deadlock was told at place 13
abbrev pub refused_for_another_reply : List Entry
refused_for_another_reply = first 14 deadlock_at_primary ++ follows 1 (event.Refuse 2 (cause.Deadlock 10)) ∷ []

-- the answer to statement 1 is contradicted
abbrev pub refused_for_another_statement : List Entry
refused_for_another_statement = first 30 stale_vote ++ follows 3 (event.Refuse 1 (cause.Differ 2 1 25)) ∷ []

-- by replica 1, the lowest
abbrev pub refused_for_another_replica : List Entry
refused_for_another_replica = first 30 stale_vote ++ follows 3 (event.Refuse 1 (cause.Differ 1 2 25)) ∷ []

-- which told it at place 25
abbrev pub refused_for_another_answer : List Entry
refused_for_another_answer = first 30 stale_vote ++ follows 3 (event.Refuse 1 (cause.Differ 1 1 29)) ∷ []

-- it was the answer to statement 1
abbrev pub convicted_for_another_contradiction : List Entry
convicted_for_another_contradiction = first 31 stale_vote ++ follows 3 (event.Convict 0 (evidence.Contradicted 1 2)) ∷ []

-- replica 2 answered differently, and no other
abbrev pub convicted_another : List Entry
convicted_another = first 17 dropped_write ++ follows 4 (event.Convict 1 (evidence.Differs 1 2)) ∷ []

-- to the second statement, not the first
abbrev pub convicted_for_another_answer : List Entry
convicted_for_another_answer = first 17 dropped_write ++ follows 4 (event.Convict 2 (evidence.Differs 1 1)) ∷ []

-- it was transaction 1 that was to wait
abbrev pub convicted_for_another_wait : List Entry
convicted_for_another_wait = first 4 blocking_liar ++ follows 1 (event.Convict 0 (evidence.BadBlocked 2)) ∷ []

-- the restart told 5
abbrev pub convicted_for_another_count : List Entry
convicted_for_another_count = first 18 wrong_restart_count ++ follows 3 (event.Convict 2 (evidence.BadRestart 4)) ∷ []

-- replica 1 is the candidate
abbrev pub another_primary : List Entry
another_primary = first 32 stale_vote ++ follows 3 (event.NewPrimary 2) ∷ []

-- transaction 1 has to give way
abbrev pub preempted_another : List Entry
preempted_another = first 17 stale_vote ++ follows 2 (event.Preempt 1 2) ∷ []

-- at replica 1
abbrev pub preempted_elsewhere : List Entry
preempted_elsewhere = first 17 stale_vote ++ follows 2 (event.Preempt 2 1) ∷ []

-- transaction 1 is to be committed
abbrev pub committed_another : List Entry
committed_another = first 17 insert_and_select ++ take 0 (Commit 2) ∷ []

-- transaction 1 is to be rolled back
abbrev pub rolled_back_another : List Entry
rolled_back_another = first 18 stale_vote ++ take 1 (Rollback 2) ∷ []
