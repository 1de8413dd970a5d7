-- Histories that break a rule at their last entry, most of them beginnings of worked ones with another entry in place of
-- the right one.
use Rattle.std.specs.Prelude.{List, [], ◌∷◌, ◌++◌, take as first}
use Rattle.hr_rel.specs.declared.answer.Answer.TheVariants.{Count}
use Rattle.hr_meaning.specs.Worked.{insert}
use Rattle.hr_history.specs.declared.entry.Entry.{Entry}
use Rattle.hr_history.specs.declared.entry.Event.TheVariants as event
use Rattle.hr_history.specs.declared.job.Job.TheVariants.{Run, Commit}
use Rattle.hr_history.specs.declared.cause.CauseAt.TheVariants as cause
use Rattle.hr_history.specs.declared.evidence.Evidence.TheVariants as evidence
use Rattle.hr_history_worked.specs.Entries.{follows, begin, submit, ask_commit, take, done, deadlock}
use Rattle.hr_history_worked.specs.InsertAndSelect.{insert_and_select}
use Rattle.hr_history_worked.specs.StaleVote.{stale_vote}
use Rattle.hr_history_worked.specs.WaitWithoutBreak.{wait_without_break}
use Rattle.hr_history_worked.specs.BarrierCalls.{barrier_calls}

-- the vote of replica 1, which hasn't processed the log, is counted with the primary's
abbrev pub stale_vote_counted : List Entry
stale_vote_counted = first 15 stale_vote ++ follows 4 (event.Decide 1) ∷ []

-- one statement, run at the primary alone, and its transaction's commit asked for
abbrev pub asked_at_once : List Entry
asked_at_once = begin 1 1 ∷ submit 1 1 1 (insert 5 50) ∷ take 0 (Run 1 1) ∷ done 0 (Count 1) ∷ ask_commit 1 1 ∷ []

-- f replicas decide
abbrev pub decided_by_f : List Entry
decided_by_f = asked_at_once ++ follows 4 (event.Decide 1) ∷ []

-- two replicas agree with each other, and not with the primary, and the transaction is decided
abbrev pub decided_against_the_given : List Entry
decided_against_the_given = asked_at_once ++ take 1 (Run 1 1) ∷ done 1 (Count 2) ∷ take 2 (Run 1 1) ∷ done 2 (Count 2) ∷ follows 3 (event.Decide 1) ∷ []

-- transaction 1, the second of the log, is committed first
abbrev pub second_committed_first : List Entry
second_committed_first = first 42 wait_without_break ++ take 0 (Commit 1) ∷ []

-- replica 2 is given the reader's statement, though it hasn't processed the commit before its stamp
abbrev pub taken_before_the_barrier : List Entry
taken_before_the_barrier = first 14 barrier_calls ++ take 2 (Run 2 1) ∷ []

-- replica 1 is convicted for telling 2 to wait for 1; 1 waited for 2 once, but 2 was rolled back since
abbrev pub convicted_for_an_old_wait : List Entry
convicted_for_an_old_wait = first 39 wait_without_break ++ follows 2 (event.Convict 1 (evidence.BadBlocked 2)) ∷ []

-- the primary makes up a cycle of waits, of a transaction alone with one that isn't there
abbrev pub made_up_cycle : List Entry
made_up_cycle = begin 1 1 ∷ submit 1 1 1 (insert 5 50) ∷ take 0 (Run 1 1) ∷ deadlock 0 (1 ∷ 2 ∷ []) ∷ []

-- and is taken at its word
abbrev pub refused_for_a_made_up_cycle : List Entry
refused_for_a_made_up_cycle = made_up_cycle ++ follows 1 (event.Refuse 1 (cause.Deadlock 3)) ∷ []

-- in place of its conviction
abbrev pub convicted_for_a_made_up_cycle : List Entry
convicted_for_a_made_up_cycle = made_up_cycle ++ follows 1 (event.Convict 0 (evidence.BadDeadlock 1)) ∷ []

-- the new primary, which was due at the end, is left out
abbrev pub no_new_primary : List Entry
no_new_primary = first 32 stale_vote

-- the preemption that was due is left out, and replica 1 goes on
abbrev pub no_preemption : List Entry
no_preemption = first 17 stale_vote ++ take 1 (Run 2 1) ∷ []

-- decided twice
abbrev pub decided_again : List Entry
decided_again = first 17 insert_and_select ++ follows 4 (event.Decide 1) ∷ []

-- what follows carries another caller's number
abbrev pub decided_by_another : List Entry
decided_by_another = first 16 insert_and_select ++ follows 1 (event.Decide 1) ∷ []

-- a job that is there, but isn't the first
abbrev pub second_job_taken : List Entry
second_job_taken = first 16 stale_vote ++ take 2 (Run 1 1) ∷ []
