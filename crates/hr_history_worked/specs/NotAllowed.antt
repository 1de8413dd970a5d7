-- Histories whose last entry is a call that isn't allowed there, but for one that is.
use Rattle.std.specs.Prelude.{List, [], ◌∷◌, ◌++◌, take as first}
use Rattle.hr_rel.specs.declared.answer.Answer.TheVariants.{Rows}
use Rattle.hr_meaning.specs.Worked.{one, insert, select_v}
use Rattle.hr_history.specs.declared.entry.Entry.{Entry}
use Rattle.hr_history.specs.declared.entry.Event.TheVariants as event
use Rattle.hr_history.specs.declared.job.Job.TheVariants.{Run, Rollback}
use Rattle.hr_history_worked.specs.Entries.{by, begin, submit, ask_commit, ask_rollback, take, done, ended, restarted}
use Rattle.hr_history_worked.specs.WrongRestartCount.{wrong_restart_count}
use Rattle.hr_history_worked.specs.GivingWay.{rolled_back}

-- a session begins while its transaction is open
abbrev pub begun_while_open : List Entry
begun_while_open = begin 1 1 ∷ begin 1 2 ∷ []

-- a transaction's number is left out
abbrev pub begun_with_a_later_number : List Entry
begun_with_a_later_number = begin 1 2 ∷ []

-- another session's caller begins
abbrev pub begun_by_another : List Entry
begun_by_another = by 5 (event.Begin 1 1) ∷ []

-- there are two sessions, 1 and 2
abbrev pub begun_by_session_0 : List Entry
begun_by_session_0 = begin 0 1 ∷ []

abbrev pub begun_by_session_3 : List Entry
begun_by_session_3 = begin 3 1 ∷ []

-- a session submits to another's transaction
abbrev pub submitted_to_anothers : List Entry
submitted_to_anothers = begin 1 1 ∷ begin 2 2 ∷ submit 2 1 1 (insert 1 1) ∷ []

-- a session goes on with a transaction that it rolled back
abbrev pub submitted_to_an_ended_one : List Entry
submitted_to_an_ended_one = begin 1 1 ∷ ask_rollback 1 1 ∷ submit 1 1 1 (insert 1 1) ∷ []

-- a statement's number is left out
abbrev pub submitted_with_a_later_number : List Entry
submitted_with_a_later_number = begin 1 1 ∷ submit 1 1 2 (insert 1 1) ∷ []

abbrev pub begun_and_submitted : List Entry
begun_and_submitted = begin 1 1 ∷ submit 1 1 1 (select_v 1) ∷ []

-- a session goes on while its statement isn't answered
abbrev pub submitted_while_waiting : List Entry
submitted_while_waiting = begun_and_submitted ++ submit 1 1 2 (insert 1 1) ∷ []

abbrev pub asked_while_waiting : List Entry
asked_while_waiting = begun_and_submitted ++ ask_commit 1 1 ∷ []

abbrev pub rolled_back_while_waiting : List Entry
rolled_back_while_waiting = begun_and_submitted ++ ask_rollback 1 1 ∷ []

-- a replica's job is taken by another's caller
abbrev pub taken_by_another : List Entry
taken_by_another = begun_and_submitted ++ by 2 (event.Take 0 (Run 1 1)) ∷ []

-- the job is to run statement 1
abbrev pub taken_with_another_index : List Entry
taken_with_another_index = begun_and_submitted ++ take 0 (Run 1 2) ∷ []

-- a replica gets a second job while one is out
abbrev pub taken_while_one_is_out : List Entry
taken_while_one_is_out = begun_and_submitted ++ take 0 (Run 1 1) ∷ take 0 (Run 1 1) ∷ []

-- a run is answered as a commit is
abbrev pub run_ended : List Entry
run_ended = begun_and_submitted ++ take 0 (Run 1 1) ∷ ended 0 ∷ []

-- nothing was to be run
abbrev pub answered_unasked : List Entry
answered_unasked = begun_and_submitted ++ done 0 (Rows []) ∷ []

-- rows that aren't sorted, and the same sorted
abbrev pub answered_unsorted : List Entry
answered_unsorted = begun_and_submitted ++ take 0 (Run 1 1) ∷ done 0 (Rows (one 2 ∷ one 1 ∷ [])) ∷ []

abbrev pub answered_sorted : List Entry
answered_sorted = begun_and_submitted ++ take 0 (Run 1 1) ∷ done 0 (Rows (one 1 ∷ one 2 ∷ [])) ∷ []

-- a replica restarts that wasn't told to
abbrev pub restarted_untold : List Entry
restarted_untold = restarted 1 0 ∷ []

-- a convicted replica goes on
abbrev pub taken_by_a_convicted : List Entry
taken_by_a_convicted = wrong_restart_count ++ take 2 (Run 1 1) ∷ []

-- a replica rolls back where nothing was answered
abbrev pub rolled_back_untouched : List Entry
rolled_back_untouched = first 20 rolled_back ++ take 2 (Rollback 1) ∷ []
