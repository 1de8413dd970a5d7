-- The states of `stale_vote` after each of its turns.
use Rattle.std.specs.Prelude.{ℕ, Some, None, List, [], ◌∷◌}
use Rattle.hr_rel.specs.declared.answer.Answer.TheVariants.{Rows, Count}
use Rattle.hr_meaning.specs.Worked.{one}
use Rattle.hr_history.specs.declared.job.Job.{Job}
use Rattle.hr_history.specs.declared.job.Job.TheVariants.{Run, Commit, Rollback}
use Rattle.hr_history.specs.declared.reply.Reply.TheVariants.{Answered, Committed, Refused}
use Rattle.hr_history.specs.declared.cause.Cause.TheVariants.{Differ}
use Rattle.hr_history.specs.Replies.{ReplyState, NothingAsked, Waiting, Replied}
use Rattle.hr_history_worked.specs.States.{State, At}

-- so many committed, so many of the log processed, and no job
abbrev pub idle : ℕ → ℕ → At
idle position processed = record { position = position; processed = processed; job = None }

-- and this job
abbrev pub due : ℕ → ℕ → Job → At
due position processed job = record { position = position; processed = processed; job = Some job }

abbrev pub counted : ReplyState
counted = Replied (Answered (Count 1))

abbrev pub read_6 : ReplyState
read_6 = Replied (Answered (Rows (one 6 ∷ [])))

abbrev pub committed : ReplyState
committed = Replied (Committed 1)

abbrev pub refused : ReplyState
refused = Replied (Refused (Differ 1 (Rows (one 6 ∷ [])) (Rows (one 9 ∷ []))))

-- the log, what sessions 1 and 2 were told, and the three replicas
abbrev pub state : List ℕ → ReplyState → ReplyState → At → At → At → State
state log first second r0 r1 r2 = record { log = log; told = first ∷ second ∷ []; replicas = r0 ∷ r1 ∷ r2 ∷ [] }

abbrev pub states_of_stale_vote : List State
states_of_stale_vote =
    state [] NothingAsked NothingAsked (idle 0 0) (idle 0 0) (idle 0 0) ∷
    state [] NothingAsked NothingAsked (idle 0 0) (idle 0 0) (idle 0 0) ∷
    state [] NothingAsked Waiting (due 0 0 (Run 2 1)) (idle 0 0) (idle 0 0) ∷
    state [] NothingAsked Waiting (idle 0 0) (idle 0 0) (idle 0 0) ∷
    state [] NothingAsked counted (idle 0 0) (due 0 0 (Run 2 1)) (due 0 0 (Run 2 1)) ∷
    state [] NothingAsked counted (idle 0 0) (due 0 0 (Run 2 1)) (idle 0 0) ∷
    state [] NothingAsked counted (idle 0 0) (due 0 0 (Run 2 1)) (idle 0 0) ∷
    state [] Waiting counted (due 0 0 (Run 1 1)) (due 0 0 (Run 2 1)) (idle 0 0) ∷
    state [] Waiting counted (idle 0 0) (due 0 0 (Run 2 1)) (idle 0 0) ∷
    state [] read_6 counted (idle 0 0) (due 0 0 (Run 1 1)) (due 0 0 (Run 1 1)) ∷
    state [] read_6 counted (idle 0 0) (idle 0 0) (due 0 0 (Run 1 1)) ∷
    state [] read_6 counted (idle 0 0) (due 0 0 (Run 2 1)) (due 0 0 (Run 1 1)) ∷
    state (2 ∷ []) read_6 committed (due 0 1 (Commit 2)) (due 0 0 (Run 2 1)) (due 0 1 (Commit 2)) ∷
    state (2 ∷ []) Waiting committed (due 0 1 (Commit 2)) (due 0 0 (Run 2 1)) (due 0 1 (Commit 2)) ∷
    state (2 ∷ []) Waiting committed (due 0 1 (Commit 2)) (idle 0 0) (due 0 1 (Commit 2)) ∷
    state (2 ∷ []) Waiting committed (due 0 1 (Commit 2)) (due 0 0 (Rollback 1)) (due 0 1 (Commit 2)) ∷
    state (2 ∷ []) Waiting committed (due 0 1 (Commit 2)) (idle 0 0) (due 0 1 (Commit 2)) ∷
    state (2 ∷ []) Waiting committed (due 0 1 (Commit 2)) (due 0 0 (Run 2 1)) (due 0 1 (Commit 2)) ∷
    state (2 ∷ []) Waiting committed (due 0 1 (Commit 2)) (idle 0 0) (due 0 1 (Commit 2)) ∷
    state (2 ∷ []) Waiting committed (due 0 1 (Commit 2)) (due 0 1 (Commit 2)) (due 0 1 (Commit 2)) ∷
    state (2 ∷ []) Waiting committed (due 0 1 (Commit 2)) (idle 0 1) (due 0 1 (Commit 2)) ∷
    state (2 ∷ []) Waiting committed (due 0 1 (Commit 2)) (due 1 1 (Run 1 1)) (due 0 1 (Commit 2)) ∷
    state (2 ∷ []) Waiting committed (due 0 1 (Commit 2)) (idle 1 1) (due 0 1 (Commit 2)) ∷
    state (2 ∷ []) Waiting committed (due 0 1 (Commit 2)) (idle 1 1) (due 0 1 (Commit 2)) ∷
    state (2 ∷ []) Waiting committed (due 0 1 (Commit 2)) (idle 1 1) (idle 0 1) ∷
    state (2 ∷ []) Waiting committed (due 0 1 (Commit 2)) (idle 1 1) (due 1 1 (Run 1 1)) ∷
    state (2 ∷ []) Waiting committed (due 0 1 (Commit 2)) (idle 1 1) (idle 1 1) ∷
    state (2 ∷ []) refused committed (idle 0 1) (due 1 1 (Rollback 1)) (due 1 1 (Rollback 1)) ∷
    []
