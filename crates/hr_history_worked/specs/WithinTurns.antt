-- A history that ends within a turn, where what is due isn't done yet.
use Rattle.std.specs.Prelude.{List, [], ◌∷◌}
use Rattle.hr_rel.specs.declared.answer.Answer.TheVariants.{Count}
use Rattle.hr_meaning.specs.Worked.{insert}
use Rattle.hr_history.specs.declared.entry.Entry.{Entry}
use Rattle.hr_history.specs.declared.entry.Event.TheVariants as event
use Rattle.hr_history.specs.declared.job.Job.TheVariants.{Run, Commit}
use Rattle.hr_history_worked.specs.Entries.{follows, begin, submit, ask_commit, take, done, blocked, ended}

-- replica 2 tells the logged transaction 1 to wait for 2, whose second answer was given after the decision; 2 isn't
-- preempted yet, and its second statement has to wait
abbrev pub behind_the_barrier : List Entry
behind_the_barrier =
    begin 1 1 ∷
    begin 2 2 ∷
    submit 2 2 1 (insert 1 1) ∷
    take 0 (Run 2 1) ∷
    done 0 (Count 1) ∷
    take 2 (Run 2 1) ∷
    done 2 (Count 1) ∷
    submit 1 1 1 (insert 1 1) ∷
    take 0 (Run 1 1) ∷
    done 0 (Count 1) ∷
    ask_commit 1 1 ∷
    take 1 (Run 1 1) ∷
    done 1 (Count 1) ∷
    follows 2 (event.Decide 1) ∷
    submit 2 2 2 (insert 1 1) ∷
    take 0 (Commit 1) ∷
    ended 0 ∷
    take 0 (Run 2 2) ∷
    done 0 (Count 1) ∷
    take 2 (Run 1 1) ∷
    blocked 2 (2 ∷ []) ∷
    []
