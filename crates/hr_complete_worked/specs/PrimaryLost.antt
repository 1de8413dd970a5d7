-- A history in which the primary is lost.
use Rattle.std.specs.Prelude.{◌≡◌, ℕ, ◌<◌, true, [], ◌∷◌, ◌++◌}
use Rattle.hr_meaning.specs.Worked.{insert}
use Rattle.hr_history.specs.declared.cause.CauseAt.{CauseAt}
use Rattle.hr_history.specs.declared.cause.CauseAt.TheVariants as cause
use Rattle.hr_history.specs.declared.cause.Why.TheVariants as why
use Rattle.hr_history.specs.declared.entry.Event.TheVariants as event
use Rattle.hr_history.specs.declared.job.Job.TheVariants.{Run}
use Rattle.hr_history.specs.History.{History, history_of}
use Rattle.hr_history.specs.Transactions.{phase_of, is_asked}
use Rattle.hr_history.specs.Faithful.{is_begun, Correct}
use Rattle.hr_history_worked.specs.Entries.{follows, begin, submit, ask_commit, take, run_lost}
use Rattle.hr_barriers_worked.specs.OneRow.{empty_table, submitted, honest}
use Rattle.hr_complete.specs.Undisturbed.{is_loss_of, is_suspicion, HasNone, IsPrimarysReply}

-- a commit is asked for, and the primary is lost in the run of another session's statement
abbrev pub primary_lost : History
primary_lost = history_of (submitted ++ honest 0 ++ ask_commit 1 1 ∷ begin 2 2 ∷ submit 2 2 1 (insert 6 60) ∷ take 0 (Run 2 1) ∷ run_lost 0 ∷ [])

-- why the first transaction is refused
abbrev pub for_the_loss : CauseAt
for_the_loss = cause.PrimaryChanged 0 why.Lost 8

abbrev pub refused_for_a_loss : History
refused_for_a_loss = follows 1 (event.Refuse 1 for_the_loss) ∷ primary_lost

-- The rules are followed, every replica is correct, and nobody was suspected. A transaction is refused whose commit was asked for,
-- and not for what the primary replied. The primary was lost.
pub record RefusesForALoss : Type 0 where
  pub begun : is_begun 1 2 refused_for_a_loss ≡ true
  pub correct : (r : ℕ) → r < 3 → Correct empty_table primary_lost r
  pub unsuspected : HasNone is_suspicion primary_lost
  pub asked : is_asked (phase_of 1 primary_lost) ≡ true
  pub no_reply : IsPrimarysReply for_the_loss → ⊥
  pub lost : HasNone (is_loss_of 0) primary_lost → ⊥
