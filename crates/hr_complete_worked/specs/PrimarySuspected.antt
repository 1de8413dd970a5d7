-- A history in which the primary is suspected.
use Rattle.std.specs.Prelude.{◌≡◌, ℕ, ◌<◌, true, [], ◌∷◌, ◌++◌}
use Rattle.hr_history.specs.declared.cause.CauseAt.{CauseAt}
use Rattle.hr_history.specs.declared.cause.CauseAt.TheVariants as cause
use Rattle.hr_history.specs.declared.cause.Why.TheVariants as why
use Rattle.hr_history.specs.declared.entry.Event.TheVariants as event
use Rattle.hr_history.specs.History.{History, history_of}
use Rattle.hr_history.specs.Transactions.{phase_of, is_asked}
use Rattle.hr_history.specs.Faithful.{is_begun, Correct}
use Rattle.hr_history_worked.specs.Entries.{follows, ask_commit, suspect}
use Rattle.hr_barriers_worked.specs.OneRow.{empty_table, submitted, honest}
use Rattle.hr_complete.specs.Undisturbed.{is_loss_of, is_suspicion, HasNone, IsPrimarysReply}

-- a commit is asked for, and the primary is suspected
abbrev pub primary_suspected : History
primary_suspected = history_of (submitted ++ honest 0 ++ ask_commit 1 1 ∷ suspect ∷ [])

-- why the transaction is refused
abbrev pub for_the_suspicion : CauseAt
for_the_suspicion = cause.PrimaryChanged 0 why.Suspected 5

abbrev pub refused_for_a_suspicion : History
refused_for_a_suspicion = follows 0 (event.Refuse 1 for_the_suspicion) ∷ primary_suspected

-- The rules are followed, every replica is correct, and none was lost. A transaction is refused whose commit was asked for, and
-- not for what the primary replied. The primary was suspected.
pub record RefusesForASuspicion : Type 0 where
  pub begun : is_begun 1 1 refused_for_a_suspicion ≡ true
  pub correct : (r : ℕ) → r < 3 → Correct empty_table primary_suspected r
  pub not_lost : (r : ℕ) → HasNone (is_loss_of r) primary_suspected
  pub asked : is_asked (phase_of 1 primary_suspected) ≡ true
  pub no_reply : IsPrimarysReply for_the_suspicion → ⊥
  pub suspected : HasNone is_suspicion primary_suspected → ⊥
