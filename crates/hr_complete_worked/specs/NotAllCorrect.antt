-- Histories in which one of three replicas lies.
use Rattle.std.specs.Prelude.{◌≡◌, ℕ, true, [], ◌∷◌, ◌++◌}
use Rattle.hr_history.specs.declared.cause.CauseAt.{CauseAt}
use Rattle.hr_history.specs.declared.cause.CauseAt.TheVariants as cause
use Rattle.hr_history.specs.declared.entry.Event.TheVariants as event
use Rattle.hr_history.specs.History.{History, history_of}
use Rattle.hr_history.specs.Transactions.{phase_of, is_asked}
use Rattle.hr_history.specs.View.{view_of}
use Rattle.hr_history.specs.Votes.{is_ready}
use Rattle.hr_history.specs.Faithful.{is_begun, is_faithful, Correct}
use Rattle.hr_history_worked.specs.Entries.{follows, ask_commit}
use Rattle.hr_barriers_worked.specs.OneRow.{empty_table, submitted, honest, lies}
use Rattle.hr_decisions.specs.Groups.{IsGroup}
use Rattle.hr_complete.specs.Undisturbed.{is_loss_of, is_suspicion, HasNone, IsPrimarysReply}

-- the primary lies, the others answer otherwise, and the commit is asked for
abbrev pub primary_lied : History
primary_lied = history_of (submitted ++ lies 0 ++ honest 1 ++ honest 2 ++ ask_commit 1 1 ∷ [])

-- why the transaction is refused
abbrev pub for_the_lie : CauseAt
for_the_lie = cause.Differ 1 1 5

abbrev pub refused_for_a_lie : History
refused_for_a_lie = follows 4 (event.Refuse 1 for_the_lie) ∷ primary_lied

-- The rules are followed, none was lost and nobody was suspected. A transaction is refused whose commit was asked for, and not
-- for what the primary replied. The primary isn't correct, and both others are.
pub record RefusesForALie : Type 0 where
  pub begun : is_begun 1 1 refused_for_a_lie ≡ true
  pub not_lost : (r : ℕ) → HasNone (is_loss_of r) primary_lied
  pub unsuspected : HasNone is_suspicion primary_lied
  pub asked : is_asked (phase_of 1 primary_lied) ≡ true
  pub no_reply : IsPrimarysReply for_the_lie → ⊥
  pub liar : Correct empty_table primary_lied 0 → ⊥
  pub others : Correct empty_table primary_lied 1 × Correct empty_table primary_lied 2

-- replica 1 lies, replica 2 hasn't run the statement yet, and the commit is asked for
abbrev pub secondary_lied : History
secondary_lied = history_of (submitted ++ honest 0 ++ lies 1 ++ ask_commit 1 1 ∷ [])

-- The rules are followed, nothing more is due, none was lost and nobody was suspected. Two of the three replicas are ready for a
-- transaction whose commit was asked for. Replica 1 isn't correct, and both others are.
pub record LeavesReady : Type 0 where
  pub faithful : is_faithful 1 1 secondary_lied ≡ true
  pub not_lost : (r : ℕ) → HasNone (is_loss_of r) secondary_lied
  pub unsuspected : HasNone is_suspicion secondary_lied
  pub ready : IsGroup 1 (is_ready (view_of 1 secondary_lied) 1)
  pub asked : is_asked (phase_of 1 secondary_lied) ≡ true
  pub liar : Correct empty_table secondary_lied 1 → ⊥
  pub others : Correct empty_table secondary_lied 0 × Correct empty_table secondary_lied 2
