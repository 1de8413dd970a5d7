-- What the primary holds of the log, on plain words.
use Rattle.std.proofs.Common.{◌≡◌, ◌⊎◌, inl, inr, ⊎_elim, ℕ, ◌≤◌, Bool, true, false, Option, Some, None, sym, ◌∙◌}
use Rattle.hr_history.specs.declared.job.Job.{Job}
use Rattle.hr_history.specs.declared.job.Job.TheVariants as job
use Rattle.hr_history.specs.declared.phase.Phase.{Phase}
use Rattle.hr_history.specs.declared.phase.Phase.TheVariants as phase
use Rattle.hr_records.proofs.Options.{some_none, same_some}

-- a transaction with this place is committed, or all its statements are in its attempt, and it wasn't preempted
abbrev pub IsHeld : ℕ → ℕ → ℕ → ℕ → Bool → Type 0
IsHeld place position attempted submitted preempted = (place ≤ position) ⊎ ((attempted ≡ submitted) × (preempted ≡ false))

-- Of replica r, the primary, the phases, how many r has committed, how many statements each transaction has in its attempt
-- there and was submitted, which were preempted there, and the job that is out there.
pub record Holds (r : ℕ) (primary : Option ℕ) (phases : ℕ → Phase) (position : ℕ) (attempted submitted : ℕ → ℕ) (preempted : ℕ → Bool) (out : Option Job) : Type 0 where
  -- the primary holds the log
  pub whole : primary ≡ Some r → (t place : ℕ) → phases t ≡ phase.Logged place → IsHeld place position (attempted t) (submitted t) (preempted t)
  -- one of the log is rolled back only where it was preempted
  pub rolls : (t place : ℕ) → out ≡ Some (job.Rollback t) → phases t ≡ phase.Logged place → preempted t ≡ true

module _ {r : ℕ} {primary : Option ℕ} {phases : ℕ → Phase} {position : ℕ} {attempted submitted : ℕ → ℕ} {preempted : ℕ → Bool} {out : Option Job} (g : Holds r primary phases position attempted submitted preempted out) where
  -- nothing changes of those in the log
  pub same_log : (phases_now : ℕ → Phase) (submitted_now : ℕ → ℕ) → ((t place : ℕ) → phases_now t ≡ phase.Logged place → (phases t ≡ phase.Logged place) × (submitted_now t ≡ submitted t))
      → Holds r primary phases_now position attempted submitted_now preempted out
  same_log phases_now submitted_now same = record {
    whole = λ is t place e.
        (let was = same t place e in
        ⊎_elim (λ (le : place ≤ position). inl le) (λ (all : (attempted t ≡ submitted t) × (preempted t ≡ false)). inr (all.0 ∙ sym was.1, all.1)) (g.whole is t place was.0));
    rolls = λ t place o e. g.rolls t place o (same t place e).0;
  }

  -- who is primary then was it before
  pub no_other : (primary_now : Option ℕ) → (primary_now ≡ Some r → primary ≡ Some r) → Holds r primary_now phases position attempted submitted preempted out
  no_other primary_now was = record { whole = λ is. g.whole (was is); rolls = g.rolls }

  -- one that has committed the whole log becomes primary
  pub elected : (primary_now : Option ℕ) → (primary_now ≡ Some r → (t place : ℕ) → phases t ≡ phase.Logged place → place ≤ position) → Holds r primary_now phases position attempted submitted preempted out
  elected primary_now all = record { whole = λ is t place e. inl (all is t place e); rolls = g.rolls }

  pub taken : (now : Job) → ((t place : ℕ) → now ≡ job.Rollback t → phases t ≡ phase.Logged place → preempted t ≡ true) → Holds r primary phases position attempted submitted preempted (Some now)
  taken now rolls = record { whole = g.whole; rolls = λ t place e. rolls t place (same_some now (job.Rollback t) e) }

  -- some are preempted, not at the primary
  pub more_preempted : (preempted_now : ℕ → Bool) → (primary ≡ Some r → ⊥) → ((t : ℕ) → preempted t ≡ true → preempted_now t ≡ true) → Holds r primary phases position attempted submitted preempted_now out
  more_preempted preempted_now not_it kept = record { whole = λ is. absurd (not_it is); rolls = λ t place o e. kept t (g.rolls t place o e) }

-- no job is out any more
pub replied : {r : ℕ} {primary : Option ℕ} {phases : ℕ → Phase} {position : ℕ} {attempted submitted : ℕ → ℕ} {preempted : ℕ → Bool}
    → (primary ≡ Some r → (t place : ℕ) → phases t ≡ phase.Logged place → IsHeld place position (attempted t) (submitted t) (preempted t)) → Holds r primary phases position attempted submitted preempted None
replied whole = record { whole = whole; rolls = λ t place o e. absurd (some_none (job.Rollback t) (sym o)) }
