-- What every history keeps of the primary's part: how many answers were given, and how many each attempt has.
use Rattle.std.specs.Prelude.{◌≡◌, ◌⊎◌, ℕ, ◌≤◌, Bool, true, false, Option, Some, None, is_some, length}
use Rattle.hr_engine.specs.Attempts.{attempt}
use Rattle.hr_engine.specs.Base.{settled}
use Rattle.hr_history.specs.declared.job.Job.{Job}
use Rattle.hr_history.specs.declared.job.Job.TheVariants as job
use Rattle.hr_history.specs.History.{History}
use Rattle.hr_history.specs.Transactions.{phase_of, is_open}
use Rattle.hr_history.specs.Replicas.{out_at, journal_of}
use Rattle.hr_history.specs.Primary.{primary_of}
use Rattle.hr_history.specs.Given.{given_to}
use Rattle.hr_history.specs.Attempts.{is_preempted}
use Rattle.hr_history.specs.Turn.{went}

-- Of replica r, the primary, whether the primary went in this turn, which transactions are open, how many answers each was
-- given and has in its attempt at r, the job out at r, which were preempted there, and whether r is lost.
pub record Leads (r : ℕ) (primary : Option ℕ) (gone : Bool) (active : ℕ → Bool) (given attempted : ℕ → ℕ) (out : Option Job) (preempted : ℕ → Bool) (lost : Bool) : Type 0 where
  -- the primary's attempts of open transactions have the answers that were given, and none was preempted there
  pub leads : primary ≡ Some r → (t : ℕ) → active t ≡ true → (attempted t ≡ given t) × (preempted t ≡ false)
  -- the primary isn't lost
  pub live : primary ≡ Some r → lost ≡ false
  -- no attempt of an open transaction is ahead of the answers given
  pub follows : (t : ℕ) → active t ≡ true → attempted t ≤ given t
  -- the statement that is out has an answer that was given, unless r is the primary, or went
  pub ahead : (t i : ℕ) → out ≡ Some (job.Run t i) → active t ≡ true → (i ≤ given t) ⊎ (primary ≡ Some r) ⊎ (gone ≡ true)
  -- while there is no primary, no open transaction has answers, but in the turn in which it went
  pub vacant : primary ≡ None → (t : ℕ) → active t ≡ true → (given t ≡ 0) ⊎ (gone ≡ true)
  -- who was preempted runs
  pub preempts : (t : ℕ) → preempted t ≡ true → 1 ≤ attempted t
  -- an open transaction is rolled back only where it was preempted, and never committed
  pub rolls_back : (t : ℕ) → out ≡ Some (job.Rollback t) → (active t ≡ false) ⊎ (preempted t ≡ true)
  pub commits : (t : ℕ) → out ≡ Some (job.Commit t) → active t ≡ false

abbrev pub LeadsAt : ℕ → History → Type 0
LeadsAt r h =
    Leads r (primary_of h) (is_some (went h)) (λ t. is_open (phase_of t h)) (λ t. length (given_to t h)) (λ t. length (attempt t (journal_of r h)))
    (out_at r h) (λ t. is_preempted r t h) (settled (journal_of r h)).lost
